-- A set of states is a test on numbers. The words below compute on such sets what runs and traces say.
-- only p               the set of p alone
-- meets n X Y          have X and Y a number below n in common?
-- grown R n X          X, with where one R-step leads from the numbers of X below n
-- grown_by R n X k     X grown k times
-- closure R n X        X, with where any number of R-steps leads
-- moved e X a          where one step under a leads from X
-- reach e X            X, with where internal steps lead from X
-- next e X a           where a leads from X, with internal steps behind it
-- walk e X w           where the word w leads from X, letter by letter
-- after e w            the states after the word w
-- local e p q          has e a local step from p to q: an output step or an internal step?
-- illegal e p          is the state p illegal: do local steps lead from p to an error?
-- fails e X            is there an illegal state in X?
-- misses e X a         is there a state in X that does not accept a?
-- is_word e w          is every letter of w an input or an output?
-- is_trace e w         is w a trace?
-- errs e X w           is there, on the way along w from X, an illegal state or an input that is missed?
-- is_error_trace e w   is w an error trace?
use Rattle.std.specs.Prelude.{ℕ, zero, suc, Bool, true, not, ◌&&◌, ◌||◌, List, [], ◌∷◌, ◌==◌}
use Rattle.semantics.specs.Way.{is_input, is_output}
use Rattle.semantics.specs.System.{System, any, accepts}

unfoldable pub only : ℕ → ℕ → Bool
only p q = p == q

unfoldable pub meets : ℕ → (ℕ → Bool) → (ℕ → Bool) → Bool
meets n X Y = any (λ q. X q && Y q) n

unfoldable pub grown : (ℕ → ℕ → Bool) → ℕ → (ℕ → Bool) → ℕ → Bool
grown R n X q = X q || meets n X (λ p. R p q)

unfoldable pub grown_by : (ℕ → ℕ → Bool) → ℕ → (ℕ → Bool) → ℕ → ℕ → Bool
grown_by R n X zero = X
grown_by R n X (suc k) = grown R n (grown_by R n X k)

-- n times suffice among n numbers, since a set that still grows has one more number each time
unfoldable pub closure : (ℕ → ℕ → Bool) → ℕ → (ℕ → Bool) → ℕ → Bool
closure R n X = grown_by R n X n

unfoldable pub moved : System → (ℕ → Bool) → ℕ → ℕ → Bool
moved e X a q = meets e.states X (λ p. e.step p a q)

unfoldable pub reach : System → (ℕ → Bool) → ℕ → Bool
reach e X = closure (λ p q. e.step p 0 q) e.states X

unfoldable pub next : System → (ℕ → Bool) → ℕ → ℕ → Bool
next e X a = reach e (moved e X a)

unfoldable pub walk : System → (ℕ → Bool) → List ℕ → ℕ → Bool
walk e X [] = X
walk e X (a ∷ w) = walk e (next e X a) w

unfoldable pub after : System → List ℕ → ℕ → Bool
after e w = walk e (reach e (only e.start)) w

unfoldable pub local : System → ℕ → ℕ → Bool
local e p q = e.step p 0 q || any (λ a. is_output (e.way a) && e.step p a q) (suc e.actions)

-- the errors, with where local steps lead when they are taken backwards
unfoldable pub illegal : System → ℕ → Bool
illegal e = closure (λ q p. local e p q) e.states e.error

unfoldable pub fails : System → (ℕ → Bool) → Bool
fails e X = meets e.states X (illegal e)

unfoldable pub misses : System → (ℕ → Bool) → ℕ → Bool
misses e X a = meets e.states X (λ q. not (accepts e q a))

unfoldable pub is_word : System → List ℕ → Bool
is_word e [] = true
is_word e (a ∷ w) = (is_input (e.way a) || is_output (e.way a)) && is_word e w

unfoldable pub is_trace : System → List ℕ → Bool
is_trace e w = is_word e w && any (after e w) e.states

unfoldable pub errs : System → (ℕ → Bool) → List ℕ → Bool
errs e X [] = fails e X
errs e X (a ∷ w) = fails e X || ((is_input (e.way a) && misses e X a) || errs e (next e X a) w)

unfoldable pub is_error_trace : System → List ℕ → Bool
is_error_trace e w = is_word e w && errs e (reach e (only e.start)) w
