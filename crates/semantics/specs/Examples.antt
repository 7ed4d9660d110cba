-- Worked examples, against careless readings of the definitions.
-- step_in steps p x q       is the step from p under x to q in the list?
-- state_in states p         is the state p in the list?
-- one_of_each i o x         the way of x where i is the only input and o the only output
-- small n i o steps errors  a system with n states and start 0, the input i and the output o
-- late                      takes its input only after an internal step
-- doomed                    takes an input, and then runs into an error by an output of its own
-- replying                  takes an input and answers it by an output, again and again
-- silent                    takes an input and does nothing more
-- relay                     takes what `replying` puts out, and passes it on under another number
use Rattle.std.specs.Prelude.{◌≡◌, ℕ, max, Bool, true, false, cond, ◌&&◌, ◌||◌, List, [], ◌∷◌, ◌==◌}
use Rattle.semantics.specs.declared.way.Way.{Way}
use Rattle.semantics.specs.declared.way.Way.TheVariants.{Absent, Input, Output}
use Rattle.semantics.specs.System.{System, accepts}
use Rattle.semantics.specs.Trace.{StrictError, ErrorTrace, Trace}
use Rattle.semantics.specs.Replacement.{MayReplace}
use Rattle.semantics.specs.Coupling.{couple}

abbrev pub step_in : List (ℕ × ℕ × ℕ) → ℕ → ℕ → ℕ → Bool
step_in [] p x q = false
step_in ((p', x', q') ∷ rest) p x q = (p == p' && (x == x' && q == q')) || step_in rest p x q

abbrev pub state_in : List ℕ → ℕ → Bool
state_in [] p = false
state_in (p' ∷ rest) p = p == p' || state_in rest p

abbrev pub one_of_each : ℕ → ℕ → ℕ → Way
one_of_each i o x = cond (x == i) Input (cond (x == o) Output Absent)

abbrev pub small : ℕ → ℕ → ℕ → List (ℕ × ℕ × ℕ) → List ℕ → System
small n i o steps errors =
    record {
      states = n;
      start = 0;
      actions = max i o;
      way = one_of_each i o;
      error = state_in errors;
      step = step_in steps;
    }

abbrev pub late : System
late = small 2 1 2 ((0, 0, 1) ∷ (1, 1, 1) ∷ []) []

abbrev pub doomed : System
doomed = small 3 1 2 ((0, 1, 1) ∷ (1, 2, 2) ∷ []) (2 ∷ [])

abbrev pub replying : System
replying = small 2 1 2 ((0, 1, 1) ∷ (1, 2, 0) ∷ []) []

abbrev pub silent : System
silent = small 2 1 2 ((0, 1, 1) ∷ []) []

abbrev pub relay : System
relay = small 2 2 3 ((0, 2, 1) ∷ (1, 3, 0) ∷ []) []

-- At first `late` does not accept its input, though it can take it later: the word is a trace and an error trace.
abbrev pub LateInputIsMissed : Type 0
LateInputIsMissed =
    (accepts late 0 1 ≡ false) × (accepts late 1 1 ≡ true) × Trace late (1 ∷ []) × ErrorTrace late (1 ∷ [])

-- After its input `doomed` is in no error yet, but nobody can keep it from its output: the word before the output is an
-- error trace, and the empty word is none.
abbrev pub OutputIntoErrorCountsBeforeIt : Type 0
OutputIntoErrorCountsBeforeIt =
    (StrictError doomed (1 ∷ []) → ⊥) × ErrorTrace doomed (1 ∷ []) × (ErrorTrace doomed [] → ⊥)

-- Whoever gets on with replies gets on without them,
abbrev pub SilentMayReplaceReplying : Type 0
SilentMayReplaceReplying = MayReplace silent replying

-- but whoever expects none need not take one.
abbrev pub ReplyingMayNotReplaceSilent : Type 0
ReplyingMayNotReplaceSilent = MayReplace replying silent → ⊥

-- The state (p, q) has the number p * 2 + q. Action 2 is synchronised: it is hidden, and leads from (1, 0) to (0, 1). In
-- (1, 1) `replying` puts out what `relay` does not accept there, and that is the only error.
pub record ReplyingWithRelay (c : System) : Type 0 where
  pub states : c.states ≡ 4
  pub start : c.start ≡ 0
  pub input : c.way 1 ≡ Input
  pub hidden : c.way 2 ≡ Absent
  pub output : c.way 3 ≡ Output
  pub passed_on : c.step 2 0 1 ≡ true
  pub at_00 : c.error 0 ≡ false
  pub at_01 : c.error 1 ≡ false
  pub at_10 : c.error 2 ≡ false
  pub at_11 : c.error 3 ≡ true

abbrev pub RelayMissesASecondReply : Type 0
RelayMissesASecondReply = ReplyingWithRelay (couple replying relay)
