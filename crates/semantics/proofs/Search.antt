-- Tests, and bounded search: steps that are looked for among all states.
use Rattle.std.proofs.Common.{◌≡◌, ℕ, ◌<◌, Bool, true, refl, arith}
use Rattle.std.specs.Bool.{Decides}
use Rattle.std.proofs.lemmas.Bool.Decides.{Decides-below_or}
use Rattle.semantics.specs.System.{System, WellFormed, any, has_step, accepts}

pub same_test : (s t : Bool) → (s ≡ true → t ≡ true) → (t ≡ true → s ≡ true) → s ≡ t
same_test s t f g = grind arith

any_decides : (f : ℕ → Bool) (n : ℕ) → Decides (any f n) ((q : ℕ) × (q < n) × (f q ≡ true))
unfolding any
any_decides f n = Decides-below_or f (λ q. f q ≡ true) (any f) (λ q. (λ e. e, λ e. e)) refl (λ n. refl) n

pub any_view : (f : ℕ → Bool) (n : ℕ) → any f n ≡ true → (q : ℕ) × (q < n) × (f q ≡ true)
any_view f n e = (any_decides f n).0 e

pub any_make : (f : ℕ → Bool) (n q : ℕ) → q < n → f q ≡ true → any f n ≡ true
any_make f n q h t = (any_decides f n).1 (q, h, t)

pub has_step_view : (e : System) (p x : ℕ) → has_step e p x ≡ true → (q : ℕ) × (e.step p x q ≡ true)
unfolding has_step
has_step_view e p x t = let (q, h, s) = any_view (e.step p x) e.states t in (q, s)

pub has_step_make : {e : System} → WellFormed e → {p x q : ℕ} → e.step p x q ≡ true → has_step e p x ≡ true
unfolding has_step
has_step_make {e} wf {p} {x} {q} s = any_make (e.step p x) e.states q (wf.to_in p x q s) s

-- All that is known of acceptance elsewhere: another definition of it has to prove these two again.
pub accepts_view : (e : System) (p x : ℕ) → accepts e p x ≡ true → (q : ℕ) × (e.step p x q ≡ true)
unfolding accepts
accepts_view e p x t = has_step_view e p x t

pub accepts_make : {e : System} → WellFormed e → {p x q : ℕ} → e.step p x q ≡ true → accepts e p x ≡ true
unfolding accepts
accepts_make wf s = has_step_make wf s
