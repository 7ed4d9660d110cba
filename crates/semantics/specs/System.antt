-- System           a component with inputs, outputs and errors: its states, the ways of its actions, its errors, its steps
-- WellFormed e     e speaks of no other states and actions than its own
-- Same c d         c and d have the same states, start, ways, errors and steps
-- any f n          does some number below n pass the test f?
-- has_step e p x   has the state p a step under the action x?
-- accepts e p x    does the state p take the input x, by a step of its own?
use Rattle.std.specs.Prelude.{◌≡◌, ℕ, zero, suc, ◌<◌, ◌≤◌, Bool, true, false, ◌||◌, ◌≢◌, ◌⊎◌}
use Rattle.semantics.specs.declared.way.Way.{Way}
use Rattle.semantics.specs.declared.way.Way.TheVariants.{Absent}

-- The states are the numbers below `states`, as many as one likes. The actions are those of the numbers 1 to `actions`
-- that have a way, and 0 stands for the internal action. `step p x q` says whether a step leads from p under x to q.
pub record System : Type 0 where
  pub states : ℕ
  pub start : ℕ
  pub actions : ℕ
  pub way : ℕ → Way
  pub error : ℕ → Bool
  pub step : ℕ → ℕ → ℕ → Bool

pub record WellFormed (e : System) : Type 0 where
  pub start_in : e.start < e.states
  pub internal : e.way 0 ≡ Absent
  pub ways_in : (x : ℕ) → e.way x ≢ Absent → x ≤ e.actions
  pub errors_in : (p : ℕ) → e.error p ≡ true → p < e.states
  pub from_in : (p x q : ℕ) → e.step p x q ≡ true → p < e.states
  pub to_in : (p x q : ℕ) → e.step p x q ≡ true → q < e.states
  pub named : (p x q : ℕ) → e.step p x q ≡ true → (x ≡ 0) ⊎ (e.way x ≢ Absent)

pub record Same (c d : System) : Type 0 where
  pub states : c.states ≡ d.states
  pub start : c.start ≡ d.start
  pub ways : (x : ℕ) → c.way x ≡ d.way x
  pub errors : (p : ℕ) → c.error p ≡ d.error p
  pub steps : (p x q : ℕ) → c.step p x q ≡ d.step p x q

unfoldable pub any : (ℕ → Bool) → ℕ → Bool
any f zero = false
any f (suc n) = f n || any f n

unfoldable pub has_step : System → ℕ → ℕ → Bool
has_step e p x = any (e.step p x) e.states

-- Everything that is said about an input which is not taken goes by this one test. A state that could take the input
-- only after an internal step does not take it.
unfoldable pub accepts : System → ℕ → ℕ → Bool
accepts e p x = has_step e p x
