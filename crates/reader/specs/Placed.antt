-- Kinded n at r      r is the kind with the number n, or the fault of a record that stands at an offset: n is that of none
-- sized n at body    the bytes of a body that stands at an offset, if there are n of them, or the fault
use Rattle.std.specs.Prelude.{◌≡◌, ℕ, cond, List, length, Ok, Err, Result, MatchResult, ◌==◌, ◌≢◌}
use Rattle.reader.specs.declared.fault.Fault as faults
use Rattle.reader.specs.declared.fault.Fault.TheVariants.{Kind, Length}
use Rattle.reader.specs.declared.kind.Kind as kinds
use Rattle.reader.specs.Kind.{number}

abbrev pub Kinded : ℕ → ℕ → Result kinds.Kind faults.Fault → Type 0
Kinded n at r = MatchResult r (λ k. number k ≡ n) (λ f. (f ≡ Kind at) × ((k : kinds.Kind) → number k ≢ n))

abbrev pub sized : ℕ → ℕ → List ℕ → Result (List ℕ) faults.Fault
sized n at body = cond (length body == n) (Ok body) (Err (Length at))
