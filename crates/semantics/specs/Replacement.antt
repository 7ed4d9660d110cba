-- MayReplace a b    a may replace b: it has the same inputs and outputs, and neither an error trace nor a flooded trace
--                   that b has not
use Rattle.std.specs.Prelude.{◌≡◌, ℕ, List}
use Rattle.semantics.specs.System.{System}
use Rattle.semantics.specs.Trace.{ErrorTrace, Flooded}

pub record MayReplace (a b : System) : Type 0 where
  pub ways : (x : ℕ) → a.way x ≡ b.way x
  pub errors : (w : List ℕ) → ErrorTrace a w → ErrorTrace b w
  pub floods : (w : List ℕ) → Flooded a w → Flooded b w
