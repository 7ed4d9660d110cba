-- The laws of what a row tells.
use Rattle.std.proofs.Common.{◌≡◌, ℕ, ◌-◌, ◌≤◌, get_or, replicate, arith}
use Rattle.std.proofs.lemmas.List.{get_or_past}
use Rattle.std.proofs.lemmas.Bool.Decides.{nat_tests}
use Rattle.std.proofs.lemmas.Grind.{common_steps}
use Rattle.semantics.specs.declared.way.Way.TheVariants.{Absent}
use Rattle.reader.specs.declared.row.Row.{Row}
use Rattle.reader.specs.Row.{way_of}

-- the way of a number that is an action
pub way_inside : (row : Row) (a : ℕ) → 1 ≤ a → a ≤ 32 → way_of row a ≡ get_or row.ways (a - 1) Absent
way_inside row a l u = grind (arith, nat_tests)

-- every place of a list of equal elements, and every place behind it
pub get_or_alike : {X : Type 0} (n i : ℕ) (d : X) → get_or (replicate n d) i d ≡ d
get_or_alike {X} n i d = grind (arith, common_steps, get_or_past {X = X})
