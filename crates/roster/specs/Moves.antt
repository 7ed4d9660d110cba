-- in_chart p x q      are p and q numbers of states of a table, and is x 0 or the number of an action?
-- holds sets p x q    is q in the set that a chart keeps for the state p and the action x?
-- Charted r sets      the sets of a chart hold exactly the steps that the row r tells
use Rattle.std.specs.Prelude.{◌≡◌, ℕ, ◌+◌, ◌*◌, Bool, ◌&&◌, List, nat_lt, slice_index}
use Rattle.reader.specs.declared.row.Row.{Row}
use Rattle.reader.specs.Row.{listed, told}
use Rattle.roster.specs.Bits.{bit}

abbrev pub in_chart : ℕ → ℕ → ℕ → Bool
in_chart p x q = nat_lt p 64 && (nat_lt x 33 && nat_lt q 64)

-- the set for the state p and the action x stands at place x * 64 + p
unfoldable pub holds : List ℕ → ℕ → ℕ → ℕ → Bool
holds sets p x q = in_chart p x q && bit (slice_index sets (x * 64 + p)) q

abbrev pub Charted : Row → List ℕ → Type 0
Charted r sets = (p x q : ℕ) → holds sets p x q ≡ (in_chart p x q && told (record { from = p; action = x; to = q }) (listed r))
