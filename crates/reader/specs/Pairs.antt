-- pair_of at kind body    the pair of the record that stands at an offset, or its fault
-- gather ps at rs         the pairs ps, and those of the records rs from an offset on, or the first fault
-- pairs_in bytes          the pairs that some bytes list, or their first fault
-- outcome r               what a reader answered: the things listed, or the fault
use Rattle.std.specs.Prelude.{ℕ, ◌+◌, cond, List, [], ◌∷◌, ◌++◌, length, take, drop, Ok, Err, Result, ◌==◌, nat_lt}
use Rattle.reader.specs.declared.fault.Fault.{Fault}
use Rattle.reader.specs.declared.fault.Fault.TheVariants.{Cut, Kind, Length}
use Rattle.reader.specs.declared.evidence.EvidenceFault as faults
use Rattle.reader.specs.declared.evidence.EvidenceFault.TheVariants.{Record, Pairs}
use Rattle.reader.specs.declared.listing.Listing.{Listing}
use Rattle.reader.specs.declared.pair.Pair.{Pair}
use Rattle.reader.specs.Number.{little}
use Rattle.reader.specs.Record.{Records, none, cut, next, records, size_of}

-- two bytes tell the new state, and the others the set
abbrev pub pair_from : List ℕ → Pair
pair_from body = record { state = little (take 2 body); set = little (drop 2 body) }

-- a pair whose body takes n bytes
abbrev pub pair_sized : ℕ → ℕ → List ℕ → Result Pair Fault
pair_sized n at body = cond (length body == n) (Ok (pair_from body)) (Err (Length at))

-- kind 16 has a set of two bytes, and kind 17 one of eight
abbrev pub pair_of : ℕ → ℕ → List ℕ → Result Pair Fault
pair_of at kind body = cond (kind == 16) (pair_sized 4 at body) (cond (kind == 17) (pair_sized 10 at body) (Err (Kind at)))

abbrev pub joined : (Pair → Result (List Pair) faults.EvidenceFault) → Result Pair Fault → Result (List Pair) faults.EvidenceFault
joined further (Ok p) = further p
joined further (Err f) = Err (Record f)

-- where 4,096 pairs are listed, nothing may follow
unfoldable pub gather : List Pair → ℕ → Records → Result (List Pair) faults.EvidenceFault
gather ps at none = Ok ps
gather ps at cut = cond (nat_lt (length ps) 4096) (Err (Record (Cut at))) (Err Pairs)
gather ps at (next kind body rest) =
    cond (nat_lt (length ps) 4096) (joined (λ p. gather (ps ++ p ∷ []) (at + size_of body) rest) (pair_of at kind body)) (Err Pairs)

unfoldable pub pairs_in : List ℕ → Result (List Pair) faults.EvidenceFault
pairs_in bytes = gather [] 0 (records bytes)

abbrev pub outcome : Result (Listing Pair) faults.EvidenceFault → Result (List Pair) faults.EvidenceFault
outcome (Ok l) = Ok l.items
outcome (Err f) = Err f
