-- Tells kind body p        a record of this kind and with this body tells the pair p
-- PairsLaid bytes ps       the bytes are records that tell the pairs ps, one by one
-- PairsBreak bytes f       the fault f points at the first record that tells no pair, or at one too many
-- MovesTold bytes ms       the bytes tell the moves ms
-- RunLaid bytes e ms       the bytes are one record that tells a run with the ending e and the moves ms
-- RunBreaks bytes f        the fault f names what keeps the bytes from being one
use Rattle.std.specs.Prelude.{◌≡◌, ℕ, ◌+◌, ◌*◌, ◌<◌, ◌≤◌, ◌⊎◌, List, [], ◌∷◌, length, Some, None, ◌≢◌}
use Rattle.reader.specs.declared.fault.Fault as faults
use Rattle.reader.specs.declared.fault.Fault.TheVariants.{Cut, Kind, Length, Value, Repeated, Overfull, Trailing}
use Rattle.reader.specs.declared.evidence.EvidenceFault.{EvidenceFault}
use Rattle.reader.specs.declared.evidence.EvidenceFault.TheVariants.{Record, Pairs, Moves}
use Rattle.reader.specs.declared.pair.Pair.{Pair}
use Rattle.reader.specs.declared.run.Ending.{Ending}
use Rattle.reader.specs.declared.run.Move.{Move}
use Rattle.reader.specs.Fault.{place}
use Rattle.reader.specs.Number.{little}
use Rattle.reader.specs.Pairs.{pair_from}
use Rattle.reader.specs.Record.{Records, none, cut, next, records, followed, sizes}
use Rattle.reader.specs.Run.{ending_of}

-- kind 16 has a body of 4 bytes, and kind 17 one of 10
abbrev pub Tells : ℕ → List ℕ → Pair → Type 0
Tells kind body p = (((kind ≡ 16) × (length body ≡ 4)) ⊎ ((kind ≡ 17) × (length body ≡ 10))) × (p ≡ pair_from body)

abbrev pub AllTell : List (ℕ × List ℕ) → List Pair → Type 0
AllTell [] [] = Unit {0}
AllTell [] (p ∷ ps) = ⊥
AllTell (x ∷ xs) [] = ⊥
AllTell (x ∷ xs) (p ∷ ps) = Tells x.0 x.1 p × AllTell xs ps

unfoldable pub PairsLaid : List ℕ → List Pair → Type 0
PairsLaid bytes ps = (xs : List (ℕ × List ℕ)) × (records bytes ≡ followed xs none) × AllTell xs ps × (length ps ≤ 4096)

-- what stands where the fault of a record points: an incomplete record, one of another kind, or one of another length
abbrev pub TellsNone : faults.Fault → Records → Type 0
TellsNone (Cut at) rest = rest ≡ cut
TellsNone (Kind at) rest = (kind : ℕ) × (body : List ℕ) × (more : Records) × (rest ≡ next kind body more) × (kind ≢ 16) × (kind ≢ 17)
TellsNone (Length at) rest =
    (kind : ℕ) × (body : List ℕ) × (more : Records) × (rest ≡ next kind body more)
    × (((kind ≡ 16) × (length body ≢ 4)) ⊎ ((kind ≡ 17) × (length body ≢ 10)))
TellsNone (Value at) rest = ⊥
TellsNone (Repeated at) rest = ⊥
TellsNone (Overfull at) rest = ⊥
TellsNone (Trailing at) rest = ⊥

-- behind some records that tell pairs: where 4,096 are told, any byte; else a record that tells none
abbrev pub PairsStand : EvidenceFault → List (ℕ × List ℕ) → Records → Type 0
PairsStand Pairs xs rest = (length xs ≡ 4096) × (rest ≢ none)
PairsStand (Record f) xs rest = (length xs < 4096) × (sizes xs ≡ place f) × TellsNone f rest
PairsStand (Moves n) xs rest = ⊥

unfoldable pub PairsBreak : List ℕ → EvidenceFault → Type 0
PairsBreak bytes f =
    (xs : List (ℕ × List ℕ)) × (ps : List Pair) × (rest : Records) × (records bytes ≡ followed xs rest) × AllTell xs ps × PairsStand f xs rest

-- three bytes for each move: the action, and the state with its low byte first
abbrev pub MovesTold : List ℕ → List Move → Type 0
MovesTold bytes [] = bytes ≡ []
MovesTold bytes (m ∷ ms) =
    (more : List ℕ) × (low : ℕ) × (high : ℕ) × (bytes ≡ m.action ∷ low ∷ high ∷ more) × (m.state ≡ little (low ∷ high ∷ [])) × MovesTold more ms

-- an ending, an input and the moves, and nothing behind them
unfoldable pub RunLaid : List ℕ → Ending → List Move → Type 0
RunLaid bytes ending ms =
    (e : ℕ) × (i : ℕ) × (moves : List ℕ) × (records bytes ≡ next 18 (e ∷ i ∷ moves) none)
    × (ending_of e i ≡ Some ending) × MovesTold moves ms × (length ms ≤ 4096)

-- a record of kind 18 whose body is an ending, an input and n moves
abbrev pub Embodies : Records → ℕ → ℕ → ℕ → Records → Type 0
Embodies rs e i n rest = (moves : List ℕ) × (rs ≡ next 18 (e ∷ i ∷ moves) rest) × (length moves ≡ 3 * n)

abbrev pub RunStands : EvidenceFault → Records → Type 0
RunStands (Record (Cut at)) rs = (at ≡ 0) × ((rs ≡ none) ⊎ (rs ≡ cut))
RunStands (Record (Kind at)) rs = (at ≡ 0) × ((kind : ℕ) × (body : List ℕ) × (rest : Records) × (rs ≡ next kind body rest) × (kind ≢ 18))
RunStands (Record (Length at)) rs = (at ≡ 0) × ((body : List ℕ) × (rest : Records) × (rs ≡ next 18 body rest) × ((n : ℕ) → length body ≢ 2 + 3 * n))
RunStands (Record (Value at)) rs = (at ≡ 0) × ((e : ℕ) × (i : ℕ) × (n : ℕ) × (rest : Records) × Embodies rs e i n rest × (n ≤ 4096) × (ending_of e i ≡ None))
RunStands (Record (Trailing at)) rs = (e : ℕ) × (i : ℕ) × (n : ℕ) × (rest : Records) × Embodies rs e i n rest × (n ≤ 4096) × (rest ≢ none) × (at ≡ 6 + 3 * n)
RunStands (Record (Repeated at)) rs = ⊥
RunStands (Record (Overfull at)) rs = ⊥
RunStands (Moves n) rs = (e : ℕ) × (i : ℕ) × (rest : Records) × Embodies rs e i n rest × (4096 < n)
RunStands Pairs rs = ⊥

unfoldable pub RunBreaks : List ℕ → EvidenceFault → Type 0
RunBreaks bytes f = RunStands f (records bytes)
