-- ending_of e i     the ending of number e with the input i, or none
-- moves_in bytes    the moves that some bytes tell, three bytes for each
-- run_in bytes      the run that some bytes tell, as its ending and its moves, or their first fault
-- outcome r         what a reader answered: the run, or the fault
use Rattle.std.specs.Prelude.{ℕ, ◌+◌, ◌/◌, ◌%◌, cond, ◌&&◌, List, [], ◌∷◌, length, Some, None, Ok, Err, Option, Result, ◌==◌, nat_le}
use Rattle.reader.specs.declared.fault.Fault.TheVariants.{Cut, Kind, Length, Value, Trailing}
use Rattle.reader.specs.declared.evidence.EvidenceFault.{EvidenceFault}
use Rattle.reader.specs.declared.evidence.EvidenceFault.TheVariants.{Record, Moves}
use Rattle.reader.specs.declared.run.Ending as endings
use Rattle.reader.specs.declared.run.Ending.TheVariants.{Flooded, Error, Unaccepted}
use Rattle.reader.specs.declared.run.Move.{Move}
use Rattle.reader.specs.declared.run.Run as code
use Rattle.reader.specs.Number.{little}
use Rattle.reader.specs.Record.{front}

-- only the third ending has an input, and 0 stands in its place in the others
abbrev pub ending_of : ℕ → ℕ → Option endings.Ending
ending_of e i =
    cond (e == 1 && i == 0) (Some Flooded) (cond (e == 2 && i == 0) (Some Error) (cond (e == 3) (Some (Unaccepted i)) None))

-- an action, and the state of two bytes, for each
abbrev pub moves_in : List ℕ → List Move
moves_in [] = []
moves_in (a ∷ []) = []
moves_in (a ∷ b ∷ []) = []
moves_in (a ∷ b ∷ c ∷ bytes) = record { action = a; state = little (b ∷ c ∷ []) } ∷ moves_in bytes

-- a run by its ending and its moves
abbrev pub Told : Type 0
Told = endings.Ending × List Move

-- nothing may follow the record: its head, its ending and its input take six bytes
abbrev pub alone : List ℕ → List ℕ → Option endings.Ending → Result Told EvidenceFault
alone moves behind None = Err (Record (Value 0))
alone moves behind (Some ending) = cond (length behind == 0) (Ok (ending, moves_in moves)) (Err (Record (Trailing (6 + length moves))))

-- three bytes for each move, and at most 4,096 moves
abbrev pub moved : ℕ → ℕ → List ℕ → List ℕ → Result Told EvidenceFault
moved e i moves behind =
    cond (length moves % 3 == 0)
    (cond (nat_le (length moves / 3) 4096) (alone moves behind (ending_of e i)) (Err (Moves (length moves / 3))))
    (Err (Record (Length 0)))

-- an ending and an input, then the moves
abbrev pub embodied : List ℕ → List ℕ → Result Told EvidenceFault
embodied [] behind = Err (Record (Length 0))
embodied (e ∷ []) behind = Err (Record (Length 0))
embodied (e ∷ i ∷ moves) behind = moved e i moves behind

-- one record of kind 18
abbrev pub recorded : Option (ℕ × List ℕ × List ℕ) → Result Told EvidenceFault
recorded None = Err (Record (Cut 0))
recorded (Some t) = cond (t.0 == 18) (embodied t.1 t.2) (Err (Record (Kind 0)))

unfoldable pub run_in : List ℕ → Result Told EvidenceFault
run_in bytes = recorded (front bytes)

abbrev pub outcome : Result code.Run EvidenceFault → Result Told EvidenceFault
outcome (Ok run) = Ok (run.ending, run.moves.items)
outcome (Err f) = Err f
