-- headed, acted, stepped, failed, ended    the row after a head, an action, a step, an error or an end, or its fault
-- with_way, with_step, with_error          the row with one thing more
-- due stage kind                           may a record of this kind stand at this stage?
-- entered row stage at kind body           the row and the stage after a record that stands at an offset, or its fault
-- follow row stage at rs                   the table that the records rs, from an offset on, make of a row, or the first fault
use Rattle.std.specs.Prelude.{ℕ, ◌+◌, ◌-◌, Bool, true, false, cond, ◌&&◌, List, [], ◌∷◌, Ok, Err, Result, ◌==◌, nat_le, nat_lt, slice_set}
use Rattle.semantics.specs.declared.way.Way.{Way}
use Rattle.semantics.specs.declared.way.Way.TheVariants.{Absent, Input, Output}
use Rattle.reader.specs.declared.fault.Fault as faults
use Rattle.reader.specs.declared.fault.Fault.TheVariants.{Cut, Kind, Length, Value, Repeated, Overfull, Trailing}
use Rattle.reader.specs.declared.row.Row.{Row}
use Rattle.reader.specs.declared.row.Step.{Step}
use Rattle.reader.specs.declared.stage.Stage.{Stage}
use Rattle.reader.specs.declared.stage.Stage.TheVariants.{Head, Actions, Steps, Errors, Closed}
use Rattle.reader.specs.Record.{Records, none, cut, next, size_of}
use Rattle.reader.specs.Row.{blank, way_of, error_at, listed, told, declared, fitting}

-- the row with one thing more
abbrev pub with_way : Row → ℕ → Way → Row
with_way r a w = record { states = r.states; start = r.start; ways = slice_set r.ways (a - 1) w; count = r.count; steps = r.steps; errors = r.errors }

abbrev pub with_step : Row → Step → Row
with_step r s = record { states = r.states; start = r.start; ways = r.ways; count = r.count + 1; steps = slice_set r.steps r.count s; errors = r.errors }

abbrev pub with_error : Row → ℕ → Row
with_error r s = record { states = r.states; start = r.start; ways = r.ways; count = r.count; steps = r.steps; errors = slice_set r.errors s true }

-- a head tells the number of states, 1 to 64, and the start
abbrev pub headed : ℕ → List ℕ → Result Row faults.Fault
headed at [] = Err (Length at)
headed at (n ∷ []) = Err (Length at)
headed at (n ∷ s ∷ []) = cond (nat_le 1 n && (nat_le n 64 && nat_lt s n)) (Ok (blank n s)) (Err (Value at))
headed at (n ∷ s ∷ x ∷ xs) = Err (Length at)

-- the way that a number stands for in an action
abbrev pub way_from : ℕ → Way
way_from w = cond (w == 1) Input (cond (w == 2) Output Absent)

-- an action tells its number, 1 to 32, and its way, 1 or 2
abbrev pub acted : Row → ℕ → List ℕ → Result Row faults.Fault
acted r at [] = Err (Length at)
acted r at (a ∷ []) = Err (Length at)
acted r at (a ∷ w ∷ []) =
    cond (nat_le 1 a && (nat_le a 32 && declared (way_from w)))
    (cond (declared (way_of r a)) (Err (Repeated at)) (Ok (with_way r a (way_from w))))
    (Err (Value at))
acted r at (a ∷ w ∷ x ∷ xs) = Err (Length at)

-- a step tells a state, an action and a state
abbrev pub step_in : Row → ℕ → Step → Result Row faults.Fault
step_in r at s =
    cond (fitting r s)
    (cond (told s (listed r)) (Err (Repeated at)) (cond (nat_lt r.count 256) (Ok (with_step r s)) (Err (Overfull at))))
    (Err (Value at))

abbrev pub stepped : Row → ℕ → List ℕ → Result Row faults.Fault
stepped r at [] = Err (Length at)
stepped r at (f ∷ []) = Err (Length at)
stepped r at (f ∷ a ∷ []) = Err (Length at)
stepped r at (f ∷ a ∷ t ∷ []) = step_in r at (record { from = f; action = a; to = t })
stepped r at (f ∷ a ∷ t ∷ x ∷ xs) = Err (Length at)

-- an error tells a state
abbrev pub failed : Row → ℕ → List ℕ → Result Row faults.Fault
failed r at [] = Err (Length at)
failed r at (s ∷ []) = cond (nat_lt s r.states) (cond (error_at r s) (Err (Repeated at)) (Ok (with_error r s))) (Err (Value at))
failed r at (s ∷ x ∷ xs) = Err (Length at)

-- an end tells nothing
abbrev pub ended : Row → ℕ → List ℕ → Result Row faults.Fault
ended r at [] = Ok r
ended r at (x ∷ xs) = Err (Length at)

abbrev pub due : Stage → ℕ → Bool
due Head k = k == 1
due Actions k = nat_le 2 k && nat_le k 5
due Steps k = nat_le 3 k && nat_le k 5
due Errors k = nat_le 4 k && nat_le k 5
due Closed k = false

-- a row that has come to a stage
abbrev pub staged : Stage → Result Row faults.Fault → Result (Row × Stage) faults.Fault
staged stage (Ok r) = Ok (r, stage)
staged stage (Err f) = Err f

-- what a record of a due kind does
abbrev pub taken : Row → ℕ → ℕ → List ℕ → Result (Row × Stage) faults.Fault
taken r at kind body =
    cond (kind == 1) (staged Actions (headed at body))
    (cond (kind == 2) (staged Actions (acted r at body))
    (cond (kind == 3) (staged Steps (stepped r at body))
    (cond (kind == 4) (staged Errors (failed r at body)) (staged Closed (ended r at body)))))

abbrev pub entered : Row → Stage → ℕ → ℕ → List ℕ → Result (Row × Stage) faults.Fault
entered r stage at kind body = cond (due stage kind) (taken r at kind body) (Err (Kind at))

-- where a call went well, what it left
abbrev pub reached : Result (Unit {0}) faults.Fault → Row → Stage → Result (Row × Stage) faults.Fault
reached (Ok u) r stage = Ok (r, stage)
reached (Err f) r stage = Err f

abbrev pub closed : Stage → Bool
closed Head = false
closed Actions = false
closed Steps = false
closed Errors = false
closed Closed = true

abbrev pub onward : (Row → Stage → Result Row faults.Fault) → Result (Row × Stage) faults.Fault → Result Row faults.Fault
onward further (Ok t) = further t.0 t.1
onward further (Err f) = Err f

unfoldable pub follow : Row → Stage → ℕ → Records → Result Row faults.Fault
follow r stage at none = cond (closed stage) (Ok r) (Err (Cut at))
follow r stage at cut = cond (closed stage) (Err (Trailing at)) (Err (Cut at))
follow r stage at (next kind body rest) =
    cond (closed stage) (Err (Trailing at)) (onward (λ r' stage'. follow r' stage' (at + size_of body) rest) (entered r stage at kind body))
