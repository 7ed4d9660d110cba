-- number f    the number by which the fault f is told
-- place f     the offset that f points at
use Rattle.std.specs.Prelude.{ℕ}
use Rattle.reader.specs.declared.fault.Fault as faults
use Rattle.reader.specs.declared.fault.Fault.TheVariants.{Cut, Kind, Length, Value, Repeated, Overfull, Trailing}

abbrev pub number : faults.Fault → ℕ
number (Cut at) = 1
number (Kind at) = 2
number (Length at) = 3
number (Value at) = 4
number (Repeated at) = 5
number (Overfull at) = 6
number (Trailing at) = 7

abbrev pub place : faults.Fault → ℕ
place (Cut at) = at
place (Kind at) = at
place (Length at) = at
place (Value at) = at
place (Repeated at) = at
place (Overfull at) = at
place (Trailing at) = at
