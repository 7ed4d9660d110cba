-- number w       the number that stands for the way w: 0 absent, 1 input, 2 output
-- is_input w     does w say that the action is an input?
-- is_output w    does w say that the action is an output?
use Rattle.std.specs.Prelude.{ℕ, Bool, true, false}
use Rattle.semantics.specs.declared.way.Way as ways
use Rattle.semantics.specs.declared.way.Way.TheVariants.{Absent, Input, Output}

abbrev pub number : ways.Way → ℕ
number Absent = 0
number Input = 1
number Output = 2

abbrev pub is_input : ways.Way → Bool
is_input Absent = false
is_input Input = true
is_input Output = false

abbrev pub is_output : ways.Way → Bool
is_output Absent = false
is_output Input = false
is_output Output = true
