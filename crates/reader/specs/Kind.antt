-- number k    the number that stands for the kind k of a record
use Rattle.std.specs.Prelude.{ℕ}
use Rattle.reader.specs.declared.kind.Kind as kinds
use Rattle.reader.specs.declared.kind.Kind.TheVariants.{Head, Action, Step, Error, End, NarrowPair, WidePair, Run}

abbrev pub number : kinds.Kind → ℕ
number Head = 1
number Action = 2
number Step = 3
number Error = 4
number End = 5
number NarrowPair = 16
number WidePair = 17
number Run = 18
