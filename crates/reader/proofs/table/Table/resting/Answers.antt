use Rattle.std.proofs.Common.{arith}
use Rattle.reader.proofs.Keeps.{kept-blank}
use Rattle.reader.proofs.table.Table.resting.Goals as goal

pub invariant_of-result : goal.invariant_of-result
invariant_of-result c =
    let k = kept-blank c.blank.result _ _ c.blank.ensures (omega arith) (omega arith) (omega arith) in
    record { some = k.1.0; few = k.1.1; begins = k.1.2; room = k.1.3; fits = k.1.4; fails = k.1.5 }
