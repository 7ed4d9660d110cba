use Rattle.std.proofs.Common.{arith}
use Rattle.reader.proofs.Unknown.{no_way}
use Rattle.reader.proofs.draft.Draft.action.Goals as goal

pub returns-in_default : goal.returns-in_default
returns-in_default c = let f = no_way _ c.in_default.ensures.1 in grind arith
