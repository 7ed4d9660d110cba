use Rattle.std.proofs.Common.{arith}
use Rattle.std.proofs.lemmas.Bool.Decides.{nat_tests}
use Rattle.roster.proofs.Answered.{error_is}
use Rattle.roster.proofs.joint.Joint.is_error.Goals as goal

pub returns-then-fails : goal.returns-then-fails
returns-then-fails g c =
    let law = g.met.R.Roster.keeps c.args.self.now.below.now in grind (arith, nat_tests, error_is)

pub returns-else-fails : goal.returns-else-fails
returns-else-fails g c =
    let law = g.met.R.Roster.keeps c.args.self.now.below.now in grind (arith, nat_tests, error_is)
