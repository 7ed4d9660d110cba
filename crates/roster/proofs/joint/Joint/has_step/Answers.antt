use Rattle.std.proofs.Common.{arith}
use Rattle.std.proofs.lemmas.Bool.Decides.{nat_tests}
use Rattle.roster.proofs.Answered.{step_is}
use Rattle.roster.proofs.joint.Joint.has_step.Goals as goal

pub returns-then-moves : goal.returns-then-moves
returns-then-moves g c =
    let law = g.met.R.Roster.keeps c.args.self.now.below.now in grind (arith, nat_tests, step_is)

pub returns-else-moves : goal.returns-else-moves
returns-else-moves g c =
    let law = g.met.R.Roster.keeps c.args.self.now.below.now in grind (arith, nat_tests, step_is)
