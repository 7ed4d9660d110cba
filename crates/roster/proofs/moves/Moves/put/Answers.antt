use Rattle.std.proofs.Common.{arith}
use Rattle.roster.proofs.Charts.{holds_put}
use Rattle.roster.proofs.moves.Moves.put.Goals as goal

pub returns-then-step-lt64-2 : goal.returns-then-step-lt64-2
returns-then-step-lt64-2 c =
    let action = c.from in
    let from = c.from-then-step-lt64-2 in
    let to = c.from-then-step-lt64-2-2 in
    holds_put c.args.self.now.sets c.args.step from.result action.result to.result c.with.result from.ensures action.ensures to.ensures (omega arith) (omega arith) c.with.ensures
