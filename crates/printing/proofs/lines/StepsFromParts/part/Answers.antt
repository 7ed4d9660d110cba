use Rattle.std.proofs.Common.{ℕ, sym, ap, Some, ◌∙◌}
use Rattle.printing.specs.Text.{each, step_of}
use Rattle.printing.proofs.Steps.{none_under}
use Rattle.printing.proofs.lines.StepsFromParts.part.Goals as goal
use Rattle.printing.proofs.lines.StepsFromParts.part.Goals.{then-leaves, else-leaves}

pub returns : goal.returns
unfolding each
returns c =
    let row = c.args.self.now.row.now in
    let from = c.args.self.now.from in
    let under = λ (ends : ℕ). Some (each ends (λ t. step_of row from c.args.action t)) in
    elim c.if-leaves.branch [
      | then-leaves w ↦ ap under w.ends-is
      | else-leaves w ↦ ap under w.ends-is ∙ ap Some (sym (none_under row from c.args.action (sym w.if-leaves.ensures) row.states))
    ]
