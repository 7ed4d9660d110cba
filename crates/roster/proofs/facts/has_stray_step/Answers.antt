use Rattle.std.proofs.Common.{not, take, rules, ◌∙◌, arith, tests}
use Rattle.std.proofs.lemmas.List.{length-take}
use Rattle.std.proofs.lemmas.Iterator.{YieldsList-from_slice}
use Rattle.std.proofs.lemmas.Iterator.Search.{any_from_yields_List}
use Rattle.reader.specs.Row.{fitting}
use Rattle.roster.proofs.Tables.{stray_steps}
use Rattle.roster.proofs.facts.has_stray_step.Goals as goal

pub returns : goal.returns
returns c =
    let row = c.args.row.now in
    any_from_yields_List (λ s. not (fitting row s)) _ _ _ c.any.ensures.ran (YieldsList-from_slice (take row.count row.steps) cc) (λ x b q k. search (rules, tests)) ∙ stray_steps row (omega (arith, length-take row.count row.steps))
