use Rattle.semantics.proofs.Decided.{reach_keeps_its_rules_lem}
use Rattle.semantics.proofs.deciding.reach_keeps_its_rules.Goals as goal

pub returns : goal.returns
returns c = reach_keeps_its_rules_lem
