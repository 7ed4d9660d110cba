use Rattle.semantics.proofs.Worked.{replying_may_not_replace_silent_lem}
use Rattle.semantics.proofs.examples.replying_may_not_replace_silent.Goals as goal

pub returns : goal.returns
returns c = replying_may_not_replace_silent_lem
