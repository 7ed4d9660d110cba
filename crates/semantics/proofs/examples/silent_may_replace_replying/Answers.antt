use Rattle.semantics.proofs.Worked.{silent_may_replace_replying_lem}
use Rattle.semantics.proofs.examples.silent_may_replace_replying.Goals as goal

pub returns : goal.returns
returns c = silent_may_replace_replying_lem
