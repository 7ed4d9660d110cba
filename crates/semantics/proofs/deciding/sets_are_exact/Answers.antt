use Rattle.semantics.proofs.Decided.{sets_are_exact_lem}
use Rattle.semantics.proofs.deciding.sets_are_exact.Goals as goal

pub returns : goal.returns
returns c = sets_are_exact_lem
