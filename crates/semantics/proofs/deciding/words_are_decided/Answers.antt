use Rattle.semantics.proofs.Decided.{words_are_decided_lem}
use Rattle.semantics.proofs.deciding.words_are_decided.Goals as goal

pub returns : goal.returns
returns c = words_are_decided_lem
