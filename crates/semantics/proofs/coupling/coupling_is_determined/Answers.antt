use Rattle.semantics.proofs.Couplings.{coupling_is_determined_lem}
use Rattle.semantics.proofs.coupling.coupling_is_determined.Goals as goal

pub returns : goal.returns
returns c = coupling_is_determined_lem
