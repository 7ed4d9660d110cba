use Rattle.semantics.proofs.Couplings.{coupling_is_well_formed_lem}
use Rattle.semantics.proofs.coupling.coupling_is_well_formed.Goals as goal

pub returns : goal.returns
returns c = coupling_is_well_formed_lem
