use Rattle.semantics.proofs.Couplings.{coupling_goes_state_by_state_lem}
use Rattle.semantics.proofs.coupling.coupling_goes_state_by_state.Goals as goal

pub returns : goal.returns
returns c = coupling_goes_state_by_state_lem
