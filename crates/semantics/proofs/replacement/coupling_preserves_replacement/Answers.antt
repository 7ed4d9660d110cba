use Rattle.semantics.proofs.Replacing.{coupling_preserves_replacement_lem}
use Rattle.semantics.proofs.replacement.coupling_preserves_replacement.Goals as goal

pub returns : goal.returns
returns c = coupling_preserves_replacement_lem
