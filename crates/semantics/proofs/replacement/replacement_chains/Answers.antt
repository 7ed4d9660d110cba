use Rattle.semantics.proofs.Replacing.{replacement_chains_lem}
use Rattle.semantics.proofs.replacement.replacement_chains.Goals as goal

pub returns : goal.returns
returns c = replacement_chains_lem
