use Rattle.semantics.proofs.Worked.{output_into_error_counts_before_it_lem}
use Rattle.semantics.proofs.examples.output_into_error_counts_before_it.Goals as goal

pub returns : goal.returns
returns c = output_into_error_counts_before_it_lem
