use Rattle.semantics.proofs.Worked.{late_input_is_missed_lem}
use Rattle.semantics.proofs.examples.late_input_is_missed.Goals as goal

pub returns : goal.returns
returns c = late_input_is_missed_lem
