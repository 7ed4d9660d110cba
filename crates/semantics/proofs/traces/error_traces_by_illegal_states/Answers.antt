use Rattle.semantics.proofs.Errors.{error_traces_by_illegal_states_lem}
use Rattle.semantics.proofs.traces.error_traces_by_illegal_states.Goals as goal

pub returns : goal.returns
returns c = error_traces_by_illegal_states_lem
