use Rattle.semantics.proofs.Errors.{error_traces_lose_outputs_lem}
use Rattle.semantics.proofs.traces.error_traces_lose_outputs.Goals as goal

pub returns : goal.returns
returns c = error_traces_lose_outputs_lem
