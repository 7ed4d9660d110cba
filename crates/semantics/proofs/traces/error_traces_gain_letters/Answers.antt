use Rattle.semantics.proofs.Errors.{error_traces_gain_letters_lem}
use Rattle.semantics.proofs.traces.error_traces_gain_letters.Goals as goal

pub returns : goal.returns
returns c = error_traces_gain_letters_lem
