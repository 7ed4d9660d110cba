use Rattle.roster.proofs.Charts.{holds_none}
use Rattle.roster.proofs.moves.Moves.none.Goals as goal

pub returns : goal.returns
returns c = holds_none 2112
