use Rattle.semantics.proofs.Worked.{relay_misses_a_second_reply_lem}
use Rattle.semantics.proofs.examples.relay_misses_a_second_reply.Goals as goal

pub returns : goal.returns
returns c = relay_misses_a_second_reply_lem
