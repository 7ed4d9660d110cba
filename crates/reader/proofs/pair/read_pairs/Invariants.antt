use Rattle.std.proofs.Common.{◌≡◌, ◌*◌, ◌≤◌, length}
use Rattle.reader.specs.Record.{records}
use Rattle.reader.specs.Pairs.{gather, pairs_in}
use Rattle.reader.proofs.pair.read_pairs.Given as goal

abbrev pub invariant-loop-unread : goal.invariant-loop-unread
invariant-loop-unread l = (gather l.pairs.items l.unread.at (records l.unread.rest.now) ≡ pairs_in l.bytes) × (l.unread.at ≤ 14 * length l.pairs.items)

abbrev pub decreases-loop-unread : goal.decreases-loop-unread
decreases-loop-unread l = length l.unread.rest.now
