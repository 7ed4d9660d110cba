use Rattle.std.proofs.Common.{◌≡◌, length}
use Rattle.reader.specs.Record.{records}
use Rattle.reader.specs.Draft.{follow}
use Rattle.reader.specs.Table.{opened}
use Rattle.reader.proofs.Keeps.{Keeps, sized}
use Rattle.reader.proofs.table.read.Given as goal

abbrev pub invariant-loop-unread : goal.invariant-loop-unread
invariant-loop-unread l =
    (follow l.draft.row l.draft.stage l.unread.at (records l.unread.rest.now) ≡ opened l.bytes)
    × (l.unread.at ≡ sized l.draft.row l.draft.stage)
    × Keeps l.draft.row

abbrev pub decreases-loop-unread : goal.decreases-loop-unread
decreases-loop-unread l = length l.unread.rest.now
