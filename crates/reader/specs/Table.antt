-- opened bytes        the row that some bytes lay out, or their first fault
-- opening bytes r     what opening them answers where a table holds the row r, and the row that it holds then
use Rattle.std.specs.Prelude.{ℕ, List, Ok, Err, Result}
use Rattle.reader.specs.declared.fault.Fault.{Fault}
use Rattle.reader.specs.declared.row.Row.{Row}
use Rattle.reader.specs.declared.stage.Stage.TheVariants.{Head}
use Rattle.reader.specs.Record.{records}
use Rattle.reader.specs.Row.{blank}
use Rattle.reader.specs.Draft.{follow}

unfoldable pub opened : List ℕ → Result Row Fault
opened bytes = follow (blank 1 0) Head 0 (records bytes)

-- success takes over the new row, and a refusal keeps the old one
abbrev pub kept : Result Row Fault → Row → Result (Unit {0}) Fault × Row
kept (Ok new) old = (Ok tt, new)
kept (Err f) old = (Err f, old)

abbrev pub opening : List ℕ → Row → Result (Unit {0}) Fault × Row
opening bytes old = kept (opened bytes) old
