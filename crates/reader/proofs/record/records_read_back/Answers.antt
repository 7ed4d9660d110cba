use Rattle.reader.proofs.Records.{read_back}
use Rattle.reader.proofs.record.records_read_back.Goals as goal

pub returns : goal.returns
returns c = read_back
