use Rattle.std.proofs.Common.{sym}
use Rattle.std.proofs.lemmas.Result.{err_from_is_err_and}
use Rattle.reader.proofs.Unknown.{no_pair}
use Rattle.reader.proofs.pair.read_pair.Goals as goal

pub returns-in_err-kind : goal.returns-in_err-kind
returns-in_err-kind c =
    let p = err_from_is_err_and c.from_residual.result c.from_residual.ensures.1 in
    let f = c.in_err-kind.ensures in
    rw (p.1, p.2, f.0) (sym (no_pair c.args.placed.now.record.kind f.1 c.args.placed.now.at c.args.placed.now.record.body.now))
