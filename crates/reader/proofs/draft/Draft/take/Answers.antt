use Rattle.std.proofs.Common.{sym}
use Rattle.std.proofs.lemmas.Bool.{cond-false}
use Rattle.std.proofs.lemmas.Result.{err_from_is_err_and}
use Rattle.reader.proofs.Unknown.{undue}
use Rattle.reader.proofs.draft.Draft.take.Goals as goal

pub returns-in_err-kind : goal.returns-in_err-kind
returns-in_err-kind c =
    let p = err_from_is_err_and c.from_residual.result c.from_residual.ensures.1 in
    let f = c.in_err-kind.ensures in
    rw (p.1, p.2, f.0) (sym (cond-false _ _ _ (undue c.args.placed.now.record.kind f.1 c.args.self.now.stage)))
