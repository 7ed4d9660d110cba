use Rattle.std.proofs.Common.{sym, refl, ap, ◌∙◌}
use Rattle.std.proofs.lemmas.Result.{err_from_is_err_and}
use Rattle.reader.specs.Table.{kept}
use Rattle.reader.proofs.Follows.{opened_keeps}
use Rattle.reader.proofs.Layouts.{opened_laid, laid_opened}
use Rattle.reader.proofs.Breaks.{opened_breaks}
use Rattle.reader.proofs.table.Table.open.Goals as goal

pub invariant_of-self : goal.invariant_of-self
invariant_of-self c =
    let k = opened_keeps c.args.bytes.now c.in_ok-row.row (sym c.in_ok-row.ensures) in
    record { some = k.1.0; few = k.1.1; begins = k.1.2; room = k.1.3; fits = k.1.4; fails = k.1.5 }

pub returns-in_err-row : goal.returns-in_err-row
returns-in_err-row c =
    let p = err_from_is_err_and c.from_residual.result c.from_residual.ensures.1 in
    let was = sym c.in_err-row.ensures in
    rw (p.1, p.2) (
    record {
      outcome = sym (ap (λ o. kept o c.args.self.now.row) was);
      told = opened_breaks c.args.bytes.now _ was;
      opens = λ row laid. let apart = sym was ∙ laid_opened c.args.bytes.now row laid in cc;
    }
    )

pub returns : goal.returns
returns c =
    let was = sym c.in_ok-row.ensures in
    record {
      outcome = sym (ap (λ o. kept o c.args.self.now.row) was);
      told = opened_laid c.args.bytes.now c.in_ok-row.row was;
      opens = λ row laid. let same = sym was ∙ laid_opened c.args.bytes.now row laid in (refl, cc);
    }
