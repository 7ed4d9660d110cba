use Rattle.std.proofs.Common.{◌≡◌, Err, Result, sym, ap, ◌∙◌}
use Rattle.std.proofs.lemmas.Bool.{eq-eqb, ne_eqb, cond-true, cond-false}
use Rattle.std.proofs.lemmas.Result.{err_from_is_err_and}
use Rattle.reader.specs.declared.kind.Kind.TheVariants.{Run}
use Rattle.reader.specs.declared.evidence.EvidenceFault.{EvidenceFault}
use Rattle.reader.specs.Kind.{number}
use Rattle.reader.specs.Record.{front}
use Rattle.reader.specs.Run.{Told, recorded, run_in, outcome}
use Rattle.reader.proofs.Unknown.{no_run}
use Rattle.reader.proofs.RunLists.{run_told, run_breaks, laid_run}
use Rattle.reader.proofs.run.read_run.Goals as goal

pub returns-in_err-placed : goal.returns-in_err-placed
unfolding run_in
returns-in_err-placed c =
    let o = c.of-unread.ensures in
    let p = err_from_is_err_and c.from_residual.result c.from_residual.ensures.1 in
    let f = c.in_err-placed.ensures.stands in
    let e : outcome c.from_residual.result ≡ run_in c.args.bytes.now = rw (p.1, p.2, f.1, o.at) (sym (ap recorded (ap front (sym o.rest) ∙ f.0))) in
    record { outcome = e; told = run_told c.args.bytes.now _ e; reads = λ g ms l. e ∙ laid_run c.args.bytes.now g ms l }

pub returns-in_err-kind : goal.returns-in_err-kind
unfolding run_in
returns-in_err-kind c =
    let o = c.of-unread.ensures in
    let p = err_from_is_err_and c.from_residual-in_err-kind.result c.from_residual-in_err-kind.ensures.1 in
    let f = c.in_err-kind.ensures in
    let other = cond-false _ _ _ (ne_eqb c.in_ok-placed.placed.record.kind 18 (λ k. f.1 Run (sym k))) in
    let e : outcome c.from_residual-in_err-kind.result ≡ run_in c.args.bytes.now = rw (p.1, p.2, f.0, c.in_ok-placed.ensures.place, o.at) (sym (ap recorded (ap front (sym o.rest) ∙ c.in_ok-placed.ensures.stands) ∙ other)) in
    record { outcome = e; told = run_told c.args.bytes.now _ e; reads = λ g ms l. e ∙ laid_run c.args.bytes.now g ms l }

pub returns-in_default : goal.returns-in_default
unfolding run_in
returns-in_default c =
    let o = c.of-unread.ensures in
    let other = cond-false _ _ _ (ne_eqb c.in_ok-placed.placed.record.kind 18 (no_run c.in_ok-kind.field-0 _ c.in_default.not-Run c.in_ok-kind.ensures)) in
    let e : ◌≡◌ {A = Result Told EvidenceFault} (Err c.into.result) (run_in c.args.bytes.now) = rw c.into.ensures (sym (ap recorded (ap front (sym o.rest) ∙ c.in_ok-placed.ensures.stands) ∙ other)) in
    record { outcome = e; told = run_breaks c.args.bytes.now _ (sym e); reads = λ g ms l. e ∙ laid_run c.args.bytes.now g ms l }

pub returns : goal.returns
unfolding run_in
returns c =
    let o = c.of-unread.ensures in
    let is = sym c.in_ok-kind.ensures ∙ ap number c.in-Run.is in
    let e = c.read_body.ensures ∙ sym (ap recorded (ap front (sym o.rest) ∙ c.in_ok-placed.ensures.stands) ∙ cond-true _ _ _ (eq-eqb c.in_ok-placed.placed.record.kind 18 is)) in
    record { outcome = e; told = run_told c.args.bytes.now _ e; reads = λ g ms l. e ∙ laid_run c.args.bytes.now g ms l }
