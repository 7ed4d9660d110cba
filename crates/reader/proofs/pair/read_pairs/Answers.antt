use Rattle.std.proofs.Common.{◌≡◌, ◌<◌, ◌≤◌, [], ◌∷◌, ◌++◌, length, sym, ap, ◌∙◌, arith}
use Rattle.std.proofs.lemmas.List.{length_push}
use Rattle.std.proofs.lemmas.Result.{err_from_is_err_and, IfOk-at_ok}
use Rattle.std.proofs.lemmas.Bool.{eqb-true, eqb-false}
use Rattle.std.proofs.lemmas.Bool.Decides.{nat_tests}
use Rattle.reader.specs.Record.{records}
use Rattle.reader.specs.Pairs.{gather, pairs_in, outcome}
use Rattle.reader.proofs.Pairs.{pair_short, gather_done, gather_full, gather-cut, gather_refused, gather_more}
use Rattle.reader.proofs.PairLists.{pairs_told, pairs_laid, pairs_break, laid_pairs}
use Rattle.reader.proofs.pair.read_pairs.Goals as goal

pub loop-unread-init : goal.loop-unread-init
unfolding pairs_in
loop-unread-init c =
    let o = c.of-unread.ensures in
    ((λ i. gather (c.new-pairs.ensures i) (o.at i) (records (o.rest i))), omega arith)

pub returns-then-is_full : goal.returns-then-is_full
returns-then-is_full c =
    let some = eqb-false (length c.loop-unread.unread.rest.now) 0 (sym c.loop-unread-test.ensures) in
    let full : 4096 ≤ length c.loop-unread.pairs.items = grind (arith, nat_tests) in
    let e = sym (gather_full c.loop-unread.pairs.items c.loop-unread.unread.at c.loop-unread.unread.rest.now (omega arith) full) ∙ c.loop-unread.invariant.0 in
    record { outcome = e; told = pairs_break c.args.bytes.now _ (sym e); reads = λ ps l. e ∙ laid_pairs c.args.bytes.now ps l }

pub returns-in_err-placed : goal.returns-in_err-placed
returns-in_err-placed c =
    let some = eqb-false (length c.loop-unread.unread.rest.now) 0 (sym c.loop-unread-test.ensures) in
    let room : length c.loop-unread.pairs.items < 4096 = grind (arith, nat_tests) in
    let p = err_from_is_err_and c.from_residual.result c.from_residual.ensures.1 in
    let f = c.in_err-placed.ensures.stands in
    let e : outcome c.from_residual.result ≡ pairs_in c.args.bytes.now =
    rw (p.1, p.2, f.1) (sym (gather-cut c.loop-unread.pairs.items c.loop-unread.unread.at c.loop-unread.unread.rest.now (omega arith) room f.0) ∙ c.loop-unread.invariant.0) in
    record { outcome = e; told = pairs_told c.args.bytes.now _ e; reads = λ ps l. e ∙ laid_pairs c.args.bytes.now ps l }

pub returns-in_err-pair : goal.returns-in_err-pair
returns-in_err-pair c =
    let room : length c.loop-unread.pairs.items < 4096 = grind (arith, nat_tests) in
    let p = err_from_is_err_and c.from_residual-in_err-pair.result c.from_residual-in_err-pair.ensures.1 in
    let t = c.in_ok-placed.ensures in
    let e : outcome c.from_residual-in_err-pair.result ≡ pairs_in c.args.bytes.now =
    rw (p.1, p.2)
    (sym (gather_refused c.loop-unread.pairs.items c.loop-unread.unread.at c.loop-unread.unread.rest.now _ _ room t.stands (sym (rw (← t.place) c.in_err-pair.ensures))) ∙ c.loop-unread.invariant.0) in
    record { outcome = e; told = pairs_told c.args.bytes.now _ e; reads = λ ps l. e ∙ laid_pairs c.args.bytes.now ps l }

pub loop-unread-preserved : goal.loop-unread-preserved
loop-unread-preserved c =
    let t = c.in_ok-placed.ensures in
    let room : length c.loop-unread.pairs.items < 4096 = grind (arith, nat_tests) in
    let told = sym (rw (← t.place) c.in_ok-pair.ensures) in
    let more = IfOk-at_ok (λ _. c.push.new.self.items ≡ c.loop-unread.pairs.items ++ c.in_ok-pair.pair ∷ []) c.unwrap.ensures c.push.ensures.listed in
    let grown = ap length more ∙ length_push c.loop-unread.pairs.items c.in_ok-pair.pair in
    let short = pair_short c.loop-unread.unread.at c.in_ok-placed.placed.record.kind c.in_ok-placed.placed.record.body.now c.in_ok-pair.pair told in (
      (λ i. gather (more i) (t.onward i) (records c.read_record.new.self.rest.now))
          ∙ sym (gather_more c.loop-unread.pairs.items c.loop-unread.unread.at c.loop-unread.unread.rest.now _ c.in_ok-pair.pair room t.stands told) ∙ c.loop-unread.invariant.0,
      omega arith,
    )

pub returns : goal.returns
returns c =
    let empty = eqb-true (length c.loop-unread.unread.rest.now) 0 (sym c.loop-unread-test.ensures) in
    let e = sym (gather_done c.loop-unread.pairs.items c.loop-unread.unread.at c.loop-unread.unread.rest.now empty) ∙ c.loop-unread.invariant.0 in
    record { outcome = e; told = pairs_laid c.args.bytes.now _ (sym e); reads = λ ps l. e ∙ laid_pairs c.args.bytes.now ps l }
