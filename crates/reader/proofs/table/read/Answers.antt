use Rattle.std.proofs.Common.{◌≡◌, ◌+◌, length, Ok, sym, ap, ◌∙◌, subst, arith}
use Rattle.std.proofs.lemmas.Result.{err_from_is_err_and}
use Rattle.std.proofs.lemmas.Bool.{eqb-true, eqb-false}
use Rattle.reader.specs.Record.{records, size_of}
use Rattle.reader.specs.Draft.{entered, follow}
use Rattle.reader.specs.Table.{opened}
use Rattle.reader.proofs.Records.{records-none, records-next}
use Rattle.reader.proofs.Entries.{entry}
use Rattle.reader.proofs.Keeps.{Keeps, keeps_blank, entry_keeps, entry_sized, sized}
use Rattle.reader.proofs.Follows.{follow_stops, follow_refused, follow_more, follow_done, follow_trails}
use Rattle.reader.proofs.table.read.Goals as goal

pub loop-unread-init : goal.loop-unread-init
unfolding opened
loop-unread-init c =
    let r = c.new-draft.ensures.row in
    let s = c.new-draft.ensures.stage in
    let o = c.of-unread.ensures in (
      (λ i. follow (r i) (s i) (o.at i) (records (o.rest i))),
      o.at ∙ sym (λ i. sized (r i) (s i)),
      subst Keeps (sym r) (keeps_blank 1 0 (omega arith) (omega arith) (omega arith)),
    )

pub returns-in_err-placed : goal.returns-in_err-placed
returns-in_err-placed c =
    let p = err_from_is_err_and c.from_residual.result c.from_residual.ensures.1 in
    let f = c.in_err-placed.ensures.stands in
    let going = sym c.is_closed.ensures ∙ c.loop-unread-test.true in
    rw (p.1, p.2, f.1) (sym (follow_stops c.loop-unread.draft.row c.loop-unread.draft.stage c.loop-unread.unread.at c.loop-unread.unread.rest.now going f.0) ∙ c.loop-unread.invariant.0)

pub returns-in_err-take : goal.returns-in_err-take
returns-in_err-take c =
    let p = err_from_is_err_and c.from_residual-in_err-take.result c.from_residual-in_err-take.ensures.1 in
    let t = c.in_ok-placed.ensures in
    let going = sym c.is_closed.ensures ∙ c.loop-unread-test.true in
    let here = records-next c.loop-unread.unread.rest.now _ t.stands in
    rw (p.1, p.2) (
    sym (follow_refused c.loop-unread.draft.row c.loop-unread.draft.stage c.loop-unread.unread.at _ _ (records c.read_record.new.self.rest.now) _ going (sym (rw (← t.place) c.in_err-take.ensures)))
    ∙ sym (ap (follow c.loop-unread.draft.row c.loop-unread.draft.stage c.loop-unread.unread.at) here) ∙ c.loop-unread.invariant.0
    )

-- the record that is taken in
taken_in : (c : goal.In_ok-take) → entered c.loop-unread.draft.row c.loop-unread.draft.stage c.loop-unread.unread.at c.in_ok-placed.placed.record.kind c.in_ok-placed.placed.record.body.now ≡ Ok (c.take.new.self.row, c.take.new.self.stage)
taken_in c = sym (rw (← c.in_ok-placed.ensures.place) c.in_ok-take.ensures)

-- what it adds
adds : (c : goal.In_ok-take) → (c.loop-unread.unread.at + size_of c.in_ok-placed.placed.record.body.now ≡ sized c.take.new.self.row c.take.new.self.stage) × Keeps c.take.new.self.row
adds c =
    let e = entry c.loop-unread.draft.row c.loop-unread.draft.stage c.loop-unread.unread.at c.in_ok-placed.placed.record.kind c.in_ok-placed.placed.record.body.now (c.take.new.self.row, c.take.new.self.stage) (taken_in c) in
    (ap (λ n. n + size_of c.in_ok-placed.placed.record.body.now) c.loop-unread.invariant.1 ∙ entry_sized e c.loop-unread.invariant.2, entry_keeps e c.loop-unread.invariant.2)

pub loop-unread-preserved : goal.loop-unread-preserved
loop-unread-preserved c =
    let going = sym c.is_closed.ensures ∙ c.loop-unread-test.true in
    let here = records-next c.loop-unread.unread.rest.now _ c.in_ok-placed.ensures.stands in
    let on = c.in_ok-placed.ensures.onward in
    let more = adds c in (
      ap (λ n. follow c.take.new.self.row c.take.new.self.stage n (records c.read_record.new.self.rest.now)) on
          ∙ sym (follow_more c.loop-unread.draft.row c.loop-unread.draft.stage c.loop-unread.unread.at c.in_ok-placed.placed.record.kind c.in_ok-placed.placed.record.body.now (records c.read_record.new.self.rest.now) (c.take.new.self.row, c.take.new.self.stage) going (taken_in c))
          ∙ sym (ap (follow c.loop-unread.draft.row c.loop-unread.draft.stage c.loop-unread.unread.at) here) ∙ c.loop-unread.invariant.0,
      on ∙ more.0,
      more.1,
    )

pub returns-then-not-is_empty : goal.returns-then-not-is_empty
returns-then-not-is_empty c =
    let shut = sym c.is_closed.ensures ∙ c.loop-unread-test.false in
    let some = eqb-false (length c.loop-unread.unread.rest.now) 0 (sym c.is_empty.ensures ∙ c.if-not-is_empty.true) in
    sym (follow_trails c.loop-unread.draft.row c.loop-unread.draft.stage c.loop-unread.unread.at c.loop-unread.unread.rest.now shut (omega arith)) ∙ c.loop-unread.invariant.0

pub returns : goal.returns
returns c =
    let shut = sym c.is_closed.ensures ∙ c.loop-unread-test.false in
    let empty = eqb-true (length c.loop-unread.unread.rest.now) 0 (sym c.is_empty.ensures ∙ c.if-not-is_empty.false) in
    sym (follow_done c.loop-unread.draft.row c.loop-unread.draft.stage c.loop-unread.unread.at shut)
    ∙ sym (ap (follow c.loop-unread.draft.row c.loop-unread.draft.stage c.loop-unread.unread.at) (records-none c.loop-unread.unread.rest.now empty)) ∙ c.loop-unread.invariant.0
