-- The records of a table, followed one by one.
use Rattle.std.proofs.Common.{◌≡◌, ℕ, ◌+◌, ◌<◌, true, false, List, length, None, Ok, Err, Result, refl, subst, arith}
use Rattle.std.proofs.lemmas.Bool.{cases_lt}
use Rattle.reader.specs.declared.fault.Fault as faults
use Rattle.reader.specs.declared.fault.Fault.TheVariants.{Cut, Trailing}
use Rattle.reader.specs.declared.row.Row.{Row}
use Rattle.reader.specs.declared.stage.Stage.{Stage}
use Rattle.reader.specs.declared.stage.Stage.TheVariants.{Head}
use Rattle.reader.specs.Record.{Records, none, cut, next, front, records, size_of}
use Rattle.reader.specs.Row.{blank}
use Rattle.reader.specs.Draft.{entered, closed, onward, follow}
use Rattle.reader.specs.Table.{opened}
use Rattle.reader.proofs.Outcomes.{cond_not_ok}
use Rattle.reader.proofs.Records.{records-none, records-some, records-cut}
use Rattle.reader.proofs.Entries.{Entry, entry}
use Rattle.reader.proofs.Keeps.{Keeps, keeps_blank, entry_keeps}

module _ (r : Row) (stage : Stage) (at : ℕ) where
  -- a table that is not closed, and one record more
  pub follow_refused : (kind : ℕ) (body : List ℕ) (rest : Records) (f : faults.Fault) → closed stage ≡ false → entered r stage at kind body ≡ Err f → follow r stage at (next kind body rest) ≡ Err f
  unfolding follow
  follow_refused kind body rest f going e = rw (going, e)

  pub follow_more : (kind : ℕ) (body : List ℕ) (rest : Records) (t : Row × Stage) → closed stage ≡ false → entered r stage at kind body ≡ Ok t → follow r stage at (next kind body rest) ≡ follow t.0 t.1 (at + size_of body) rest
  unfolding follow
  follow_more kind body rest t going e = rw (going, e)

  -- a closed table
  pub follow_done : closed stage ≡ true → follow r stage at none ≡ Ok r
  unfolding follow
  follow_done shut = rw shut

  follow_behind : (rs : Records) → (rs ≡ none → ⊥) → closed stage ≡ true → follow r stage at rs ≡ Err (Trailing at)
  unfolding follow
  follow_behind none some shut = absurd (some refl)
  follow_behind rs some shut = rw shut

  -- the same, by the bytes that are left
  pub follow_stops : (bytes : List ℕ) → closed stage ≡ false → front bytes ≡ None → follow r stage at (records bytes) ≡ Err (Cut at)
  unfolding follow
  follow_stops bytes going e = grind (arith, cases_lt 0 (length bytes), records-none, records-cut)

  pub follow_trails : (bytes : List ℕ) → closed stage ≡ true → 0 < length bytes → follow r stage at (records bytes) ≡ Err (Trailing at)
  follow_trails bytes shut some = follow_behind (records bytes) (records-some bytes some) shut

onward_ok : (further : Row → Stage → Result Row faults.Fault) (o : Result (Row × Stage) faults.Fault) (r : Row) → onward further o ≡ Ok r → (t : Row × Stage) × (o ≡ Ok t) × (further t.0 t.1 ≡ Ok r)
onward_ok further (Ok t) r p = (t, refl, p)
onward_ok further (Err f) r p = cc

-- where following goes well, the first record is taken in, and the rest is followed
pub first : (r : Row) (stage : Stage) (at kind : ℕ) (body : List ℕ) (rest : Records) (r' : Row) → follow r stage at (next kind body rest) ≡ Ok r'
    → (t : Row × Stage) × Entry r stage kind body t.0 t.1 × (follow t.0 t.1 (at + size_of body) rest ≡ Ok r')
unfolding follow
first r stage at kind body rest r' p =
    let onto = λ (r : Row) (stage : Stage). follow r stage (at + size_of body) rest in
    let going = cond_not_ok (closed stage) (onward onto (entered r stage at kind body)) (Trailing at) p in
    let (t, e, further) = onward_ok onto (entered r stage at kind body) r' going.1 in
    (t, entry r stage at kind body t e, further)

-- what is laid out keeps the facts of a table
pub follow_keeps : (rs : Records) (r : Row) (stage : Stage) (at : ℕ) (r' : Row) → follow r stage at rs ≡ Ok r' → Keeps r → Keeps r'
unfolding follow
follow_keeps none r stage at r' p k = let same : r ≡ r' = grind arith in subst Keeps same k
follow_keeps cut r stage at r' p k = absurd (grind arith)
follow_keeps (next kind body rest) r stage at r' p k =
    let (t, e, further) = first r stage at kind body rest r' p in
    follow_keeps rest t.0 t.1 (at + size_of body) r' further (entry_keeps e k)

pub opened_keeps : (bytes : List ℕ) (r : Row) → opened bytes ≡ Ok r → Keeps r
unfolding opened
opened_keeps bytes r p = follow_keeps (records bytes) (blank 1 0) Head 0 r p (keeps_blank 1 0 (omega arith) (omega arith) (omega arith))
