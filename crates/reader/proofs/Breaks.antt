-- A refusal points at the first record that breaks the layout.
use Rattle.std.proofs.Common.{◌≡◌, ℕ, ◌+◌, Bool, true, false, cond, ◌⊎◌, List, [], ◌∷◌, ◌++◌, Ok, Err, Result, sym, refl, ap, ◌∙◌, inl, inr, arith}
use Rattle.std.proofs.lemmas.Bool.{cases_Bool}
use Rattle.reader.specs.declared.fault.Fault as faults
use Rattle.reader.specs.declared.fault.Fault.TheVariants.{Cut, Kind, Length, Value, Repeated, Overfull, Trailing}
use Rattle.reader.specs.declared.row.Row.{Row}
use Rattle.reader.specs.declared.stage.Stage.{Stage}
use Rattle.reader.specs.declared.stage.Stage.TheVariants.{Head, Actions, Steps, Errors, Closed}
use Rattle.reader.specs.Fault.{place}
use Rattle.reader.specs.Record.{Records, none, cut, next, records, size_of, followed, sizes}
use Rattle.reader.specs.Row.{blank}
use Rattle.reader.specs.Draft.{headed, acted, stepped, failed, ended, staged, entered, closed, follow}
use Rattle.reader.specs.Table.{opened}
use Rattle.reader.specs.Layout.{Begins, Stray, Stands, Breaks, closing}
use Rattle.reader.proofs.Follows.{follow_refused, follow_more, follow_done}
use Rattle.reader.proofs.Parts.{follow_closing, follow_table}
use Rattle.reader.proofs.Layouts.{follow_lays, lays_follow}

-- a fault of a record that stands there, and neither of missing nor of further bytes
abbrev inner : faults.Fault → Bool
inner (Cut at) = false
inner (Kind at) = true
inner (Length at) = true
inner (Value at) = true
inner (Repeated at) = true
inner (Overfull at) = true
inner (Trailing at) = false

-- a result that blames at most the record at an offset
abbrev Blames : {T : Type 0} → ℕ → Result T faults.Fault → Type 0
Blames at (Ok t) = Unit {0}
Blames at (Err f) = (place f ≡ at) × (inner f ≡ true)

blames_cond : {T : Type 0} (at : ℕ) (b : Bool) (x y : Result T faults.Fault) → Blames at x → Blames at y → Blames at (cond b x y)
blames_cond at b x y p q = grind arith

blames_staged : (at : ℕ) (stage : Stage) (x : Result Row faults.Fault) → Blames at x → Blames at (staged stage x)
blames_staged at stage x p = grind arith

module _ (r : Row) (at : ℕ) where
  blames_head : (body : List ℕ) → Blames at (headed at body)
  blames_head body = grind arith

  blames_action : (body : List ℕ) → Blames at (acted r at body)
  blames_action body = grind arith

  blames_step : (body : List ℕ) → Blames at (stepped r at body)
  blames_step body = grind arith

  blames_error : (body : List ℕ) → Blames at (failed r at body)
  blames_error body = grind arith

  blames_end : (body : List ℕ) → Blames at (ended r at body)
  blames_end body = grind arith

  blames_entered : (stage : Stage) (kind : ℕ) (body : List ℕ) → Blames at (entered r stage at kind body)
  blames_entered stage kind body =
      search (blames_cond, blames_staged, blames_head, blames_action, blames_step, blames_error, blames_end) depth 9

-- the records in front lead from one draft to another
data Reach : Row → Stage → ℕ → List (ℕ × List ℕ) → Row → Stage → Type 0 where
  here : (r : Row) (stage : Stage) (at : ℕ) → Reach r stage at [] r stage
  on : {r : Row} {stage : Stage} {at kind : ℕ} {body : List ℕ} {front : List (ℕ × List ℕ)} {r' : Row} {stage' : Stage} (t : Row × Stage)
      → closed stage ≡ false → entered r stage at kind body ≡ Ok t → Reach t.0 t.1 (at + size_of body) front r' stage' → Reach r stage at ((kind, body) ∷ front) r' stage'

reach_follow : {r : Row} {stage : Stage} {at : ℕ} {front : List (ℕ × List ℕ)} {r' : Row} {stage' : Stage} → Reach r stage at front r' stage' → (more : Records) → follow r stage at (followed front more) ≡ follow r' stage' (at + sizes front) more
reach_follow (here r stage at) more = grind arith
reach_follow {r} {stage} {at} (on {kind = kind} {body = body} {front = front} t going e further) more =
    let first = follow_more r stage at kind body (followed front more) t going e in
    let rest = reach_follow further more in
    grind arith

-- why following stops with a fault
data Stops (r : Row) (stage : Stage) (at : ℕ) (rest : Records) (f : faults.Fault) : Type 0 where
  short : closed stage ≡ false → (rest ≡ none) ⊎ (rest ≡ cut) → f ≡ Cut at → Stops r stage at rest f
  bad : (kind : ℕ) (body : List ℕ) (more : Records) → closed stage ≡ false → rest ≡ next kind body more → entered r stage at kind body ≡ Err f → Stops r stage at rest f
  long : closed stage ≡ true → (rest ≡ none → ⊥) → f ≡ Trailing at → Stops r stage at rest f

abbrev Stopped : Row → Stage → ℕ → Records → faults.Fault → Type 0
Stopped r stage at rs f =
    (front : List (ℕ × List ℕ)) × (rest : Records) × (r' : Row) × (stage' : Stage) × (rs ≡ followed front rest) × Reach r stage at front r' stage' × Stops r' stage' (at + sizes front) rest f

stops_at_once : (r : Row) (stage : Stage) (at : ℕ) (rs : Records) (f : faults.Fault) → Stops r stage at rs f → Stopped r stage at rs f
stops_at_once r stage at rs f s = let same : at + 0 ≡ at = omega arith in ([], rs, r, stage, refl, here r stage at, rw same s)

stopped : (rs : Records) (r : Row) (stage : Stage) (at : ℕ) (f : faults.Fault) → follow r stage at rs ≡ Err f → Stopped r stage at rs f
unfolding follow
stopped none r stage at f p =
    elim (cases_Bool (closed stage)) [ inl shut ↦ cc | inr going ↦ stops_at_once r stage at none f (short going (inl refl) (cc)) ]
stopped cut r stage at f p =
    elim (cases_Bool (closed stage)) [
      | inl shut ↦ stops_at_once r stage at cut f (long shut (λ e. cc) (cc))
      | inr going ↦ stops_at_once r stage at cut f (short going (inr refl) (cc))
    ]
stopped (next kind body rest) r stage at f p =
    elim (cases_Bool (closed stage)) [
      | inl shut ↦ stops_at_once r stage at (next kind body rest) f (long shut (λ e. cc) (cc))
      | inr going ↦ go (entered r stage at kind body) refl going (stopped rest)
    ]
  where
    go : (o : Result (Row × Stage) faults.Fault) → entered r stage at kind body ≡ o → closed stage ≡ false
        → ((x : Row) (y : Stage) (z : ℕ) (g : faults.Fault) → follow x y z rest ≡ Err g → Stopped x y z rest g) → Stopped r stage at (next kind body rest) f
    go (Ok t) e going further =
        let s = further t.0 t.1 (at + size_of body) f (sym (follow_more r stage at kind body rest t going e) ∙ p) in
        let sum : at + (size_of body + sizes s.0) ≡ (at + size_of body) + sizes s.0 = omega arith in
        ((kind, body) ∷ s.0, s.1, s.2, s.3, ap (next kind body) s.4, on t going e s.5, rw sum s.6)
    go (Err g) e going further =
        stops_at_once r stage at (next kind body rest) f (bad kind body rest going refl (cc))

-- every draft can be completed
completes : (r : Row) (stage : Stage) (at : ℕ) → (more : Records) × (r' : Row) × (follow r stage at more ≡ Ok r')
completes r Head at = (next 1 (1 ∷ 0 ∷ []) closing, blank 1 0, follow_table 1 0 [] [] [] r at (omega arith) (omega arith) (omega arith) tt tt tt)
completes r Actions at = (closing, r, follow_closing r Actions at refl refl)
completes r Steps at = (closing, r, follow_closing r Steps at refl refl)
completes r Errors at = (closing, r, follow_closing r Errors at refl refl)
completes r Closed at = (none, r, follow_done r Closed at refl)

reach_begins : {front : List (ℕ × List ℕ)} {r : Row} {stage : Stage} → Reach (blank 1 0) Head 0 front r stage → Begins front
reach_begins {front} {r} {stage} reach =
    let c = completes r stage (0 + sizes front) in
    (c.0, c.1, follow_lays (followed front c.0) c.1 (reach_follow reach c.0 ∙ c.2))

followed_push : (front : List (ℕ × List ℕ)) (x : ℕ × List ℕ) (more : Records) → followed (front ++ x ∷ []) more ≡ followed front (next x.0 x.1 more)
followed_push [] x more = refl
followed_push (y ∷ front) x more = ap (next y.0 y.1) (followed_push front x more)

-- a record that is refused goes on with no table
reach_stray : {front : List (ℕ × List ℕ)} {r : Row} {stage : Stage} (kind : ℕ) (body : List ℕ) (f : faults.Fault) → Reach (blank 1 0) Head 0 front r stage → closed stage ≡ false → entered r stage (0 + sizes front) kind body ≡ Err f
    → Begins (front ++ (kind, body) ∷ []) → ⊥
reach_stray {front} {r} {stage} kind body f reach going e b =
    let opens = lays_follow (followed (front ++ (kind, body) ∷ []) b.0) b.1 b.2 in
    let here_again = ap (follow (blank 1 0) Head 0) (followed_push front (kind, body) b.0) ∙ reach_follow reach (next kind body b.0) ∙ follow_refused r stage (0 + sizes front) kind body b.0 f going e in
    let apart = sym here_again ∙ opens in
    cc

stray_stands : (f : faults.Fault) (front : List (ℕ × List ℕ)) (rest : Records) → inner f ≡ true → Stray front rest → Stands f front rest
stray_stands f front rest i s = grind arith

pub opened_breaks : (bytes : List ℕ) (f : faults.Fault) → opened bytes ≡ Err f → Breaks bytes f
unfolding opened Breaks
opened_breaks bytes f p =
    let (front, rest, r, stage, cutting, reach, stops) = stopped (records bytes) (blank 1 0) Head 0 f p in
    go front rest r stage cutting reach stops
  where
    go : (front : List (ℕ × List ℕ)) (rest : Records) (r : Row) (stage : Stage) → records bytes ≡ followed front rest → Reach (blank 1 0) Head 0 front r stage → Stops r stage (0 + sizes front) rest f → Breaks bytes f
    go front rest r stage cutting reach (short going why e) = (front, rest, cutting, grind arith, reach_begins reach, rw e why)
    go front rest r stage cutting reach (bad kind body more going is e) =
        let (there, in_record) = rw e at (blames_entered r (0 + sizes front) stage kind body) in
        (front, rest, cutting, omega arith, reach_begins reach, stray_stands f front rest in_record (kind, body, more, is, reach_stray kind body f reach going e))
    go front rest r stage cutting reach (long shut some e) =
        let whole = follow_lays (followed front none) r (reach_follow reach none ∙ follow_done r stage (0 + sizes front) shut) in
        (front, rest, cutting, grind arith, reach_begins reach, rw e ((r, whole), some))
