-- The system of a row that keeps the limits and facts of a table, and the stations of a list of rows.
use Rattle.std.proofs.Common.{◌≡◌, ℕ, zero, suc, ◌+◌, ◌-◌, ◌<◌, ◌≤◌, min, Bool, true, false, not, ◌&&◌, eqb, ltb, leb, ◌≢◌, ◌↔◌, List, [], ◌∷◌, length, get_or, take, drop, is_some, Some, None, sym, refl, ap, ◌∙◌, subst, inl, inr, arith}
use mathlib.Core.Bool.{false≢true}
use Rattle.std.specs.List.{list_any}
use Rattle.std.proofs.lemmas.Option.{none-some}
use Rattle.std.proofs.lemmas.List.{get_or_past, get_or-take, get_or-drop, length-take}
use Rattle.std.proofs.lemmas.List.Folds.{list_any_at}
use Rattle.std.proofs.lemmas.List.Recursion.{or_is, or_from_places}
use Rattle.std.proofs.lemmas.Bool.{false_from_ne_true, and_parts, and_from, or_cases, not-true, not_from_false, both_ways, cases_Bool, cases_lt, leb-true, ltb-true, eqb-true, cond-true, cond-false}
use Rattle.std.proofs.lemmas.Bool.Decides.{nat_tests}
use Rattle.semantics.specs.declared.way.Way.{Way}
use Rattle.semantics.specs.declared.way.Way.TheVariants.{Absent, Input, Output}
use Rattle.semantics.specs.System.{System, WellFormed, any}
use Rattle.semantics.proofs.Search.{any_view, any_make}
use Rattle.semantics.proofs.Ways.{input≢absent, output≢absent}
use Rattle.reader.specs.declared.row.Row.{Row}
use Rattle.reader.specs.declared.row.Step.{Step}
use Rattle.reader.specs.Row.{unused, way_of, listed, same_step, told, declared, usable, fitting, StepsFit, ErrorsFit, Facts}
use Rattle.reader.proofs.Contents.{same_step_lem}
use Rattle.roster.specs.Meaning.{Lawful, filled}
use Rattle.roster.specs.Rows.{system_of, stray_step, stray_error, limited, keeps, station_of, station_at, table_meaning}

steps_fit : (r : Row) → any (stray_step r) r.count ≡ false → StepsFit r
steps_fit r none k h = grind (arith, any_make (stray_step r) r.count k h)

-- asked of the steps one after another
pub stray_steps : (r : Row) → r.count ≤ length r.steps → list_any (λ s. not (fitting r s)) (take r.count r.steps) ≡ any (stray_step r) r.count
stray_steps r room =
    sym
    (or_is (list_any (λ s. not (fitting r s))) (λ s. not (fitting r s)) refl (λ x xs. refl) (take r.count r.steps) unused (any (stray_step r) r.count)
    (λ t. let (k, h, s) = any_view (stray_step r) r.count t in (k, omega (arith, length-take r.count r.steps), ap (λ u. not (fitting r u)) (get_or-take r.count r.steps k unused h) ∙ s))
    (λ none k h.
    let low : k < r.count = omega (arith, length-take r.count r.steps) in
    false_from_ne_true _ (λ t. both_ways (any (stray_step r) r.count) none (any_make (stray_step r) r.count k low (sym (ap (λ u. not (fitting r u)) (get_or-take r.count r.steps k unused low)) ∙ t)))))

no_stray_step : (r : Row) → StepsFit r → any (stray_step r) r.count ≡ false
no_stray_step r fits = false_from_ne_true _ (λ t. let (k, h, s) = any_view (stray_step r) r.count t in both_ways (fitting r (get_or r.steps k unused)) (not-true _ s) (fits k h))

errors_fit : (r : Row) → stray_error r ≡ false → ErrorsFit r
errors_fit r none s t =
    elim (cases_lt s r.states) [
      | inl h ↦ h
      | inr h ↦
          (let told : get_or (drop r.states r.errors) (s - r.states) false ≡ true = rw get_or-drop (ap (λ k. get_or r.errors k false) (omega arith) ∙ t) in
          absurd (false≢true (sym none ∙ list_any_at (λ b. b) (drop r.states r.errors) (s - r.states) false (within (drop r.states r.errors) (s - r.states) told) told)))
    ]
  where
    within : (bs : List Bool) (i : ℕ) → get_or bs i false ≡ true → i < length bs
    within bs i t = grind (arith, get_or_past)

no_stray_error : (r : Row) → ErrorsFit r → stray_error r ≡ false
no_stray_error r fails =
    or_from_places (list_any (λ b. b)) (λ b. b) refl (λ x xs. refl) (drop r.states r.errors) false
    (λ i h. rw get_or-drop (false_from_ne_true _ (λ t. let low = fails (r.states + i) t in omega arith)))

limited_is : (r : Row) → (limited r ≡ true) ↔ ((1 ≤ r.states) × (r.states ≤ 64) × (r.start < r.states) × (r.count ≤ 256))
limited_is r = grind (arith, nat_tests)

pub keeps_facts_lem : (r : Row) → (keeps r ≡ true) ↔ Facts r
unfolding keeps
keeps_facts_lem r = (
  λ e.
      let (l, w) = and_parts (limited r) (not (any (stray_step r) r.count) && not (stray_error r)) e in
      let (steps, errors) = and_parts (not (any (stray_step r) r.count)) (not (stray_error r)) w in
      let (some, few, begins, room) = (limited_is r).0 l in
      (some, few, begins, room, steps_fit r (not-true _ steps), errors_fit r (not-true _ errors)),
  λ f.
      let (some, few, begins, room, fits, fails) = f in
      and_from _ _ ((limited_is r).1 (some, few, begins, room)) (and_from _ _ (not_from_false _ (no_stray_step r fits)) (not_from_false _ (no_stray_error r fails))),
)

-- ---- the system

-- a step that is told stands at some place of the steps, and keeps what all of them keep
told_fits : (r : Row) (s : Step) (xs : List Step) → ((k : ℕ) → k < length xs → fitting r (get_or xs k unused) ≡ true) → told s xs ≡ true → fitting r s ≡ true
told_fits r s [] h e = absurd (false≢true e)
told_fits r s (t ∷ ts) h e =
    elim (or_cases (same_step t s) (told s ts) e) [
      | inl same ↦ subst (λ u. fitting r u ≡ true) (same_step_lem t s same) (h 0 (omega arith))
      | inr more ↦ told_fits r s ts (λ k l. h (suc k) (omega arith)) more
    ]

listed_fits : (r : Row) → Facts r → (s : Step) → told s (listed r) ≡ true → fitting r s ≡ true
listed_fits r facts s =
    told_fits r s (listed r)
    (λ k h.
    let n = min r.count 256 in
    let l = length-take n r.steps in
    let low : k < n = omega arith in
    ap (fitting r) (get_or-take n r.steps k unused low) ∙ facts.4 k (omega arith))

way_in : (r : Row) (x : ℕ) → way_of r x ≢ Absent → x ≤ 32
way_in r x h =
    elim (cases_Bool (leb 1 x && leb x 32)) [
      | inl t ↦ leb-true x 32 (and_parts (leb 1 x) (leb x 32) t).1
      | inr t ↦ absurd (h (cond-false (leb 1 x && leb x 32) (get_or r.ways (x - 1) Absent) Absent t))
    ]

declared_present : (w : Way) → declared w ≡ true → w ≢ Absent
declared_present Absent e h = false≢true e
declared_present Input e h = input≢absent h
declared_present Output e h = output≢absent h

pub system_formed : (r : Row) → Facts r → WellFormed (system_of r)
system_formed r facts =
    record {
      start_in = facts.2;
      internal = refl;
      ways_in = way_in r;
      errors_in = facts.5;
      from_in = λ p x q e. ltb-true p r.states (fits p x q e).0;
      to_in = λ p x q e. ltb-true q r.states (fits p x q e).1;
      named = λ p x q e. elim (or_cases (eqb x 0) (declared (way_of r x)) (fits p x q e).2) [
        | inl z ↦ inl (eqb-true x 0 z)
        | inr d ↦ inr (declared_present (way_of r x) d)
      ];
    }
  where
    fits : (p x q : ℕ) → told (record { from = p; action = x; to = q }) (listed r) ≡ true
        → (ltb p r.states ≡ true) × (ltb q r.states ≡ true) × (usable r x ≡ true)
    fits p x q e =
        let f = listed_fits r facts (record { from = p; action = x; to = q }) e in
        let (a, b) = and_parts (ltb p r.states) (ltb q r.states && usable r x) f in
        let (c, d) = and_parts (ltb q r.states) (usable r x) b in
        (a, c, d)

-- ---- the station of a row

station_view : (r : Row) → is_some (station_of r) ≡ true → (station_of r ≡ Some (system_of r)) × Facts r
station_view r e =
    elim (cases_Bool (keeps r)) [
      | inl t ↦ (cond-true (keeps r) (Some (system_of r)) None t, (keeps_facts_lem r).0 t)
      | inr t ↦ absurd (both_ways (is_some (station_of r)) (ap is_some (cond-false (keeps r) (Some (system_of r)) None t)) e)
    ]

pub station_there : (r : Row) → Facts r → station_of r ≡ Some (system_of r)
station_there r facts = cond-true (keeps r) (Some (system_of r)) None ((keeps_facts_lem r).1 facts)

-- what holds of the system of each row that keeps the facts holds of each station that is there
held : (P : System → Type 0) → ((r : Row) → Facts r → P (system_of r)) → (rs : List Row) (s : ℕ) → is_some (station_at rs s) ≡ true → P (filled (station_at rs s))
held P h [] s t = absurd (false≢true t)
held P h (r ∷ rs) zero t = let (e, facts) = station_view r t in subst (λ o. P (filled o)) (sym e) (h r facts)
held P h (r ∷ rs) (suc s) t = held P h rs s t

inside : (rs : List Row) (s : ℕ) → is_some (station_at rs s) ≡ true → s < length rs
inside [] s t = absurd (false≢true t)
inside (r ∷ rs) zero t = omega arith
inside (r ∷ rs) (suc s) t = let h = inside rs s t in omega arith

pub tables_lawful : (rs : List Row) → Lawful (table_meaning rs)
tables_lawful rs =
    record {
      small = let n = length-take 16 rs in omega arith;
      inside = inside (take 16 rs);
      formed = held WellFormed system_formed (take 16 rs);
      some = held (λ e. 1 ≤ e.states) (λ r facts. facts.0) (take 16 rs);
      few = held (λ e. e.states ≤ 4096) (λ r facts. let few = facts.1 in omega arith) (take 16 rs);
      actions = held (λ e. e.actions ≤ 32) (λ r facts. omega arith) (take 16 rs);
      coupled = λ s i k e. absurd (none-some (i, k) e);
    }
