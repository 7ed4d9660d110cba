-- Things that may be added to a row in turn are those of a lawful content, and the row is its row.
use Rattle.std.proofs.Common.{◌≡◌, ℕ, suc, ◌+◌, ◌-◌, ◌<◌, ◌≤◌, min, Bool, true, false, cond, ◌==◌, ◌&&◌, ◌||◌, leb, ◌≢◌, List, [], ◌∷◌, ◌++◌, length, get_or, take, set, replicate, sym, refl, ap, ◌∙◌, inl, inr, arith, length-append, length-set, get_or-set_other}
use Rattle.std.specs.List.{AllByRecursion}
use Rattle.std.proofs.lemmas.List.{take_more_set, set_at, append_assoc, append-nil, length_push}
use Rattle.std.proofs.lemmas.Bool.Decides.{nat_tests}
use Rattle.std.proofs.lemmas.Grind.{get_or-set_at}
use Rattle.std.proofs.lemmas.List.Elements.{recursion_from_All}
use Rattle.std.proofs.lemmas.Bool.{cond_both, cases_eq, eq-eqb, ne_eqb}
use Rattle.semantics.specs.declared.way.Way.{Way}
use Rattle.semantics.specs.declared.way.Way.TheVariants.{Absent}
use Rattle.semantics.proofs.Words.{all_map}
use Rattle.reader.specs.declared.row.Row.{Row}
use Rattle.reader.specs.declared.row.Step.{Step}
use Rattle.reader.specs.Row.{unused, blank, way_of, error_at, listed, same_step, told, declared, fitting}
use Rattle.reader.specs.Draft.{with_way, with_step, with_error}
use Rattle.reader.specs.Layout.{Action, Once, way_in, member}
use Rattle.reader.proofs.Rows.{get_or_alike}
use Rattle.reader.proofs.Keeps.{way_new, way_other}
use Rattle.reader.proofs.Parts.{all_ways, all_steps, all_errors, WaysFit, EachStepFits, EachErrorFits}

-- facts of each element, from others
all_zip : {X : Type 0} {P Q R : X → Type 0} → ((x : X) → P x → Q x → R x) → (xs : List X) → AllByRecursion P xs → AllByRecursion Q xs → AllByRecursion R xs
all_zip f [] p q = tt
all_zip f (x ∷ xs) p q = (f x p.0 q.0, all_zip f xs p.1 q.1)

-- Actions ---------------------------------------------------------------------------------------------------------

-- an action that may stand in a table
abbrev pub Sized : Action → Type 0
Sized a = (1 ≤ a.action) × (a.action ≤ 32) × (declared a.way ≡ true)

abbrev Fresh : Row → Action → Type 0
Fresh r a = declared (way_of r a.action) ≡ false

-- what a row with one way more says of another action
fresh_after : (r : Row) (a b : Action) → length r.ways ≡ 32 → Sized a → Fresh (with_way r a.action a.way) b → (b.action ≡ a.action → ⊥) × Fresh r b
fresh_after r a b len ok f = grind (arith, nat_tests, get_or-set_at {X = Way}, get_or-set_other {A = Way})

fresh_before : (r : Row) (a b : Action) → Sized a → (b.action ≡ a.action → ⊥) → Fresh r b → Fresh (with_way r a.action a.way) b
fresh_before r a b ok apart f = grind (arith, nat_tests, get_or-set_other {A = Way})

pub ways_once : (xs : List Action) (r : Row) → length r.ways ≡ 32 → WaysFit r xs → AllByRecursion Sized xs × Once (λ a. a.action) xs × AllByRecursion (Fresh r) xs
ways_once [] r len fit = (tt, tt, tt)
ways_once (a ∷ xs) r len fit =
    let ok : Sized a = (fit.0.0, fit.0.1, fit.0.2) in
    let more = ways_once xs (with_way r a.action a.way) (length-set r.ways (a.action - 1) a.way ∙ len) fit.1 in
    ((ok, more.0), (all_map (λ b f. (fresh_after r a b len ok f).0) xs more.2, more.1), (fit.0.3, all_map (λ b f. (fresh_after r a b len ok f).1) xs more.2))

pub once_ways : (xs : List Action) (r : Row) → AllByRecursion Sized xs → Once (λ a. a.action) xs → AllByRecursion (Fresh r) xs → WaysFit r xs
once_ways [] r ok once fresh = tt
once_ways (a ∷ xs) r ok once fresh = (
  (ok.0.0, ok.0.1, ok.0.2, fresh.0),
  once_ways xs (with_way r a.action a.way) ok.1 once.1 (all_zip (λ b p q. fresh_before r a b ok.0 p q) xs once.0 fresh.1),
)

-- a number that is none of theirs keeps its way
way_kept : (k : ℕ) (xs : List Action) (r : Row) → AllByRecursion Sized xs → AllByRecursion (λ b. b.action ≢ k) xs → way_of (all_ways r xs) k ≡ way_of r k
way_kept k [] r ok apart = refl
way_kept k (a ∷ xs) r ok apart = way_kept k xs (with_way r a.action a.way) ok.1 apart.1 ∙ way_other r a.action k a.way ok.0.0 (λ e. apart.0 (sym e))

-- the way that the actions give a number, and else d
abbrev way_or : Way → ℕ → List Action → Way
way_or d n [] = d
way_or d n (a ∷ xs) = cond (n == a.action) a.way (way_or d n xs)

way_or-absent : (n : ℕ) (xs : List Action) → way_or Absent n xs ≡ way_in n xs
way_or-absent n [] = refl
way_or-absent n (a ∷ xs) = ap (cond (n == a.action) a.way) (way_or-absent n xs)

way_or-not : (d : Way) (n : ℕ) (xs : List Action) → AllByRecursion (λ b. b.action ≢ n) xs → way_or d n xs ≡ d
way_or-not d n [] apart = refl
way_or-not d n (a ∷ xs) apart = rw (ne_eqb n a.action (λ e. apart.0 (sym e))) (way_or-not d n xs apart.1)

-- any number gets the way that the actions give it, and else keeps its own
way_of-all_ways : (n : ℕ) (xs : List Action) (r : Row) → length r.ways ≡ 32 → AllByRecursion Sized xs → Once (λ a. a.action) xs → way_of (all_ways r xs) n ≡ way_or (way_of r n) n xs
way_of-all_ways n [] r len ok once = refl
way_of-all_ways n (a ∷ xs) r len ok once =
    let r' = with_way r a.action a.way in
    elim (cases_eq n a.action) [
      | inl e ↦ rw (eq-eqb n a.action e) (rw e (way_kept a.action xs r' ok.1 once.0 ∙ way_new r a.action a.way len ok.0.0 ok.0.1))
      | inr ne ↦ rw (ne_eqb n a.action ne) (way_of-all_ways n xs r' (length-set r.ways (a.action - 1) a.way ∙ len) ok.1 once.1 ∙ ap (λ d. way_or d n xs) (way_other r a.action n a.way ok.0.0 ne))
    ]

-- so a number with no way yet gets the way that they give it
way_got : (k : ℕ) (xs : List Action) (r : Row) → length r.ways ≡ 32 → way_of r k ≡ Absent → AllByRecursion Sized xs → Once (λ a. a.action) xs → way_of (all_ways r xs) k ≡ way_in k xs
way_got k xs r len absent ok once = way_of-all_ways k xs r len ok once ∙ ap (λ d. way_or d k xs) absent ∙ way_or-absent k xs

-- the ways of no action at all
way-blank : (n s k : ℕ) → way_of (blank n s) k ≡ Absent
way-blank n s k = cond_both (leb 1 k && leb k 32) _ Absent (λ w. w ≡ Absent) (λ e. get_or_alike 32 (k - 1) Absent) (λ e. refl)

pub ways_in : (n s k : ℕ) (xs : List Action) → AllByRecursion Sized xs → Once (λ a. a.action) xs → way_of (all_ways (blank n s) xs) k ≡ way_in k xs
ways_in n s k xs ok once = way_got k xs (blank n s) refl (way-blank n s k) ok once

pub fresh-blank : (n s : ℕ) (xs : List Action) → AllByRecursion (Fresh (blank n s)) xs
fresh-blank n s xs = recursion_from_All (Fresh (blank n s)) xs (λ k d h. ap declared (way-blank n s (get_or xs k d).action))

-- Steps -----------------------------------------------------------------------------------------------------------

pub same_step_lem : (s t : Step) → same_step s t ≡ true → s ≡ t
same_step_lem s t e = grind (arith, nat_tests)

-- is t among the steps with s at their end?
told_push : (t s : Step) (xs : List Step) → told t (xs ++ s ∷ []) ≡ (told t xs || same_step s t)
told_push t s [] = grind arith
told_push t s (x ∷ xs) = grind (arith, told_push t s xs)

-- the places of a row hold its steps, and then nothing
abbrev pub Held : Row → Type 0
Held r = (length r.steps ≡ 256) × (r.count ≤ 256)

held_step : (r : Row) (s : Step) → Held r → r.count < 256 → Held (with_step r s)
held_step r s h room = (length-set r.steps r.count s ∙ h.0, omega arith)

listed_push : (r : Row) (s : Step) → Held r → r.count < 256 → listed (with_step r s) ≡ listed r ++ s ∷ []
listed_push r s h room = grind (arith, take_more_set {X = Step})

abbrev Untold : Row → Step → Type 0
Untold r t = told t (listed r) ≡ false

untold_after : (r : Row) (s t : Step) → Held r → r.count < 256 → Untold (with_step r s) t → (t ≡ s → ⊥) × Untold r t
untold_after r s t h room u = grind (arith, nat_tests, listed_push r s h room, told_push t s (listed r))

untold_before : (r : Row) (s t : Step) → Held r → r.count < 256 → (t ≡ s → ⊥) → Untold r t → Untold (with_step r s) t
untold_before r s t h room apart u = grind (arith, listed_push r s h room, told_push t s (listed r), same_step_lem s t)

pub steps_once : (xs : List Step) (r : Row) → Held r → EachStepFits r xs → AllByRecursion (λ s. fitting r s ≡ true) xs × Once (λ s. s) xs × AllByRecursion (Untold r) xs × (r.count + length xs ≤ 256)
steps_once [] r h fit = (tt, tt, tt, omega arith)
steps_once (s ∷ xs) r h fit =
    let room = fit.0.2 in
    let more = steps_once xs (with_step r s) (held_step r s h room) fit.1 in
    let few = more.3 in (
      (fit.0.0, more.0),
      (all_map (λ t u. (untold_after r s t h room u).0) xs more.2, more.1),
      (fit.0.1, all_map (λ t u. (untold_after r s t h room u).1) xs more.2),
      omega arith,
    )

pub once_steps : (xs : List Step) (r : Row) → Held r → AllByRecursion (λ s. fitting r s ≡ true) xs → Once (λ s. s) xs → AllByRecursion (Untold r) xs → r.count + length xs ≤ 256 → EachStepFits r xs
once_steps [] r h ok once new few = tt
once_steps (s ∷ xs) r h ok once new few =
    let room : r.count < 256 = omega arith in (
      (ok.0, new.0, room),
      once_steps xs (with_step r s) (held_step r s h room) ok.1 once.1 (all_zip (λ t p q. untold_before r s t h room p q) xs once.0 new.1) (omega arith),
    )

pub untold_none : (r : Row) → r.count ≡ 0 → (xs : List Step) → AllByRecursion (Untold r) xs
untold_none r e xs = let z : min r.count 256 ≡ 0 = omega arith in recursion_from_All (Untold r) xs (λ k d h. ap (λ n. told (get_or xs k d) (take n r.steps)) z)

-- the steps fill the places from the first on
pub steps_placed : (xs ys : List Step) (r : Row) → r.count ≡ length ys → r.steps ≡ ys ++ replicate (256 - length ys) unused → length ys + length xs ≤ 256
    → ((all_steps r xs).steps ≡ (ys ++ xs) ++ replicate (256 - (length ys + length xs)) unused) × ((all_steps r xs).count ≡ length ys + length xs)
steps_placed [] ys r ec es few = grind (arith, append-nil {A = Step})
steps_placed (s ∷ xs) ys r ec es few =
    let one : 256 - length ys ≡ suc (256 - length (ys ++ s ∷ [])) = let e = length-append ys (s ∷ []) in omega arith in
    let place : set r.steps r.count s ≡ (ys ++ s ∷ []) ++ replicate (256 - length (ys ++ s ∷ [])) unused =
    rw (ec, es, one, set_at, append_assoc) refl in
    let grown = length_push ys s in
    let more = steps_placed xs (ys ++ s ∷ []) (with_step r s) (omega arith) place (omega arith) in
    grind (arith, append_assoc {A = Step})

-- Errors ----------------------------------------------------------------------------------------------------------

abbrev Unfailed : Row → ℕ → Type 0
Unfailed r s = error_at r s ≡ false

abbrev pub Wide : Row → Type 0
Wide r = (length r.errors ≡ 64) × (r.states ≤ 64)

wide_error : (r : Row) (s : ℕ) → Wide r → Wide (with_error r s)
wide_error r s h = (length-set r.errors s true ∙ h.0, h.1)

unfailed_after : (r : Row) (s t : ℕ) → Wide r → s < r.states → Unfailed (with_error r s) t → (t ≡ s → ⊥) × Unfailed r t
unfailed_after r s t h l u = grind (arith, get_or-set_at {X = Bool}, get_or-set_other {A = Bool})

pub errors_once : (xs : List ℕ) (r : Row) → Wide r → EachErrorFits r xs → AllByRecursion (λ s. s < r.states) xs × Once (λ s. s) xs × AllByRecursion (Unfailed r) xs
errors_once [] r h fit = (tt, tt, tt)
errors_once (s ∷ xs) r h fit =
    let more = errors_once xs (with_error r s) (wide_error r s h) fit.1 in (
      (fit.0.0, more.0),
      (all_map (λ t u. (unfailed_after r s t h fit.0.0 u).0) xs more.2, more.1),
      (fit.0.1, all_map (λ t u. (unfailed_after r s t h fit.0.0 u).1) xs more.2),
    )

pub once_errors : (xs : List ℕ) (r : Row) → AllByRecursion (λ s. s < r.states) xs → Once (λ s. s) xs → AllByRecursion (Unfailed r) xs → EachErrorFits r xs
once_errors [] r ok once new = tt
once_errors (s ∷ xs) r ok once new =
    ((ok.0, new.0), once_errors xs (with_error r s) ok.1 once.1 (all_zip (λ t p q. get_or-set_other r.errors s t true false p ∙ q) xs once.0 new.1))

pub errors_in : (q : ℕ) (xs : List ℕ) (r : Row) → Wide r → AllByRecursion (λ s. s < r.states) xs → error_at (all_errors r xs) q ≡ (error_at r q || member q xs)
errors_in q [] r h ok = grind arith
errors_in q (s ∷ xs) r h ok = grind (arith, nat_tests, errors_in q xs (with_error r s) (wide_error r s h) ok.1, get_or-set_at {X = Bool}, get_or-set_other {A = Bool})
