-- A table's records, part by part: what following them gives.
use Rattle.std.proofs.Common.{◌≡◌, ℕ, ◌+◌, ◌<◌, ◌≤◌, true, false, List, [], ◌∷◌, Ok, sym, refl, ap, ◌∙◌, arith}
use Rattle.std.specs.List.{fold}
use Rattle.std.proofs.lemmas.Bool.{le-leb, lt-ltb}
use Rattle.std.proofs.lemmas.Bool.Decides.{nat_tests}
use Rattle.semantics.specs.declared.way.Way.{Way}
use Rattle.semantics.specs.Way.{number}
use Rattle.reader.specs.declared.row.Row.{Row}
use Rattle.reader.specs.declared.row.Step.{Step}
use Rattle.reader.specs.declared.stage.Stage.{Stage}
use Rattle.reader.specs.declared.stage.Stage.TheVariants.{Head, Actions, Steps, Errors, Closed}
use Rattle.reader.specs.Record.{Records, none, next, size_of}
use Rattle.reader.specs.Row.{blank, way_of, error_at, listed, told, declared, fitting}
use Rattle.reader.specs.Draft.{with_way, with_step, with_error, way_from, due, staged, entered, closed, follow}
use Rattle.reader.specs.Layout.{Action, telling, action_body, step_body, error_body, closing}
use Rattle.reader.proofs.Drafts.{headed_fits}
use Rattle.reader.proofs.Entries.{Entry, is_head, is_action, is_step, is_error, is_end}
use Rattle.reader.proofs.Follows.{first, follow_more}

-- a row with all of a list
abbrev pub all_ways : Row → List Action → Row
all_ways r xs = fold (λ r a. with_way r a.action a.way) r xs

abbrev pub all_steps : Row → List Step → Row
all_steps r xs = fold with_step r xs

abbrev pub all_errors : Row → List ℕ → Row
all_errors r xs = fold with_error r xs

-- each of a list may be added in its turn
abbrev pub WaysFit : Row → List Action → Type 0
WaysFit r [] = Unit {0}
WaysFit r (a ∷ rest) = ((1 ≤ a.action) × (a.action ≤ 32) × (declared a.way ≡ true) × (declared (way_of r a.action) ≡ false)) × WaysFit (with_way r a.action a.way) rest

abbrev pub EachStepFits : Row → List Step → Type 0
EachStepFits r [] = Unit {0}
EachStepFits r (s ∷ ss) = ((fitting r s ≡ true) × (told s (listed r) ≡ false) × (r.count < 256)) × EachStepFits (with_step r s) ss

abbrev pub EachErrorFits : Row → List ℕ → Type 0
EachErrorFits r [] = Unit {0}
EachErrorFits r (s ∷ ss) = ((s < r.states) × (error_at r s ≡ false)) × EachErrorFits (with_error r s) ss

-- the number of a declared way leads back to it
way-number : (w : ℕ) → declared (way_from w) ≡ true → number (way_from w) ≡ w
way-number w d = grind (arith, nat_tests)

pub number-way : (w : Way) → declared w ≡ true → way_from (number w) ≡ w
number-way w d = grind arith

-- nothing follows the end
after_end : (rs : Records) (r : Row) (at : ℕ) (r' : Row) → follow r Closed at rs ≡ Ok r' → (rs ≡ none) × (r' ≡ r)
unfolding follow
after_end none r at r' p = (refl, cc)
after_end rs r at r' p = cc

-- kinds from 3 on are due at both stages, and kinds from 4 on at all three
late_steps : (r : Row) (at kind : ℕ) (body : List ℕ) (rest : Records) → 3 ≤ kind → follow r Actions at (next kind body rest) ≡ follow r Steps at (next kind body rest)
unfolding follow
late_steps r at kind body rest h = rw (le-leb 2 kind (omega arith), le-leb 3 kind h)

late_errors : (r : Row) (at kind : ℕ) (body : List ℕ) (rest : Records) → 4 ≤ kind → follow r Steps at (next kind body rest) ≡ follow r Errors at (next kind body rest)
unfolding follow
late_errors r at kind body rest h = rw (le-leb 3 kind (omega arith), le-leb 4 kind h)

-- what the records from the errors on tell
abbrev pub ErrorsTold : Records → Row → Row → Type 0
ErrorsTold rs r r' = (es : List ℕ) × (rs ≡ telling 4 error_body es closing) × EachErrorFits r es × (r' ≡ all_errors r es)

pub errors_told : (rs : Records) (r : Row) (at : ℕ) (r' : Row) → follow r Errors at rs ≡ Ok r' → ErrorsTold rs r r'
unfolding follow
errors_told (next kind body rest) r at r' p =
    let (t, e, further) = first r Errors at kind body rest r' p in
    go t e further (errors_told rest)
  where
    go : (t : Row × Stage) → Entry r Errors kind body t.0 t.1 → follow t.0 t.1 (at + size_of body) rest ≡ Ok r'
        → ((x : Row) (y : ℕ) (x' : Row) → follow x Errors y rest ≡ Ok x' → ErrorsTold rest x x') → ErrorsTold (next kind body rest) r r'
    go t (is_head n s d k b l u h e g) q further = cc
    go t (is_action a w d k b l u dw new e g) q further = cc
    go t (is_step s d k b ft new room e g) q further = cc
    go t (is_error s d k b h new e g) q further =
        let (es, is, fit, row) = further (with_error r s) (at + size_of body) r' (rw (e, g) at q) in
        (s ∷ es, cc, ((h, new), fit), row)
    go t (is_end d k b e g) q further =
        let (none_left, row) = after_end rest r (at + size_of body) r' (rw (e, g) at q) in
        ([], cc, tt, row)
errors_told rs r at r' p = cc

-- what the records from the steps on tell
abbrev pub StepsTold : Records → Row → Row → Type 0
StepsTold rs r r' =
    (ss : List Step) × (es : List ℕ) × (rs ≡ telling 3 step_body ss (telling 4 error_body es closing)) × EachStepFits r ss × EachErrorFits (all_steps r ss) es × (r' ≡ all_errors (all_steps r ss) es)

-- none of them is a step
no_step : (kind : ℕ) (body : List ℕ) (rest : Records) (r : Row) (at : ℕ) (r' : Row) → 4 ≤ kind → follow r Steps at (next kind body rest) ≡ Ok r' → StepsTold (next kind body rest) r r'
no_step kind body rest r at r' h p =
    let f = errors_told (next kind body rest) r at r' (sym (late_errors r at kind body rest h) ∙ p) in
    ([], f.0, f.1, tt, f.2, f.3)

pub steps_told : (rs : Records) (r : Row) (at : ℕ) (r' : Row) → follow r Steps at rs ≡ Ok r' → StepsTold rs r r'
unfolding follow
steps_told (next kind body rest) r at r' p =
    let (t, e, further) = first r Steps at kind body rest r' p in
    go t e further (steps_told rest)
  where
    go : (t : Row × Stage) → Entry r Steps kind body t.0 t.1 → follow t.0 t.1 (at + size_of body) rest ≡ Ok r'
        → ((x : Row) (y : ℕ) (x' : Row) → follow x Steps y rest ≡ Ok x' → StepsTold rest x x') → StepsTold (next kind body rest) r r'
    go t (is_head n s d k b l u h e g) q further = cc
    go t (is_action a w d k b l u dw new e g) q further = cc
    go t (is_step s d k b ft new room e g) q further =
        let (ss, es, is, fit, fite, row) = further (with_step r s) (at + size_of body) r' (rw (e, g) at q) in
        (s ∷ ss, es, cc, ((ft, new, room), fit), fite, row)
    go t (is_error s d k b h new e g) q further = no_step kind body rest r at r' (omega arith) p
    go t (is_end d k b e g) q further = no_step kind body rest r at r' (omega arith) p
steps_told rs r at r' p = cc

-- what the records from the actions on tell
abbrev pub ActionsTold : Records → Row → Row → Type 0
ActionsTold rs r r' =
    («as» : List Action) × (ss : List Step) × (es : List ℕ) × (rs ≡ telling 2 action_body «as» (telling 3 step_body ss (telling 4 error_body es closing)))
    × WaysFit r «as» × EachStepFits (all_ways r «as») ss × EachErrorFits (all_steps (all_ways r «as») ss) es × (r' ≡ all_errors (all_steps (all_ways r «as») ss) es)

no_action : (kind : ℕ) (body : List ℕ) (rest : Records) (r : Row) (at : ℕ) (r' : Row) → 3 ≤ kind → follow r Actions at (next kind body rest) ≡ Ok r' → ActionsTold (next kind body rest) r r'
no_action kind body rest r at r' h p =
    let f = steps_told (next kind body rest) r at r' (sym (late_steps r at kind body rest h) ∙ p) in
    ([], f.0, f.1, f.2, tt, f.3, f.4, f.5)

pub actions_told : (rs : Records) (r : Row) (at : ℕ) (r' : Row) → follow r Actions at rs ≡ Ok r' → ActionsTold rs r r'
unfolding follow
actions_told (next kind body rest) r at r' p =
    let (t, e, further) = first r Actions at kind body rest r' p in
    go t e further (actions_told rest)
  where
    go : (t : Row × Stage) → Entry r Actions kind body t.0 t.1 → follow t.0 t.1 (at + size_of body) rest ≡ Ok r'
        → ((x : Row) (y : ℕ) (x' : Row) → follow x Actions y rest ≡ Ok x' → ActionsTold rest x x') → ActionsTold (next kind body rest) r r'
    go t (is_head n s d k b l u h e g) q further = cc
    go t (is_action a w d k b l u dw new e g) q further =
        let (xs, ss, es, is, fit, fits, fite, row) = further (with_way r a (way_from w)) (at + size_of body) r' (rw (e, g) at q) in
        (record { action = a; way = way_from w } ∷ xs, ss, es, cc (way-number w dw), ((l, u, dw, new), fit), fits, fite, row)
    go t (is_step s d k b ft new room e g) q further = no_action kind body rest r at r' (omega arith) p
    go t (is_error s d k b h new e g) q further = no_action kind body rest r at r' (omega arith) p
    go t (is_end d k b e g) q further = no_action kind body rest r at r' (omega arith) p
actions_told rs r at r' p = cc

-- what all records of a table tell
abbrev pub TableTold : Records → Row → Type 0
TableTold rs r' =
    (n : ℕ) × (s : ℕ) × (rest : Records) × (rs ≡ next 1 (n ∷ s ∷ []) rest) × ((1 ≤ n) × (n ≤ 64) × (s < n)) × ActionsTold rest (blank n s) r'

pub table_told : (rs : Records) (r : Row) (at : ℕ) (r' : Row) → follow r Head at rs ≡ Ok r' → TableTold rs r'
unfolding follow
table_told (next kind body rest) r at r' p =
    let (t, e, further) = first r Head at kind body rest r' p in
    go t e further
  where
    go : (t : Row × Stage) → Entry r Head kind body t.0 t.1 → follow t.0 t.1 (at + size_of body) rest ≡ Ok r' → TableTold (next kind body rest) r'
    go t (is_head n s d k b l u h e g) q = (n, s, rest, cc, (l, u, h), actions_told rest (blank n s) (at + size_of body) r' (rw (e, g) at q))
    go t (is_action a w d k b l u dw new e g) q = cc
    go t (is_step s d k b ft new room e g) q = cc
    go t (is_error s d k b h new e g) q = cc
    go t (is_end d k b e g) q = cc
table_told rs r at r' p = cc

-- and back: records that tell fitting things are followed to their end
pub follow_closing : (r : Row) (stage : Stage) (at : ℕ) → closed stage ≡ false → due stage 5 ≡ true → follow r stage at closing ≡ Ok r
unfolding follow
follow_closing r stage at going d = rw (going, d)

pub follow_errors : (es : List ℕ) (r : Row) (stage : Stage) (at : ℕ) → closed stage ≡ false → due stage 4 ≡ true → due stage 5 ≡ true → EachErrorFits r es → follow r stage at (telling 4 error_body es closing) ≡ Ok (all_errors r es)
follow_errors [] r stage at going d4 d5 fit = follow_closing r stage at going d5
follow_errors (s ∷ es) r stage at going d4 d5 fit =
    let in_turn : entered r stage at 4 (s ∷ []) ≡ Ok (with_error r s, Errors) = rw (d4, lt-ltb s r.states fit.0.0, fit.0.1) in
    follow_more r stage at 4 (s ∷ []) (telling 4 error_body es closing) (with_error r s, Errors) going in_turn
    ∙ follow_errors es (with_error r s) Errors (at + size_of (s ∷ [])) refl refl refl fit.1

pub follow_steps : (ss : List Step) (es : List ℕ) (r : Row) (stage : Stage) (at : ℕ) → closed stage ≡ false → due stage 3 ≡ true → due stage 4 ≡ true → due stage 5 ≡ true → EachStepFits r ss → EachErrorFits (all_steps r ss) es
    → follow r stage at (telling 3 step_body ss (telling 4 error_body es closing)) ≡ Ok (all_errors (all_steps r ss) es)
follow_steps [] es r stage at going d3 d4 d5 fit fite = follow_errors es r stage at going d4 d5 fite
follow_steps (s ∷ ss) es r stage at going d3 d4 d5 fit fite =
    let in_turn : entered r stage at 3 (step_body s) ≡ Ok (with_step r s, Steps) = rw (d3, fit.0.0, fit.0.1, lt-ltb r.count 256 fit.0.2) in
    follow_more r stage at 3 (step_body s) (telling 3 step_body ss (telling 4 error_body es closing)) (with_step r s, Steps) going in_turn
    ∙ follow_steps ss es (with_step r s) Steps (at + size_of (step_body s)) refl refl refl refl fit.1 fite

pub follow_actions : («as» : List Action) (ss : List Step) (es : List ℕ) (r : Row) (at : ℕ) → WaysFit r «as» → EachStepFits (all_ways r «as») ss → EachErrorFits (all_steps (all_ways r «as») ss) es
    → follow r Actions at (telling 2 action_body «as» (telling 3 step_body ss (telling 4 error_body es closing))) ≡ Ok (all_errors (all_steps (all_ways r «as») ss) es)
follow_actions [] ss es r at fit fits fite = follow_steps ss es r Actions at refl refl refl refl fits fite
follow_actions (a ∷ more) ss es r at fit fits fite =
    let n = a.action in
    let w = a.way in
    let in_turn : entered r Actions at 2 (action_body a) ≡ Ok (with_way r n w, Actions) =
    rw (number-way w fit.0.2, fit.0.3, fit.0.2, le-leb 1 n fit.0.0, le-leb n 32 fit.0.1) in
    follow_more r Actions at 2 (action_body a) (telling 2 action_body more (telling 3 step_body ss (telling 4 error_body es closing))) (with_way r n w, Actions) refl in_turn
    ∙ follow_actions more ss es (with_way r n w) (at + size_of (action_body a)) fit.1 fits fite

pub follow_table : (n s : ℕ) («as» : List Action) (ss : List Step) (es : List ℕ) (r : Row) (at : ℕ) → 1 ≤ n → n ≤ 64 → s < n → WaysFit (blank n s) «as» → EachStepFits (all_ways (blank n s) «as») ss → EachErrorFits (all_steps (all_ways (blank n s) «as») ss) es
    → follow r Head at (next 1 (n ∷ s ∷ []) (telling 2 action_body «as» (telling 3 step_body ss (telling 4 error_body es closing)))) ≡ Ok (all_errors (all_steps (all_ways (blank n s) «as») ss) es)
follow_table n s «as» ss es r at l u h fit fits fite =
    let new = headed_fits at (n ∷ s ∷ []) refl l u h in
    follow_more r Head at 1 (n ∷ s ∷ []) (telling 2 action_body «as» (telling 3 step_body ss (telling 4 error_body es closing))) (blank n s, Actions) refl (ap (staged Actions) new)
    ∙ follow_actions «as» ss es (blank n s) (at + 6) fit fits fite
