-- Every record that is taken in keeps the facts of a table, and adds its bytes to what the content takes.
use Rattle.std.proofs.Common.{◌≡◌, ℕ, ◌+◌, ◌-◌, ◌*◌, ◌<◌, ◌≤◌, Bool, true, false, cond, ◌≢◌, List, length, get_or, set, refl, arith, length-set, get_or-set_other}
use Rattle.std.specs.List.{count_by}
use Rattle.std.proofs.lemmas.Bool.{both_ways}
use Rattle.std.proofs.lemmas.Bool.Decides.{nat_tests}
use Rattle.std.proofs.lemmas.Grind.{common_steps, get_or-set_at}
use Rattle.std.proofs.lemmas.List.Sums.{sum_by-set, count_by-le-length}
use Rattle.semantics.specs.declared.way.Way.{Way}
use Rattle.semantics.specs.declared.way.Way.TheVariants.{Absent}
use Rattle.reader.specs.declared.row.Row.{Row}
use Rattle.reader.specs.declared.row.Step.{Step}
use Rattle.reader.specs.declared.stage.Stage.{Stage}
use Rattle.reader.specs.declared.stage.Stage.TheVariants.{Head, Actions, Steps, Errors, Closed}
use Rattle.reader.specs.Record.{size_of}
use Rattle.reader.specs.Row.{blank, way_of, declared, fitting, Facts}
use Rattle.reader.specs.Draft.{with_way, with_step, with_error, way_from, due}
use Rattle.reader.proofs.Rows.{way_inside, get_or_alike}
use Rattle.reader.proofs.Entries.{Entry, is_head, is_action, is_step, is_error, is_end}

-- the places that a row has
abbrev pub Places : Row → Type 0
Places r = (length r.ways ≡ 32) × (length r.steps ≡ 256) × (length r.errors ≡ 64)

abbrev pub Keeps : Row → Type 0
Keeps r = Places r × Facts r

pub keeps_blank : (n s : ℕ) → 1 ≤ n → n ≤ 64 → s < n → Keeps (blank n s)
keeps_blank n s l u h =
    ((refl, refl, refl), (l, u, h, omega arith, (λ k b. absurd (omega arith)), (λ q e. absurd (both_ways _ (get_or_alike 64 q false) e))))

pub kept-blank : (r : Row) (n s : ℕ) → r ≡ blank n s → 1 ≤ n → n ≤ 64 → s < n → Keeps r
kept-blank r n s e l u h = rw e (keeps_blank n s l u h)

-- the way of the action that a row is given, and of the others
pub way_new : (r : Row) (a : ℕ) (w : Way) → length r.ways ≡ 32 → 1 ≤ a → a ≤ 32 → way_of (with_way r a w) a ≡ w
way_new r a w e l u = grind (arith, common_steps)

pub way_other : (r : Row) (a b : ℕ) (w : Way) → 1 ≤ a → b ≢ a → way_of (with_way r a w) b ≡ way_of r b
way_other r a b w l ne = grind (arith, common_steps)

keeps_way : (r : Row) (a : ℕ) (w : Way) → 1 ≤ a → a ≤ 32 → declared w ≡ true → Keeps r → Keeps (with_way r a w)
keeps_way r a w l u dw k = grind (arith, common_steps)

keeps_step : (r : Row) (s : Step) → fitting r s ≡ true → r.count < 256 → Keeps r → Keeps (with_step r s)
keeps_step r s f room k = grind (arith, length-set {A = Step}, get_or-set_at {X = Step}, get_or-set_other {A = Step})

keeps_error : (r : Row) (s : ℕ) → s < r.states → Keeps r → Keeps (with_error r s)
keeps_error r s h k = grind (arith, common_steps)

pub entry_keeps : {r : Row} {stage : Stage} {kind : ℕ} {body : List ℕ} {r' : Row} {stage' : Stage} → Entry r stage kind body r' stage' → Keeps r → Keeps r'
entry_keeps (is_head n s d k b l u h e g) keeps = rw e (keeps_blank n s l u h)
entry_keeps {r} (is_action a w d k b l u dw new e g) keeps = rw e (keeps_way r a (way_from w) l u dw keeps)
entry_keeps {r} (is_step s d k b f new room e g) keeps = rw e (keeps_step r s f room keeps)
entry_keeps {r} (is_error s d k b h new e g) keeps = rw e (keeps_error r s h keeps)
entry_keeps (is_end d k b e g) keeps = rw e keeps

-- one element more passes
count_set : {X : Type 0} (p : X → Bool) (xs : List X) (i : ℕ) (y d : X) → i < length xs → p (get_or xs i d) ≡ false → p y ≡ true → count_by p (set xs i y) ≡ count_by p xs + 1
count_set p xs i y d h f t = grind (arith, common_steps, sum_by-set (λ x. cond (p x) 1 0) xs i y d)

-- the bytes that a row's head, actions, steps and errors take
abbrev pub taking : Row → ℕ
taking r = 6 + 6 * count_by declared r.ways + 7 * r.count + 5 * count_by (λ b. b) r.errors

-- the bytes of a draft's records
abbrev pub sized : Row → Stage → ℕ
sized r Head = 0
sized r Actions = taking r
sized r Steps = taking r
sized r Errors = taking r
sized r Closed = taking r + 4

-- past the head, and before the end
sized_between : (r : Row) (stage : Stage) (k : ℕ) → 2 ≤ k → due stage k ≡ true → sized r stage ≡ taking r
sized_between r stage k l d = grind (arith, nat_tests)

pub entry_sized : {r : Row} {stage : Stage} {kind : ℕ} {body : List ℕ} {r' : Row} {stage' : Stage} → Entry r stage kind body r' stage' → Keeps r → sized r stage + size_of body ≡ sized r' stage'
entry_sized {r} {stage} (is_head n s d k b l u h e g) keeps = rw (d, b, e, g)
entry_sized {r} {stage} (is_action a w d k b l u dw new e g) keeps =
    let more = count_set declared r.ways (a - 1) (way_from w) Absent (omega arith) (rw (way_inside r a l u) at new) dw in
    rw (sized_between r stage 2 (omega arith) d, b, e, g) (omega arith)
entry_sized {r} {stage} (is_step s d k b f new room e g) keeps = rw (sized_between r stage 3 (omega arith) d, b, e, g) (omega arith)
entry_sized {r} {stage} (is_error s d k b h new e g) keeps =
    let more = count_set (λ b. b) r.errors s true false (omega arith) new refl in
    rw (sized_between r stage 4 (omega arith) d, b, e, g) (omega arith)
entry_sized {r} {stage} (is_end d k b e g) keeps = rw (sized_between r stage 5 (omega arith) d, b, e, g)

taking_bound : (r : Row) → Keeps r → taking r ≤ 2310
taking_bound r k = omega (arith, count_by-le-length declared r.ways, count_by-le-length (λ b. b) r.errors)

-- the records of a table take at most 2,314 bytes
pub sized_bound : (r : Row) (stage : Stage) → Keeps r → sized r stage ≤ 2314
sized_bound r Head k = omega arith
sized_bound r Actions k = omega (arith, taking_bound r k)
sized_bound r Steps k = omega (arith, taking_bound r k)
sized_bound r Errors k = omega (arith, taking_bound r k)
sized_bound r Closed k = omega (arith, taking_bound r k)
