-- Bytes open as a table exactly where they are the records of a lawful content.
use Rattle.std.proofs.Common.{◌≡◌, ℕ, zero, suc, ◌+◌, ◌-◌, ◌<◌, ◌≤◌, true, false, ◌||◌, List, [], ◌∷◌, length, get_or, replicate, Ok, sym, refl, ap, ◌∙◌, arith, length-set}
use Rattle.std.specs.List.{AllByRecursion}
use Rattle.std.proofs.lemmas.List.Elements.{recursion_from_All}
use Rattle.semantics.specs.declared.way.Way.TheVariants.{Absent}
use Rattle.semantics.proofs.Words.{all_map}
use Rattle.reader.specs.declared.row.Row.{Row}
use Rattle.reader.specs.declared.row.Step.{Step}
use Rattle.reader.specs.declared.stage.Stage.TheVariants.{Head}
use Rattle.reader.specs.Record.{Records, records, next}
use Rattle.reader.specs.Row.{blank, error_at, fitting}
use Rattle.reader.specs.Draft.{with_way, with_step, with_error, follow}
use Rattle.reader.specs.Table.{opened}
use Rattle.reader.specs.Layout.{Action, Content, Once, way_in, fits, tabled, member, row_of, Lays, LaidOut}
use Rattle.reader.proofs.Rows.{way_inside, get_or_alike}
use Rattle.reader.proofs.Parts.{all_ways, all_steps, all_errors, table_told, follow_table}
use Rattle.reader.proofs.Contents.{Held, Wide, Sized, ways_once, once_ways, ways_in, fresh-blank, steps_once, once_steps, untold_none, steps_placed, errors_once, once_errors, errors_in}

-- what the ways, the steps and the errors of a row leave as it was
abbrev Sides : Row → Row → Type 0
Sides r r' = (r'.states ≡ r.states) × (r'.start ≡ r.start)

ways_keep : (xs : List Action) (r : Row) → Sides r (all_ways r xs) × ((all_ways r xs).count ≡ r.count) × ((all_ways r xs).steps ≡ r.steps) × ((all_ways r xs).errors ≡ r.errors) × (length (all_ways r xs).ways ≡ length r.ways)
ways_keep [] r = ((refl, refl), refl, refl, refl, refl)
ways_keep (a ∷ xs) r =
    let k = ways_keep xs (with_way r a.action a.way) in
    (k.0, k.1, k.2, k.3, k.4 ∙ length-set r.ways (a.action - 1) a.way)

steps_keep : (xs : List Step) (r : Row) → Sides r (all_steps r xs) × ((all_steps r xs).ways ≡ r.ways) × ((all_steps r xs).errors ≡ r.errors)
steps_keep [] r = ((refl, refl), refl, refl)
steps_keep (s ∷ xs) r = steps_keep xs (with_step r s)

errors_keep : (xs : List ℕ) (r : Row) → Sides r (all_errors r xs) × ((all_errors r xs).ways ≡ r.ways) × ((all_errors r xs).count ≡ r.count) × ((all_errors r xs).steps ≡ r.steps) × (length (all_errors r xs).errors ≡ length r.errors)
errors_keep [] r = ((refl, refl), refl, refl, refl, refl)
errors_keep (s ∷ xs) r =
    let k = errors_keep xs (with_error r s) in
    (k.0, k.1, k.2, k.3, k.4 ∙ length-set r.errors s true)

-- a list that has the value of f at each place
is_tabled : {X : Type 0} (n : ℕ) (f : ℕ → X) (xs : List X) (d : X) → length xs ≡ n → ((i : ℕ) → i < n → get_or xs i d ≡ f i) → xs ≡ tabled n f
unfolding tabled
is_tabled zero f [] d l h = refl
is_tabled (suc n) f (x ∷ xs) d l h =
    let rest = is_tabled n (λ i. f (suc i)) xs d (omega arith) (λ i k. h (suc i) (omega arith)) in
    λ i. h 0 (omega arith) i ∷ rest i
is_tabled n f xs d l h = absurd (omega arith)

-- and what it has
length-tabled : {X : Type 0} (n : ℕ) (f : ℕ → X) → length (tabled n f) ≡ n
unfolding tabled
length-tabled zero f = refl
length-tabled (suc n) f = ap suc (length-tabled n (λ i. f (suc i)))

get_or-tabled : {X : Type 0} (n i : ℕ) (f : ℕ → X) (d : X) → i < n → get_or (tabled n f) i d ≡ f i
unfolding tabled
get_or-tabled zero i f d h = absurd (omega arith)
get_or-tabled (suc n) zero f d h = refl
get_or-tabled (suc n) (suc i) f d h = get_or-tabled n i (λ j. f (suc j)) d (omega arith)

abbrev content : ℕ → ℕ → List Action → List Step → List ℕ → Content
content n s xs ss es = record { states = n; start = s; actions = xs; steps = ss; errors = es }

-- the row of a head and some actions, and with some steps
abbrev acted_row : ℕ → ℕ → List Action → Row
acted_row n s xs = all_ways (blank n s) xs

abbrev stepped_row : ℕ → ℕ → List Action → List Step → Row
stepped_row n s xs ss = all_steps (acted_row n s xs) ss

module _ (n s : ℕ) (xs : List Action) where
  acted_held : Held (acted_row n s xs)
  acted_held = let k = ways_keep xs (blank n s) in let none_yet : (acted_row n s xs).count ≡ 0 = k.1 in (ap length k.2, omega arith)

  stepped_states : (ss : List Step) → (stepped_row n s xs ss).states ≡ n
  stepped_states ss = (steps_keep ss (acted_row n s xs)).0.0 ∙ (ways_keep xs (blank n s)).0.0

  stepped_errors : (ss : List Step) → (stepped_row n s xs ss).errors ≡ replicate 64 false
  stepped_errors ss = (steps_keep ss (acted_row n s xs)).2 ∙ (ways_keep xs (blank n s)).3

  stepped_wide : (ss : List Step) → n ≤ 64 → Wide (stepped_row n s xs ss)
  stepped_wide ss small = let states_are = stepped_states ss in (ap length (stepped_errors ss), omega arith)

  module _ (ok : AllByRecursion Sized xs) (once : Once (λ a. a.action) xs) where
    -- what fits the row of the actions fits the content
    fits_same : (ss : List Step) (es : List ℕ) (t : Step) → fits (content n s xs ss es) t ≡ fitting (acted_row n s xs) t
    fits_same ss es t = rw ((ways_keep xs (blank n s)).0.0, ways_in n s t.action xs ok once)

    -- the row that all things make is the content's row
    row_is : (ss : List Step) (es : List ℕ) → length ss ≤ 256 → n ≤ 64 → AllByRecursion (λ e. e < n) es → all_errors (stepped_row n s xs ss) es ≡ row_of (content n s xs ss es)
    row_is ss es few small fit =
        let r1 = acted_row n s xs in
        let r2 = stepped_row n s xs ss in
        let k1 = ways_keep xs (blank n s) in
        let k2 = steps_keep ss r1 in
        let k3 = errors_keep es r2 in
        let placed = steps_placed ss [] r1 k1.1 k1.2 (omega arith) in
        let within : AllByRecursion (λ e. e < r2.states) es = rw (stepped_states ss) fit in
        let wide = stepped_wide ss small in
        let ways_are = is_tabled 32 (λ i. way_in (suc i) xs) r1.ways Absent k1.4 (λ i h. grind (arith, way_inside r1 (suc i), ways_in n s (suc i) xs ok once)) in
        let failing =
        is_tabled 64 (λ q. member q es) (all_errors r2 es).errors false (k3.4 ∙ wide.0) (λ q h.
        errors_in q es r2 wide within ∙ ap (λ b. b || member q es) (ap (λ l. get_or l q false) (stepped_errors ss) ∙ get_or_alike 64 q false)) in
        grind arith

-- what opens is laid out
pub follow_lays : (rs : Records) (r : Row) → follow (blank 1 0) Head 0 rs ≡ Ok r → Lays rs r
follow_lays rs r p =
    let (n, s, rest, is, (l, u, h), told) = table_told rs (blank 1 0) 0 r p in
    let (xs, ss, es, told_is, fit, fits_steps, fits_errors, row) = told in
    let (ok, once, fresh) = ways_once xs (blank n s) refl fit in
    let (ok_steps, once_steps, new_steps, room) = steps_once ss (acted_row n s xs) (acted_held n s xs) fits_steps in
    let (ok_errors, once_errors, new_errors) = errors_once es (stepped_row n s xs ss) (stepped_wide n s xs ss u) fits_errors in
    let few : length ss ≤ 256 = omega arith in
    let within : AllByRecursion (λ e. e < n) es = rw (stepped_states n s xs ss) at ok_errors in (
      content n s xs ss es,
      record {
        some = l;
        few = u;
        begins = h;
        actions_fit = ok;
        actions_once = once;
        steps_fit = all_map (λ t f. fits_same n s xs ok once ss es t ∙ f) ss ok_steps;
        steps_once = once_steps;
        steps_few = few;
        errors_fit = within;
        errors_once = once_errors;
      },
      is ∙ ap (next 1 (n ∷ s ∷ [])) told_is,
      row ∙ row_is n s xs ok once ss es few u within,
    )

-- what is laid out opens
pub lays_follow : (rs : Records) (r : Row) → Lays rs r → follow (blank 1 0) Head 0 rs ≡ Ok r
lays_follow rs r (c, law, is, row) =
    let n = c.states in
    let s = c.start in
    let xs = c.actions in
    let ss = c.steps in
    let es = c.errors in
    let r1 = acted_row n s xs in
    let r2 = stepped_row n s xs ss in
    let none_yet : r1.count ≡ 0 = (ways_keep xs (blank n s)).1 in
    let room : r1.count + length ss ≤ 256 = let few = law.steps_few in omega arith in
    let fit = all_map (λ t f. sym (fits_same n s xs law.actions_fit law.actions_once ss es t) ∙ f) ss law.steps_fit in
    let within : AllByRecursion (λ e. e < r2.states) es = rw (stepped_states n s xs ss) law.errors_fit in
    let unfailed = recursion_from_All (λ e. error_at r2 e ≡ false) es (λ k d h. ap (λ l. get_or l (get_or es k d) false) (stepped_errors n s xs ss) ∙ get_or_alike 64 (get_or es k d) false) in
    ap (follow (blank 1 0) Head 0) is
    ∙ follow_table n s xs ss es (blank 1 0) 0 law.some law.few law.begins
    (once_ways xs (blank n s) law.actions_fit law.actions_once (fresh-blank n s xs))
    (once_steps ss r1 (acted_held n s xs) fit law.steps_once (untold_none r1 none_yet ss) room)
    (once_errors es r2 within law.errors_once unfailed)
    ∙ ap Ok (row_is n s xs law.actions_fit law.actions_once ss es law.steps_few law.few law.errors_fit ∙ sym row)

pub opened_laid : (bytes : List ℕ) (r : Row) → opened bytes ≡ Ok r → LaidOut bytes r
unfolding opened LaidOut
opened_laid bytes r p = follow_lays (records bytes) r p

pub laid_opened : (bytes : List ℕ) (r : Row) → LaidOut bytes r → opened bytes ≡ Ok r
unfolding opened LaidOut
laid_opened bytes r l = lays_follow (records bytes) r l
