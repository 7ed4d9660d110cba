-- The sets of states are what runs say, and words are decided along them.
use Rattle.std.proofs.Common.{◌≡◌, ℕ, suc, ◌<◌, Bool, true, false, not, ◌&&◌, ◌||◌, ◌≢◌, ◌⊎◌, List, [], ◌∷◌, ◌++◌, refl, inl, inr, arith}
use Rattle.std.proofs.lemmas.Bool.{and_parts, and_from, or_cases, or_left, or_right, not-true, not_from_false, eqb-true, eq-eqb}
use Rattle.semantics.specs.declared.way.Way.TheVariants.{Absent, Input, Output}
use Rattle.semantics.specs.Way.{is_input, is_output}
use Rattle.semantics.specs.System.{System, WellFormed, any, accepts}
use Rattle.semantics.specs.Trace.{Runs, here, quiet, letter, After, Word, Outputs, Prefix, ErrorTrace, Trace, Illegal}
use Rattle.semantics.specs.Deciding.{only, moved, reach, next, walk, after, local, illegal, fails, misses, is_word, is_trace, errs, is_error_trace}
use Rattle.semantics.specs.Theorems.{SetsAreExact, ReachKeepsItsRules, WordsAreDecided}
use Rattle.semantics.proofs.Search.{same_test, any_view, any_make}
use Rattle.semantics.proofs.Ways.{present_view, present_make, output_present, present_nonzero}
use Rattle.semantics.proofs.Words.{prefix_cons, prefix_refl}
use Rattle.semantics.proofs.Runs.{runs_append, runs_letter, runs_in, runs_from, runs_word}
use Rattle.semantics.proofs.Errors.{Cause, cause, error_trace}
use Rattle.semantics.proofs.Closure.{meets_view, meets_make, Steps, stay, go_on, Inside, closure_view, closure_on, closure_has}

pub only_view : (p q : ℕ) → only p q ≡ true → p ≡ q
unfolding only
only_view p q h = eqb-true p q h

pub only_make : (p : ℕ) → only p p ≡ true
unfolding only
only_make p = eq-eqb p p refl

-- internal steps do not lead out of the set
abbrev pub Stays : System → (ℕ → Bool) → Type 0
Stays e X = (p q : ℕ) → X p ≡ true → e.step p 0 q ≡ true → X q ≡ true

pub stays_run : {e : System} (X : ℕ → Bool) → Stays e X → {p q : ℕ} → X p ≡ true → Runs e p [] q → X q ≡ true
stays_run X f x here = x
stays_run X f x (quiet {p = p} {q = q} s t) = stays_run X f (f p q x s) t

module _ {e : System} (wf : WellFormed e) where
  -- ---- reach

  quiet_inside : Inside (λ p q. e.step p 0 q) e.states
  quiet_inside p q s = (wf.from_in p 0 q s, wf.to_in p 0 q s)

  steps_runs : {p q : ℕ} → Steps (λ p q. e.step p 0 q) p q → Runs e p [] q
  steps_runs stay = here
  steps_runs (go_on s t) = quiet s (steps_runs t)

  runs_steps : {p q : ℕ} → Runs e p [] q → Steps (λ p q. e.step p 0 q) p q
  runs_steps here = stay
  runs_steps (quiet s t) = go_on s (runs_steps t)

  pub reach_view : (X : ℕ → Bool) (q : ℕ) → reach e X q ≡ true → (p : ℕ) × (X p ≡ true) × Runs e p [] q
  unfolding reach
  reach_view X q h = let (p, x, t) = closure_view (λ p q. e.step p 0 q) e.states X q h in (p, x, steps_runs t)

  pub reach_make : (X : ℕ → Bool) {p q : ℕ} → X p ≡ true → Runs e p [] q → reach e X q ≡ true
  unfolding reach
  reach_make X {p} x t =
      closure_on (λ p q. e.step p 0 q) e.states quiet_inside X (closure_has (λ p q. e.step p 0 q) e.states X p x) (runs_steps t)

  pub reach_stays : (X : ℕ → Bool) → Stays e (reach e X)
  reach_stays X p q h s = let (k, x, t) = reach_view X p h in reach_make X x (runs_append t (quiet s here))

  -- ---- one letter

  pub moved_view : (X : ℕ → Bool) (a q : ℕ) → moved e X a q ≡ true → (p : ℕ) × (X p ≡ true) × (e.step p a q ≡ true)
  unfolding moved
  moved_view X a q h = let (p, i, x, s) = meets_view e.states X (λ p. e.step p a q) h in (p, x, s)

  pub moved_make : (X : ℕ → Bool) {a p q : ℕ} → X p ≡ true → e.step p a q ≡ true → moved e X a q ≡ true
  unfolding moved
  moved_make X {a} {p} {q} x s = meets_make e.states X (λ p. e.step p a q) (wf.from_in p a q s) x s

  pub next_view : (X : ℕ → Bool) (a q : ℕ) → a ≢ 0 → next e X a q ≡ true → (p : ℕ) × (X p ≡ true) × Runs e p (a ∷ []) q
  unfolding next
  next_view X a q n h =
      let (m, y, t) = reach_view (moved e X a) q h in
      let (p, x, s) = moved_view X a m y in
      (p, x, letter a n s t)

  pub next_make : (X : ℕ → Bool) → Stays e X → {a p q : ℕ} → X p ≡ true → Runs e p (a ∷ []) q → next e X a q ≡ true
  unfolding next
  next_make X f {a} x t =
      let (k, m, r, n, s, u) = runs_letter t in
      reach_make (moved e X a) (moved_make X (stays_run X f x r) s) u

  pub next_stays : (X : ℕ → Bool) (a : ℕ) → Stays e (next e X a)
  unfolding next
  next_stays X a = reach_stays (moved e X a)

  -- the first letter of a run
  pub next_enters : (X : ℕ → Bool) → Stays e X → {a p q : ℕ} {u : List ℕ} → X p ≡ true → Runs e p (a ∷ u) q
      → (m : ℕ) × (next e X a m ≡ true) × Runs e m u q
  next_enters X f {a} x t =
      let (k, m, r, n, s, v) = runs_letter t in
      (m, next_make X f x (runs_append r (letter a n s here)), v)

  -- ---- illegal states

  in_actions : (a : ℕ) → e.way a ≢ Absent → a < suc e.actions
  in_actions a h = let k = wf.ways_in a h in omega arith

  local_view : (p q : ℕ) → local e p q ≡ true → (e.step p 0 q ≡ true) ⊎ ((a : ℕ) × (e.way a ≡ Output) × (e.step p a q ≡ true))
  unfolding local
  local_view p q h =
      elim (or_cases (e.step p 0 q) (any (λ a. is_output (e.way a) && e.step p a q) (suc e.actions)) h) [
        | inl s ↦ inl s
        | inr m ↦
            let (a, i, k) = any_view (λ a. is_output (e.way a) && e.step p a q) (suc e.actions) m in
            let (o, s) : (e.way a ≡ Output) × (e.step p a q ≡ true) = grind arith in
            inr (a, o, s)
      ]

  local_quiet : (p q : ℕ) → e.step p 0 q ≡ true → local e p q ≡ true
  unfolding local
  local_quiet p q s = or_left _ _ s

  local_output : (p a q : ℕ) → e.way a ≡ Output → e.step p a q ≡ true → local e p q ≡ true
  unfolding local
  local_output p a q o s =
      or_right (e.step p 0 q) _ (any_make (λ a. is_output (e.way a) && e.step p a q) (suc e.actions) a (in_actions a (output_present o)) (rw (o, s)))

  local_inside : Inside (λ q p. local e p q) e.states
  local_inside q p h =
      elim (local_view p q h) [
        | inl s ↦ (wf.to_in p 0 q s, wf.from_in p 0 q s)
        | inr (a, o, s) ↦ (wf.to_in p a q s, wf.from_in p a q s)
      ]

  illegal_local : (p q : ℕ) → local e p q ≡ true → Illegal e q → Illegal e p
  illegal_local p q h (o, r, t, outs, bad) =
      elim (local_view p q h) [
        | inl s ↦ (o, r, quiet s t, outs, bad)
        | inr (a, w, s) ↦ (a ∷ o, r, letter a (present_nonzero wf (output_present w)) s t, (w, outs), bad)
      ]

  illegal_steps : {q p : ℕ} → Steps (λ q p. local e p q) q p → Illegal e q → Illegal e p
  illegal_steps stay h = h
  illegal_steps (go_on {p = p} {q = q} s t) h = illegal_steps t (illegal_local q p s h)

  pub illegal_view : (p : ℕ) → illegal e p ≡ true → Illegal e p
  unfolding illegal
  illegal_view p h =
      let (q, bad, t) = closure_view (λ q p. local e p q) e.states e.error p h in
      illegal_steps t ([], q, here, tt, bad)

  illegal_test_before : (p q : ℕ) → local e p q ≡ true → illegal e q ≡ true → illegal e p ≡ true
  unfolding illegal
  illegal_test_before p q s h = closure_on (λ q p. local e p q) e.states local_inside e.error h (go_on s stay)

  illegal_here : (p : ℕ) → e.error p ≡ true → illegal e p ≡ true
  unfolding illegal
  illegal_here p bad = closure_has (λ q p. local e p q) e.states e.error p bad

  illegal_run : {p q : ℕ} {o : List ℕ} → Runs e p o q → Outputs e o → e.error q ≡ true → illegal e p ≡ true
  illegal_run {p} here outs bad = illegal_here p bad
  illegal_run (quiet {p = p} {q = q} s t) outs bad = illegal_test_before p q (local_quiet p q s) (illegal_run t outs bad)
  illegal_run (letter {p = p} {q = q} a n s t) outs bad = illegal_test_before p q (local_output p a q outs.0 s) (illegal_run t outs.1 bad)

  pub illegal_make : (p : ℕ) → Illegal e p → illegal e p ≡ true
  illegal_make p (o, q, t, outs, bad) = illegal_run t outs bad

  illegal_in : (p : ℕ) → Illegal e p → p < e.states
  illegal_in p (o, q, t, outs, bad) = runs_from wf (wf.errors_in q bad) t

  -- ---- tests on sets

  pub fails_view : (X : ℕ → Bool) → fails e X ≡ true → (q : ℕ) × (X q ≡ true) × Illegal e q
  unfolding fails
  fails_view X h = let (q, i, x, y) = meets_view e.states X (illegal e) h in (q, x, illegal_view q y)

  pub fails_make : (X : ℕ → Bool) {q : ℕ} → X q ≡ true → Illegal e q → fails e X ≡ true
  unfolding fails
  fails_make X {q} x h = meets_make e.states X (illegal e) (illegal_in q h) x (illegal_make q h)

  pub misses_view : (X : ℕ → Bool) (a : ℕ) → misses e X a ≡ true → (q : ℕ) × (X q ≡ true) × (accepts e q a ≡ false)
  unfolding misses
  misses_view X a h =
      let (q, i, x, k) = meets_view e.states X (λ q. not (accepts e q a)) h in
      (q, x, not-true (accepts e q a) k)

  pub misses_make : (X : ℕ → Bool) (a : ℕ) {q : ℕ} → q < e.states → X q ≡ true → accepts e q a ≡ false → misses e X a ≡ true
  unfolding misses
  misses_make X a {q} i x k = meets_make e.states X (λ q. not (accepts e q a)) i x (not_from_false (accepts e q a) k)

  -- ---- along a word

  pub walk_view : (X : ℕ → Bool) (w : List ℕ) (q : ℕ) → Word e w → walk e X w q ≡ true → (p : ℕ) × (X p ≡ true) × Runs e p w q
  unfolding walk
  walk_view X [] q h x = (q, x, here)
  walk_view X (a ∷ w) q h k =
      let (m, y, t) = walk_view (next e X a) w q h.1 k in
      let (p, x, r) = next_view X a m (present_nonzero wf h.0) y in
      (p, x, runs_append r t)

  pub walk_make : (X : ℕ → Bool) (w : List ℕ) → Stays e X → {p q : ℕ} → X p ≡ true → Runs e p w q → walk e X w q ≡ true
  unfolding walk
  walk_make X [] f x t = stays_run X f x t
  walk_make X (a ∷ w) f x t =
      let (m, y, u) = next_enters X f x t in
      walk_make (next e X a) w (next_stays X a) y u

  -- some prefix of the word leads from X to an illegal state
  abbrev IllegalFrom : (ℕ → Bool) → List ℕ → Type 0
  IllegalFrom X w = (u : List ℕ) × (p : ℕ) × (q : ℕ) × Prefix u w × (X p ≡ true) × Runs e p u q × Illegal e q

  -- some prefix of the word leads from X to a state that does not accept the input behind it
  abbrev MissesFrom : (ℕ → Bool) → List ℕ → Type 0
  MissesFrom X w =
      (u : List ℕ) × (a : ℕ) × (p : ℕ) × (q : ℕ) × Prefix (u ++ (a ∷ [])) w × (e.way a ≡ Input) × (X p ≡ true) × Runs e p u q × (accepts e q a ≡ false)

  later : (X : ℕ → Bool) (a : ℕ) (w : List ℕ) → a ≢ 0 → IllegalFrom (next e X a) w ⊎ MissesFrom (next e X a) w → IllegalFrom X (a ∷ w) ⊎ MissesFrom X (a ∷ w)
  later X a w n (inl (u, m, q, pre, y, t, i)) =
      let (p, x, r) = next_view X a m n y in
      inl (a ∷ u, p, q, prefix_cons a u w pre, x, runs_append r t, i)
  later X a w n (inr (u, b, m, q, pre, k, y, t, i)) =
      let (p, x, r) = next_view X a m n y in
      inr (a ∷ u, b, p, q, prefix_cons a (u ++ (b ∷ [])) w pre, k, x, runs_append r t, i)

  errs_view : (X : ℕ → Bool) (w : List ℕ) → Word e w → errs e X w ≡ true → IllegalFrom X w ⊎ MissesFrom X w
  unfolding errs
  errs_view X [] h k = let (q, x, i) = fails_view X k in inl ([], q, q, prefix_refl [], x, here, i)
  errs_view X (a ∷ w) h k = go (parts k) (errs_view (next e X a) w h.1)
    where
      parts : (fails e X || ((is_input (e.way a) && misses e X a) || errs e (next e X a) w)) ≡ true
          → (fails e X ≡ true) ⊎ (((e.way a ≡ Input) × (misses e X a ≡ true)) ⊎ (errs e (next e X a) w ≡ true))
      parts k = grind arith

      go : (fails e X ≡ true) ⊎ (((e.way a ≡ Input) × (misses e X a ≡ true)) ⊎ (errs e (next e X a) w ≡ true))
          → (errs e (next e X a) w ≡ true → IllegalFrom (next e X a) w ⊎ MissesFrom (next e X a) w) → IllegalFrom X (a ∷ w) ⊎ MissesFrom X (a ∷ w)
      go (inl f) rec = let (q, x, i) = fails_view X f in inl ([], q, q, (a ∷ w, refl), x, here, i)
      go (inr (inl (j, m))) rec = let (q, x, i) = misses_view X a m in inr ([], a, q, q, (w, refl), j, x, here, i)
      go (inr (inr f)) rec = later X a w (present_nonzero wf h.0) (rec f)

  errs_here : (X : ℕ → Bool) (w : List ℕ) → fails e X ≡ true → errs e X w ≡ true
  unfolding errs
  errs_here X [] f = f
  errs_here X (a ∷ w) f = rw f

  errs_later : (X : ℕ → Bool) (a : ℕ) (w : List ℕ) → errs e (next e X a) w ≡ true → errs e X (a ∷ w) ≡ true
  unfolding errs
  errs_later X a w h = grind arith

  errs_misses : (X : ℕ → Bool) (a : ℕ) (w : List ℕ) → e.way a ≡ Input → misses e X a ≡ true → errs e X (a ∷ w) ≡ true
  unfolding errs
  errs_misses X a w k h = grind arith

  errs_illegal : (X : ℕ → Bool) (w u : List ℕ) → Stays e X → {p q : ℕ} → Prefix u w → X p ≡ true → Runs e p u q → Illegal e q → errs e X w ≡ true
  errs_illegal X w [] f pre x t i = errs_here X w (fails_make X (stays_run X f x t) i)
  errs_illegal X [] (b ∷ u) f (v, k) x t i = cc
  errs_illegal X (a ∷ w) (b ∷ u) f {p} {q} (v, k) x t i =
      let same : b ≡ a = cc in
      let (m, y, s) = next_enters X f x (rw same at t) in
      errs_later X a w (errs_illegal (next e X a) w u (next_stays X a) (v, cc) y s i)

  errs_missed : (X : ℕ → Bool) (w u : List ℕ) (a : ℕ) → Stays e X → {p q : ℕ} → Prefix (u ++ (a ∷ [])) w → e.way a ≡ Input → q < e.states → X p ≡ true → Runs e p u q
      → accepts e q a ≡ false → errs e X w ≡ true
  errs_missed X [] [] a f (v, k) j i x t n = cc
  errs_missed X [] (b ∷ u) a f (v, k) j i x t n = cc
  errs_missed X (c ∷ w) [] a f {q = q} (v, k) j i x t n =
      let same : a ≡ c = cc in
      errs_misses X c w (rw same at j) (misses_make X c i (stays_run X f x t) (rw same at n))
  errs_missed X (c ∷ w) (b ∷ u) a f {p} {q} (v, k) j i x t n =
      let same : b ≡ c = cc in
      let (m, y, s) = next_enters X f x (rw same at t) in
      errs_later X c w (errs_missed (next e X c) w u a (next_stays X c) (v, cc) j i y s n)

-- ---- words

pub word_view : (e : System) (w : List ℕ) → is_word e w ≡ true → Word e w
unfolding is_word
word_view e [] h = tt
word_view e (a ∷ w) h = grind (arith, present_view (e.way a), word_view e w)

pub word_make : (e : System) (w : List ℕ) → Word e w → is_word e w ≡ true
unfolding is_word
word_make e [] h = refl
word_make e (a ∷ w) h = rw (present_make (e.way a) h.0, word_make e w h.1)

-- ---- from the start

module _ (e : System) (wf : WellFormed e) where
  -- the states that e can be in at first
  opening : ℕ → Bool
  opening = reach e (only e.start)

  opening_view : {p : ℕ} → opening p ≡ true → Runs e e.start [] p
  unfolding opening
  opening_view {p} h =
      let (k, x, t) = reach_view wf (only e.start) p h in
      rw (← only_view e.start k x) at t

  opening_has : opening e.start ≡ true
  unfolding opening
  opening_has = reach_make wf (only e.start) (only_make e.start) here

  opening_stays : Stays e opening
  unfolding opening
  opening_stays = reach_stays wf (only e.start)

  pub after_view : (w : List ℕ) (q : ℕ) → Word e w → after e w q ≡ true → After e w q
  unfolding after opening
  after_view w q k h = let (p, x, t) = walk_view wf opening w q k h in runs_append (opening_view x) t

  pub after_make : (w : List ℕ) {q : ℕ} → After e w q → after e w q ≡ true
  unfolding after opening
  after_make w t = walk_make wf opening w opening_stays opening_has t

  trace_make : (w : List ℕ) → Trace e w → is_trace e w ≡ true
  unfolding is_trace
  trace_make w (q, t) =
      and_from (is_word e w) _ (word_make e w (runs_word wf t)) (any_make (after e w) e.states q (runs_in wf wf.start_in t) (after_make w t))

  trace_view : (w : List ℕ) → is_trace e w ≡ true → Trace e w
  unfolding is_trace
  trace_view w h =
      let (k, l) = and_parts (is_word e w) (any (after e w) e.states) h in
      let (q, i, y) = any_view (after e w) e.states l in
      (q, after_view w q (word_view e w k) y)

  errs_make : (w : List ℕ) → Cause e w → errs e opening w ≡ true
  errs_make w (inl (u, p, pre, t, i)) = errs_illegal wf opening w u opening_stays pre opening_has t i
  errs_make w (inr (u, a, pre, j, (p, t, n))) = errs_missed wf opening w u a opening_stays pre j (runs_in wf wf.start_in t) opening_has t n

  errs_cause : (w : List ℕ) → Word e w → errs e opening w ≡ true → Cause e w
  errs_cause w k h = go (errs_view wf opening w k h)
    where
      go : IllegalFrom wf opening w ⊎ MissesFrom wf opening w → Cause e w
      go (inl (u, p, q, pre, x, t, i)) = inl (u, q, pre, runs_append (opening_view x) t, i)
      go (inr (u, a, p, q, pre, j, x, t, n)) = inr (u, a, pre, j, (q, runs_append (opening_view x) t, n))

  error_make : (w : List ℕ) → ErrorTrace e w → is_error_trace e w ≡ true
  unfolding is_error_trace opening
  error_make w h = and_from (is_word e w) _ (word_make e w h.0) (errs_make w (cause e w h))

  error_view : (w : List ℕ) → is_error_trace e w ≡ true → ErrorTrace e w
  unfolding is_error_trace opening
  error_view w h =
      let (k, l) = and_parts (is_word e w) (errs e opening w) h in
      error_trace e w (word_view e w k) (errs_cause w (word_view e w k) l)

-- ---- the theorems

pub sets_are_exact_lem : SetsAreExact
sets_are_exact_lem e wf = (
  (λ X q. (reach_view wf X q, λ (p, x, t). reach_make wf X x t)),
  (λ w q k. (after_view e wf w q k, after_make e wf w)),
  (λ p. (illegal_view wf p, illegal_make wf p)),
)

pub reach_keeps_its_rules_lem : ReachKeepsItsRules
reach_keeps_its_rules_lem e wf X =
    ((λ f q. same_test (reach e X q) (X q) (stops f q) (λ x. reach_make wf X x here)), (λ q. same_test (reach e X q) (reach e more q) (there q) (back q)))
  where
    more : ℕ → Bool
    more p = X p || moved e X 0 p

    stops : Stays e X → (q : ℕ) → reach e X q ≡ true → X q ≡ true
    stops f q h = let (p, x, t) = reach_view wf X q h in stays_run X f x t

    there : (q : ℕ) → reach e X q ≡ true → reach e more q ≡ true
    there q h = let (p, x, t) = reach_view wf X q h in reach_make wf more (or_left (X p) (moved e X 0 p) x) t

    back : (q : ℕ) → reach e more q ≡ true → reach e X q ≡ true
    back q h =
        let (p, x, t) = reach_view wf more q h in
        elim (or_cases (X p) (moved e X 0 p) x) [
          | inl y ↦ reach_make wf X y t
          | inr y ↦ let (k, z, s) = moved_view wf X 0 p y in reach_make wf X z (quiet s t)
        ]

pub words_are_decided_lem : WordsAreDecided
words_are_decided_lem e wf w = ((trace_view e wf w, trace_make e wf w), (error_view e wf w, error_make e wf w))
