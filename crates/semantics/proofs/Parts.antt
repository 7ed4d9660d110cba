-- A run of a pair taken apart, into a run of one system and the part of the other in it, and put together again.
use Rattle.std.proofs.Common.{◌≡◌, ℕ, ◌<◌, true, false, ◌≢◌, ◌⊎◌, List, [], ◌∷◌, ◌++◌, refl, ap, ◌∙◌, subst, inl, inr, append_assoc, append-nil, arith}
use Rattle.std.proofs.lemmas.Bool.{cases_Bool}
use Rattle.semantics.specs.declared.way.Way.{Way}
use Rattle.semantics.specs.declared.way.Way.TheVariants.{Absent, Input, Output}
use Rattle.semantics.specs.System.{System, WellFormed, accepts}
use Rattle.semantics.specs.Trace.{Runs, here, quiet, letter, Outputs, Prefix, Illegal}
use Rattle.semantics.specs.Coupling.{Synced, Composable, first_fails, second_misses}
use Rattle.semantics.proofs.Search.{accepts_view}
use Rattle.semantics.proofs.Ways.{synced_present, present_nonzero}
use Rattle.semantics.proofs.Runs.{runs_append, runs_letter, runs_in}
use Rattle.semantics.proofs.Pairs.{PairStep, left, right, joint, Implements}

-- The part of c in a run of the pair: c goes from q to r, while the other, with the given ways, goes through the word u
-- and the pair through the word w.
pub data Part (ways : ℕ → Way) (c : System) : ℕ → List ℕ → List ℕ → ℕ → Type 0 where
  done : {q : ℕ} → Part ways c q [] [] q
  inner : {q q' r : ℕ} {u w : List ℕ} → c.step q 0 q' ≡ true → Part ways c q' u w r → Part ways c q u w r
  own : {q q' r : ℕ} {u w : List ℕ} (x : ℕ) → x ≢ 0 → ways x ≡ Absent → c.step q x q' ≡ true → Part ways c q' u w r → Part ways c q u (x ∷ w) r
  theirs : {q r : ℕ} {u w : List ℕ} (x : ℕ) → c.way x ≡ Absent → Part ways c q u w r → Part ways c q (x ∷ u) (x ∷ w) r
  shared : {q q' r : ℕ} {u w : List ℕ} (x : ℕ) → Synced (ways x) (c.way x) → c.step q x q' ≡ true → Part ways c q' u w r → Part ways c q (x ∷ u) w r

pub part-append : {ways : ℕ → Way} {c : System} {q r s : ℕ} {u w u' w' : List ℕ} → Part ways c q u w r → Part ways c r u' w' s
    → Part ways c q (u ++ u') (w ++ w') s
part-append done t = t
part-append (inner h r) t = inner h (part-append r t)
part-append (own x n a h r) t = own x n a h (part-append r t)
part-append (theirs x a r) t = theirs x a (part-append r t)
part-append (shared x a h r) t = shared x a h (part-append r t)

pub part_in : {ways : ℕ → Way} {c : System} → WellFormed c → {q r : ℕ} {u w : List ℕ} → q < c.states → Part ways c q u w r → r < c.states
part_in wf h done = h
part_in wf h (inner {q = q} {q' = q'} s m) = part_in wf (wf.to_in q 0 q' s) m
part_in wf h (own {q = q} {q' = q'} x n a s m) = part_in wf (wf.to_in q x q' s) m
part_in wf h (theirs x a m) = part_in wf h m
part_in wf h (shared {q = q} {q' = q'} x a s m) = part_in wf (wf.to_in q x q' s) m

-- ---- taken apart

module _ {a c : System} (wfa : WellFormed a) where
  quiet_on : {p q p₁ q₁ p' q' x : ℕ} {w : List ℕ} → x ≡ 0 → PairStep a c p q x p₁ q₁
      → (u : List ℕ) × Part a.way c q₁ u w q' × Runs a p₁ u p'
      → (u : List ℕ) × Part a.way c q u w q' × Runs a p u p'
  quiet_on {p} {q} {p₁} z (left x h s) (u, m, r) = (u, m, quiet (rw z at s) r)
  quiet_on {p} {q} {p₁} {q₁} z (right x h s) (u, m, r) = (u, inner (rw z at s) m, r)
  quiet_on z (joint x h s t) (u, m, r) = (x ∷ u, shared x h t m, letter x (present_nonzero wfa (synced_present h)) s r)

  letter_on : {p q p₁ q₁ p' q' x : ℕ} {w : List ℕ} → x ≢ 0 → PairStep a c p q x p₁ q₁
      → (u : List ℕ) × Part a.way c q₁ u w q' × Runs a p₁ u p'
      → (u : List ℕ) × Part a.way c q u (x ∷ w) q' × Runs a p u p'
  letter_on n (left x h s) (u, m, r) = (x ∷ u, theirs x h m, letter x n s r)
  letter_on n (right x h s) (u, m, r) = (u, own x n h s m, r)
  letter_on n (joint x h s t) (u, m, r) = absurd (n refl)

  pub project : {e : System} {enc : ℕ → ℕ → ℕ} {one two : ℕ → ℕ} → Implements e a c enc one two → {z z' : ℕ} {w : List ℕ} → Runs e z w z'
      → (u : List ℕ) × Part a.way c (two z) u w (two z') × Runs a (one z) u (one z')
  project I here = ([], done, here)
  project I (quiet s t) = quiet_on refl (I.step_view s) (project I t)
  project I (letter x n s t) = letter_on n (I.step_view s) (project I t)

-- the part up to a prefix of the other's word, and behind it
part_split : {ways : ℕ → Way} {c : System} {q r : ℕ} {u w : List ℕ} (v s : List ℕ) → Part ways c q u w r → v ++ s ≡ u
    → (q' : ℕ) × (w₁ : List ℕ) × (w₂ : List ℕ) × Part ways c q v w₁ q' × Part ways c q' s w₂ r × (w₁ ++ w₂ ≡ w)
part_split {q = q} [] s done e = (q, [], [], done, rw e done, refl)
part_split (x ∷ v) s done e = cc
part_split v s (inner k m) e = let (q', w₁, w₂, h, t, j) = part_split v s m e in (q', w₁, w₂, inner k h, t, j)
part_split v s (own y n a k m) e = let (q', w₁, w₂, h, t, j) = part_split v s m e in (q', y ∷ w₁, w₂, own y n a k h, t, ap (λ z. y ∷ z) j)
part_split {q = q} [] s (theirs {w = w} y a m) e = (q, [], y ∷ w, done, rw e (theirs y a m), refl)
part_split {q = q} [] s (shared {w = w} y a k m) e = (q, [], w, done, rw e (shared y a k m), refl)
part_split {ways} {c} {q} (x ∷ v) s (theirs y a m) e =
    let (q', w₁, w₂, h, t, j) = part_split v s m (cc) in
    let same : y ≡ x = cc in
    (q', y ∷ w₁, w₂, subst (λ k. Part ways c q (k ∷ v) (y ∷ w₁) q') same (theirs y a h), t, ap (λ z. y ∷ z) j)
part_split {ways} {c} {q} (x ∷ v) s (shared y a k m) e =
    let (q', w₁, w₂, h, t, j) = part_split v s m (cc) in
    let same : y ≡ x = cc in
    (q', w₁, w₂, subst (λ k. Part ways c q (k ∷ v) w₁ q') same (shared y a k h), t, j)

pub part_front : {ways : ℕ → Way} {c : System} {q r : ℕ} {u w : List ℕ} (v : List ℕ) → Part ways c q u w r → Prefix v u
    → (q' : ℕ) × (w' : List ℕ) × Part ways c q v w' q' × Prefix w' w
part_front v m (s, e) = let (q', w₁, w₂, h, t, j) = part_split v s m e in (q', w₁, h, (w₂, j))

-- how c meets the other's letter x: it takes part in it, or does not have it
abbrev pub MeetsLetter : (ways : ℕ → Way) (c : System) (q : ℕ) (x : ℕ) (w' w : List ℕ) → Type 0
MeetsLetter ways c q x w' w =
    (Synced (ways x) (c.way x) × ((q₂ : ℕ) × (c.step q x q₂ ≡ true)) × Prefix w' w) ⊎ ((c.way x ≡ Absent) × Prefix (w' ++ (x ∷ [])) w)

meets_letter_behind : (ways : ℕ → Way) (c : System) (q x : ℕ) (v w' u w : List ℕ) → v ++ u ≡ w → MeetsLetter ways c q x w' u → MeetsLetter ways c q x (v ++ w') w
meets_letter_behind ways c q x v w' u w j (inl (h, k, (z, e))) = inl (h, k, (z, grind (arith, append_assoc {A = ℕ})))
meets_letter_behind ways c q x v w' u w j (inr (h, (z, e))) = inr (h, (z, grind (arith, append_assoc {A = ℕ})))

-- what c does by itself before the other's first letter
part_letter : {ways : ℕ → Way} {c : System} {q r x : ℕ} {s w : List ℕ} → Part ways c q (x ∷ s) w r
    → (q' : ℕ) × (w' : List ℕ) × Part ways c q [] w' q' × MeetsLetter ways c q' x w' w
part_letter (inner k m) = let (q', w', h, t) = part_letter m in (q', w', inner k h, t)
part_letter {ways} {c} {x = x} (own {w = w} y n a k m) =
    let (q', w', h, t) = part_letter m in
    (q', y ∷ w', own y n a k h, meets_letter_behind ways c q' x (y ∷ []) w' w (y ∷ w) refl t)
part_letter {q = q} (theirs {w = w} x a m) = (q, [], done, inr (a, (w, refl)))
part_letter {q = q} (shared {q' = q₁} {w = w} x a k m) = (q, [], done, inl (a, (q₁, k), (w, refl)))

-- the part up to the letter x behind a prefix of the other's word
pub part_before : {ways : ℕ → Way} {c : System} {q r : ℕ} {u w : List ℕ} (v : List ℕ) (x : ℕ) → Part ways c q u w r → Prefix (v ++ (x ∷ [])) u
    → (q' : ℕ) × (w' : List ℕ) × Part ways c q v w' q' × MeetsLetter ways c q' x w' w
part_before {ways} {c} {w = w} v x m (s, e) =
    let (q₁, w₁, w₂, h, t, j) = part_split v (x ∷ s) m (rw append_assoc at e) in
    let (q₂, w₃, k, meets) = part_letter t in
    (q₂, w₁ ++ w₃, rw append-nil at (part-append h k), meets_letter_behind ways c q₂ x w₁ w₃ w₂ w j meets)

-- ---- put together

module _ {b c f : System} {enc : ℕ → ℕ → ℕ} {one two : ℕ → ℕ} (wfb : WellFormed b) (wfc : WellFormed c) (J : Implements f b c enc one two) where
  lift_quiet : {p p' q : ℕ} → p < b.states → q < c.states → Runs b p [] p' → Runs f (enc p q) [] (enc p' q)
  lift_quiet hp hq here = here
  lift_quiet hp hq (quiet {p = p} {q = p₁} s t) = quiet (J.step_make hp hq (left 0 wfc.internal s)) (lift_quiet (wfb.to_in p 0 p₁ s) hq t)

  pub recompose : {q r : ℕ} {u w : List ℕ} → Part b.way c q u w r → {p p' : ℕ} → p < b.states → q < c.states → Runs b p u p' → Runs f (enc p q) w (enc p' r)
  recompose done hp hq t = lift_quiet hp hq t
  recompose {q} (inner {q' = q₁} s m) hp hq t = quiet (J.step_make hp hq (right 0 wfb.internal s)) (recompose m hp (wfc.to_in q 0 q₁ s) t)
  recompose {q} (own {q' = q₁} x n h s m) hp hq t = letter x n (J.step_make hp hq (right x h s)) (recompose m hp (wfc.to_in q x q₁ s) t)
  recompose (theirs x h m) hp hq t =
      let (p₁, p₂, r, n, s, t') = runs_letter t in
      runs_append (lift_quiet hp hq r) (letter x n (J.step_make (runs_in wfb hp r) hq (left x h s)) (recompose m (wfb.to_in p₁ x p₂ s) hq t'))
  recompose {q} (shared {q' = q₁} x h k m) hp hq t =
      let (p₁, p₂, r, n, s, t') = runs_letter t in
      runs_append (lift_quiet hp hq r) (quiet (J.step_make (runs_in wfb hp r) hq (joint x h s k)) (recompose m (wfb.to_in p₁ x p₂ s) (wfc.to_in q x q₁ k) t'))

  -- Where outputs lead b to an error, outputs lead the pair to one, be it that c misses an output of b.
  pub runs_away : Composable b c → {p p' : ℕ} {o : List ℕ} → Runs b p o p' → {q : ℕ} → p < b.states → q < c.states → Outputs b o → b.error p' ≡ true
      → Illegal f (enc p q)
  runs_away apart {p} here {q} hp hq h bad = ([], enc p q, here, tt, J.error_make hp hq (first_fails bad))
  runs_away apart (quiet {p = p} {q = p₁} s t) hp hq h bad =
      let (o, z, r, k, e) = runs_away apart t (wfb.to_in p 0 p₁ s) hq h bad in
      (o, z, quiet (J.step_make hp hq (left 0 wfc.internal s)) r, k, e)
  runs_away apart {p} (letter {q = p₁} x n s t) {q} hp hq h bad = go (c.way x) refl (λ q₂ hq'. runs_away apart t {q = q₂} (wfb.to_in p x p₁ s) hq' h.1 bad)
    where
      met : ((q : ℕ) → q < c.states → Illegal f (enc p₁ q)) → c.way x ≡ Input → (accepts c q x ≡ true) ⊎ (accepts c q x ≡ false) → Illegal f (enc p q)
      met rec k (inl takes) =
          let (q₁, v) = accepts_view c q x takes in
          let (o, z, r, l, e) = rec q₁ (wfc.to_in q x q₁ v) in
          (o, z, quiet (J.step_make hp hq (joint x (inl (h.0, k)) s v)) r, l, e)
      met rec k (inr misses) = ([], enc p q, here, tt, J.error_make hp hq (second_misses x p₁ h.0 k s misses))

      go : (k : Way) → c.way x ≡ k → ((q : ℕ) → q < c.states → Illegal f (enc p₁ q)) → Illegal f (enc p q)
      go Absent k rec =
          let (o, z, r, l, e) = rec q hq in
          (x ∷ o, z, letter x n (J.step_make hp hq (left x k s)) r, (J.way_is x ∙ (rw (h.0, k)), l), e)
      go Input k rec = met rec k (cases_Bool (accepts c q x))
      go Output k rec = absurd (apart.outputs x h.0 k)
