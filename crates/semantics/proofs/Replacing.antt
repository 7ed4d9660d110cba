-- What may replace a system may replace it in a pair.
use Rattle.std.proofs.Common.{◌≡◌, ℕ, ◌<◌, false, ◌⊎◌, List, [], ◌∷◌, ◌++◌, sym, ◌∙◌, subst₂, inl, inr, append-nil, arith}
use mathlib.Core.Path.{fun_ext}
use Rattle.semantics.specs.declared.way.Way.{Way}
use Rattle.semantics.specs.declared.way.Way.TheVariants.{Absent, Input, Output}
use Rattle.semantics.specs.System.{System, WellFormed, accepts}
use Rattle.semantics.specs.Trace.{here, letter, After, Word, ErrorTrace, Trace, Flooded}
use Rattle.semantics.specs.Replacement.{MayReplace}
use Rattle.semantics.specs.Coupling.{Synced, Composable, CoupledError, first_fails, second_fails, second_misses, first_misses}
use Rattle.semantics.specs.Theorems.{CouplingPreservesReplacement, ReplacementChains}
use Rattle.semantics.proofs.Ways.{present_nonzero, input_present, output_present}
use Rattle.semantics.proofs.Words.{all_append, prefix_append, word_like, outputs_like}
use Rattle.semantics.proofs.Runs.{runs_append, runs_split, runs_letter, runs_in, runs_word}
use Rattle.semantics.proofs.Errors.{Cause, cause, error_trace, cause_error, cause_missed, cause_longer, cause_shorter}
use Rattle.semantics.proofs.Couplings.{coupling_is_well_formed_lem}
use Rattle.semantics.proofs.Pairs.{Implements, couple_implements, swapped}
use Rattle.semantics.proofs.Parts.{Part, done, theirs, shared, part-append, part_in, project, part_front, part_before, MeetsLetter, recompose, runs_away}

sent : {v w : Way} → Synced v w → v ≡ Input → w ≡ Output
sent h is = grind arith

-- ---- from b to the pair f of b and c

module _ {b c f : System} {enc : ℕ → ℕ → ℕ} {one two : ℕ → ℕ} (wfb : WellFormed b) (wfc : WellFormed c) (apart : Composable b c)
    (J : Implements f b c enc one two) where
  pub together : {u w : List ℕ} {p r : ℕ} → Part b.way c c.start u w r → After b u p → After f w (enc p r)
  together {u} {w} {p} {r} m t = rw J.start_is at (recompose wfb wfc J m wfb.start_in wfc.start_in t)

  pub after_in : {u : List ℕ} {p : ℕ} → After b u p → p < b.states
  after_in t = runs_in wfb wfb.start_in t

  pub part_end : {u w : List ℕ} {r : ℕ} → Part b.way c c.start u w r → r < c.states
  part_end m = part_in wfc wfc.start_in m

  -- what makes a word of b an error trace, with the part of c, makes that of the pair one
  pub carry : (u w : List ℕ) {r : ℕ} → Cause b u → Part b.way c c.start u w r → Cause f w
  carry u w (inl (v, p, pre, t, (o, p', s, outs, bad))) m =
      let (q, w', m', pre') = part_front v m pre in
      inl (w', enc p q, pre', together m' t, runs_away wfb wfc J apart s (after_in t) (part_end m') outs bad)
  carry u w (inr (v, x, pre, is, (p, t, misses))) m = let (q, w', m', k) = part_before v x m pre in met q w' m' k
    where
      met : (q : ℕ) (w' : List ℕ) → Part b.way c c.start v w' q → MeetsLetter b.way c q x w' w → Cause f w
      met q w' m' (inl (h, (q₂, s), pre')) =
          cause_longer f w' w pre'
          (cause_error f w' (enc p q, together m' t, J.error_make (after_in t) (part_end m') (first_misses x q₂ is (sent h is) s misses)))
      met q w' m' (inr (h, pre')) =
          inr (w', x, pre', J.way_is x ∙ (rw (is, h)), (enc p q, together m' t, J.left_misses (after_in t) (part_end m') is h misses))

-- ---- from the pair e of a and c to the pair f of b and c

module _ {a b c e f : System} {enc : ℕ → ℕ → ℕ} {one two : ℕ → ℕ} {enc' : ℕ → ℕ → ℕ} {one' two' : ℕ → ℕ}
    (wfa : WellFormed a) (wfb : WellFormed b) (wfc : WellFormed c) (wfe : WellFormed e)
    (apart : Composable b c) (I : Implements e a c enc one two) (J : Implements f b c enc' one' two') (R : MayReplace a b) where
  ways_same : (x : ℕ) → e.way x ≡ f.way x
  ways_same x = rw (I.way_is x, J.way_is x, R.ways x)

  -- a run of e, taken apart
  apart_run : {w : List ℕ} {z : ℕ} → After e w z → (u : List ℕ) × Part b.way c c.start u w (two z) × After a u (one z)
  apart_run {w} {z} t =
      let (u, m, s) = project wfa I t in
      (u, subst₂ (λ k q. Part k c q u w (two z)) (fun_ext R.ways) I.start_two m, rw I.start_one at s)

  trace_of : (u : List ℕ) {p : ℕ} → After a u p → Cause b u ⊎ Trace b u
  trace_of u {p} t = elim (R.floods u (inl (p, t))) [ inl s ↦ inr s | inr h ↦ inl (cause b u h) ]

  cause_of : (u : List ℕ) → Word a u → Cause a u → Cause b u
  cause_of u h k = cause b u (R.errors u (error_trace a u h k))

  missed_of : (u : List ℕ) (x : ℕ) {p : ℕ} → After a u p → a.way x ≡ Input → accepts a p x ≡ false → Cause b (u ++ (x ∷ []))
  missed_of u x {p} t is misses =
      cause_of (u ++ (x ∷ [])) (all_append (λ x. a.way x ≡ Absent → ⊥) u (x ∷ []) (runs_word wfa t) (input_present is, tt)) (cause_missed a u x p is t misses)

  -- an error of e right behind the word w
  at_error : (u w : List ℕ) {p q : ℕ} → Part b.way c c.start u w q → After a u p → CoupledError a c p q → Cause f w
  at_error u w {p} {q} m t (first_fails bad) = carry wfb wfc apart J u w (cause_of u (runs_word wfa t) (cause_error a u (p, t, bad))) m
  at_error u w {p} {q} m t (second_fails bad) = go (trace_of u t)
    where
      go : Cause b u ⊎ Trace b u → Cause f w
      go (inl k) = carry wfb wfc apart J u w k m
      go (inr (p', t')) =
          cause_error f w
          (enc' p' q, together wfb wfc apart J m t', J.error_make (after_in wfb wfc apart J t') (part_end wfb wfc apart J m) (second_fails bad))
  at_error u w {p} {q} m t (second_misses x p₁ is takes s misses) =
      go (trace_of (u ++ (x ∷ [])) (runs_append t (letter x (present_nonzero wfa (output_present is)) s here)))
    where
      is' : b.way x ≡ Output
      is' = sym (R.ways x) ∙ is

      go : Cause b (u ++ (x ∷ [])) ⊎ Trace b (u ++ (x ∷ [])) → Cause f w
      go (inl k) = carry wfb wfc apart J u w (cause_shorter b u (x ∷ []) (is', tt) k) m
      go (inr (p', t')) =
          let (p₂, t₂, t₃) = runs_split u (x ∷ []) t' in
          let (p₃, p₄, r, n, s', k) = runs_letter t₃ in
          let t₄ : After b u p₃ = rw append-nil at (runs_append t₂ r) in
          cause_error f w (
            enc' p₃ q,
            together wfb wfc apart J m t₄,
            J.error_make (after_in wfb wfc apart J t₄) (part_end wfb wfc apart J m) (second_misses x p₄ is' takes s' misses),
          )
  at_error u w {p} {q} m t (first_misses x q₁ takes is s misses) =
      rw append-nil at
      (carry wfb wfc apart J (u ++ (x ∷ [])) (w ++ []) (missed_of u x t takes misses) (part-append m (shared x (inr (sym (R.ways x) ∙ takes, is)) s done)))

  -- an input that e misses right behind the word w
  at_missed : (u w : List ℕ) (x : ℕ) {z : ℕ} → Part b.way c c.start u w (two z) → After a u (one z) → z < e.states → e.way x ≡ Input → accepts e z x ≡ false
      → Cause f (w ++ (x ∷ []))
  at_missed u w x {z} m t hz is misses = go (I.input_is x is)
    where
      right_side : a.way x ≡ Absent → c.way x ≡ Input → Cause b u ⊎ Trace b u → Cause f (w ++ (x ∷ []))
      right_side ha hc (inl k) = cause_longer f w (w ++ (x ∷ [])) (prefix_append w (x ∷ [])) (carry wfb wfc apart J u w k m)
      right_side ha hc (inr (p', t')) =
          cause_missed f w x (enc' p' (two z)) (sym (ways_same x) ∙ is) (together wfb wfc apart J m t')
          (J.right_misses (after_in wfb wfc apart J t') (part_end wfb wfc apart J m) (sym (R.ways x) ∙ ha) hc (I.misses_right hz ha hc misses))

      go : ((a.way x ≡ Input) × (c.way x ≡ Absent)) ⊎ ((a.way x ≡ Absent) × (c.way x ≡ Input)) → Cause f (w ++ (x ∷ []))
      go (inl (ha, hc)) =
          carry wfb wfc apart J (u ++ (x ∷ [])) (w ++ (x ∷ [])) (missed_of u x t ha (I.misses_left hz ha hc misses)) (part-append m (theirs x hc done))
      go (inr (ha, hc)) = right_side ha hc (trace_of u t)

  cause_kept : (w : List ℕ) → Cause e w → Cause f w
  cause_kept w (inl (v, z, pre, run, (o, z', run', outs, bad))) =
      let (u, m, t) = apart_run (runs_append run run') in
      cause_longer f v w pre (cause_shorter f v o (outputs_like e f ways_same o outs) (at_error u (v ++ o) m t (I.error_view bad)))
  cause_kept w (inr (v, x, pre, is, (z, run, misses))) =
      let (u, m, t) = apart_run run in
      cause_longer f (v ++ (x ∷ [])) w pre (at_missed u v x m t (runs_in wfe wfe.start_in run) is misses)

  errors_kept : (w : List ℕ) → ErrorTrace e w → ErrorTrace f w
  errors_kept w h = error_trace f w (word_like e f ways_same w h.0) (cause_kept w (cause e w h))

  floods_kept : (w : List ℕ) → Flooded e w → Flooded f w
  floods_kept w (inl (z, run)) = let (u, m, t) = apart_run run in go u m (trace_of u t)
    where
      go : (u : List ℕ) → Part b.way c c.start u w (two z) → Cause b u ⊎ Trace b u → Flooded f w
      go u m (inl k) = inr (error_trace f w (word_like e f ways_same w (runs_word wfe run)) (carry wfb wfc apart J u w k m))
      go u m (inr (p', t')) = inl (enc' p' (two z), together wfb wfc apart J m t')
  floods_kept w (inr h) = inr (errors_kept w h)

  replaced : MayReplace e f
  replaced = record { ways = ways_same; errors = errors_kept; floods = floods_kept }

-- ---- the theorems

pub composable_swap : {a c : System} → Composable a c → Composable c a
composable_swap h = record { inputs = λ x i j. h.inputs x j i; outputs = λ x i j. h.outputs x j i }

-- composability goes by ways
pub composable_like : {a b c : System} → MayReplace a b → Composable a c → Composable b c
composable_like R h = record { inputs = λ x i. h.inputs x (R.ways x ∙ i); outputs = λ x i. h.outputs x (R.ways x ∙ i) }

pub coupling_preserves_replacement_lem : CouplingPreservesReplacement
coupling_preserves_replacement_lem a b c wfa wfb wfc h R =
    let k = composable_like R h in (
      replaced wfa wfb wfc (coupling_is_well_formed_lem a c wfa wfc) k (couple_implements a c wfa wfc h) (couple_implements b c wfb wfc k) R,
      replaced wfa wfb wfc (coupling_is_well_formed_lem c a wfc wfa) k
          (swapped (couple_implements c a wfc wfa (composable_swap h))) (swapped (couple_implements c b wfc wfb (composable_swap k))) R,
    )

pub replacement_chains_lem : ReplacementChains
replacement_chains_lem a b c h k =
    record {
      ways = λ x. h.ways x ∙ k.ways x;
      errors = λ w t. k.errors w (h.errors w t);
      floods = λ w t. k.floods w (h.floods w t);
    }
