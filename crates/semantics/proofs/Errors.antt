-- Error traces by illegal states, and without outputs at their end.
use Rattle.std.proofs.Common.{◌≡◌, ℕ, false, ◌⊎◌, List, [], ◌∷◌, ◌++◌, ◌∙◌, inl, inr, append-nil}
use Rattle.semantics.specs.declared.way.Way.TheVariants.{Absent, Input, Output}
use Rattle.semantics.specs.System.{System, accepts}
use Rattle.semantics.specs.Trace.{Runs, here, After, Word, Outputs, Prefix, prune, StrictError, PrunedError, MissedInput, ErrorTrace, Illegal}
use Rattle.semantics.specs.Theorems.{ErrorTracesByIllegalStates, ErrorTracesLoseOutputs, ErrorTracesGainLetters}
use Rattle.semantics.proofs.Words.{all_append, all_front, all_prefix, prefix_refl, prefix_append, prefix_trans, prefix_split, last_output, prune_split, prune_prefix}
use Rattle.semantics.proofs.Runs.{runs_append, runs_split}

-- after some prefix the system can run into an error by itself
abbrev pub Runaway : System → List ℕ → Type 0
Runaway e w = (u : List ℕ) × (p : ℕ) × Prefix u w × After e u p × Illegal e p

-- what makes a word an error trace
abbrev pub Cause : System → List ℕ → Type 0
Cause e w = Runaway e w ⊎ MissedInput e w

runaway : (e : System) (w : List ℕ) → PrunedError e w → Runaway e w
runaway e w (v, (q, run, bad), pre) =
    let (o, k, outs) = prune_split e v in
    let (p, t, s) = runs_split (prune e v) o (rw k run) in
    (prune e v, p, pre, t, (o, q, s, outs, bad))

pruned_error : (e : System) (w : List ℕ) → Runaway e w → PrunedError e w
pruned_error e w (u, p, pre, t, (o, q, s, outs, bad)) =
    (u ++ o, (q, runs_append t s, bad), prefix_trans (prune e (u ++ o)) u w (prune_prefix e u o outs) pre)

pub cause : (e : System) (w : List ℕ) → ErrorTrace e w → Cause e w
cause e w (h, inl f) = inl (runaway e w f)
cause e w (h, inr m) = inr m

pub error_trace : (e : System) (w : List ℕ) → Word e w → Cause e w → ErrorTrace e w
error_trace e w h (inl r) = (h, inl (pruned_error e w r))
error_trace e w h (inr m) = (h, inr m)

-- an error right behind the word
pub cause_error : (e : System) (w : List ℕ) → StrictError e w → Cause e w
cause_error e w (q, t, bad) = inl (w, q, prefix_refl w, t, ([], q, here, tt, bad))

-- a missed input right behind the word
pub cause_missed : (e : System) (w : List ℕ) (x p : ℕ) → e.way x ≡ Input → After e w p → accepts e p x ≡ false → Cause e (w ++ (x ∷ []))
cause_missed e w x p is t k = inr (w, x, prefix_refl (w ++ (x ∷ [])), is, (p, t, k))

-- letters at the end make no difference
pub cause_longer : (e : System) (u w : List ℕ) → Prefix u w → Cause e u → Cause e w
cause_longer e u w pre (inl (s, p, h, t, i)) = inl (s, p, prefix_trans s u w h pre, t, i)
cause_longer e u w pre (inr (s, x, h, is, at)) = inr (s, x, prefix_trans (s ++ (x ∷ [])) u w h pre, is, at)

-- outputs before a way into an error are a part of it
illegal_before : {e : System} {p q : ℕ} {o : List ℕ} → Runs e p o q → Outputs e o → Illegal e q → Illegal e p
illegal_before {e} {o = o} t outs (o', r, s, outs', bad) =
    (o ++ o', r, runs_append t s, all_append (λ x. e.way x ≡ Output) o o' outs outs', bad)

-- and neither do outputs there
pub cause_shorter : (e : System) (w o : List ℕ) → Outputs e o → Cause e (w ++ o) → Cause e w
cause_shorter e w o outs (inl (u, p, pre, t, i)) = go (prefix_split u w o pre)
  where
    go : Prefix u w ⊎ ((o₁ : List ℕ) × (u ≡ w ++ o₁) × Prefix o₁ o) → Cause e w
    go (inl h) = inl (u, p, h, t, i)
    go (inr (o₁, q, h)) =
        let (m, t₁, t₂) = runs_split w o₁ (rw q at t) in
        inl (w, m, prefix_refl w, t₁, illegal_before t₂ (all_prefix (λ x. e.way x ≡ Output) o₁ o h outs) i)
cause_shorter e w o outs (inr (s, y, pre, is, at)) = go (prefix_split (s ++ (y ∷ [])) w o pre)
  where
    go : Prefix (s ++ (y ∷ [])) w ⊎ ((o₁ : List ℕ) × (s ++ (y ∷ []) ≡ w ++ o₁) × Prefix o₁ o) → Cause e w
    go (inl h) = inr (s, y, h, is, at)
    go (inr ([], q, h)) = inr (s, y, ([], append-nil (s ++ (y ∷ [])) ∙ q ∙ append-nil w), is, at)
    go (inr (z ∷ o₁, q, h)) =
        cc (last_output e w o₁ y z s q (all_prefix (λ x. e.way x ≡ Output) (z ∷ o₁) o h outs))

-- ---- the theorems

pub error_traces_by_illegal_states_lem : ErrorTracesByIllegalStates
error_traces_by_illegal_states_lem e w = (λ h. (h.0, cause e w h), λ (h, k). error_trace e w h k)

pub error_traces_lose_outputs_lem : ErrorTracesLoseOutputs
error_traces_lose_outputs_lem e w = (shorter w, pruned)
  where
    shorter : (u o : List ℕ) → Outputs e o → ErrorTrace e (u ++ o) → ErrorTrace e u
    shorter u o outs h = error_trace e u (all_front (λ x. e.way x ≡ Absent → ⊥) u o h.0) (cause_shorter e u o outs (cause e (u ++ o) h))

    pruned : ErrorTrace e w → ErrorTrace e (prune e w)
    pruned h = let (o, q, outs) = prune_split e w in shorter (prune e w) o outs (rw q h)

pub error_traces_gain_letters_lem : ErrorTracesGainLetters
error_traces_gain_letters_lem e w v k h =
    error_trace e (w ++ v) (all_append (λ x. e.way x ≡ Absent → ⊥) w v h.0 k) (cause_longer e w (w ++ v) (prefix_append w v) (cause e w h))
