-- The worked examples: what holds of them is shown by runs, and what does not by deciding it.
use Rattle.std.proofs.Common.{◌≡◌, ℕ, ◌<◌, ◌≤◌, max, Bool, true, false, ◌&&◌, ◌||◌, eqb, ltb, ◌≢◌, ◌⊎◌, List, [], ◌∷◌, sym, refl, ◌∙◌, inl, inr, arith}
use mathlib.Core.Bool.{false≢true}
use Rattle.std.proofs.lemmas.Bool.Decides.{nat_tests}
use Rattle.std.proofs.lemmas.Bool.{false_from_ne_true, both_ways}
use Rattle.semantics.specs.declared.way.Way.{Way}
use Rattle.semantics.specs.declared.way.Way.TheVariants.{Absent, Input}
use Rattle.semantics.specs.Way.{is_input, is_output}
use Rattle.semantics.specs.System.{System, WellFormed, any, has_step, accepts}
use Rattle.semantics.specs.Trace.{Runs, here, quiet, letter, After, StrictError, ErrorTrace, Flooded}
use Rattle.semantics.specs.Replacement.{MayReplace}
use Rattle.semantics.specs.Coupling.{couple, step_at, missed_at, error_at}
use Rattle.semantics.specs.Deciding.{only, meets, grown, grown_by, closure, moved, reach, next, walk, after, local, illegal, fails, misses, is_word, is_trace, errs, is_error_trace}
use Rattle.semantics.specs.Examples.{step_in, state_in, one_of_each, small, doomed, replying, silent, LateInputIsMissed, OutputIntoErrorCountsBeforeIt, SilentMayReplaceReplying, ReplyingMayNotReplaceSilent, RelayMissesASecondReply}
use Rattle.semantics.proofs.Search.{accepts_view, accepts_make}
use Rattle.semantics.proofs.Ways.{input≢absent, present_view}
use Rattle.semantics.proofs.Words.{word_like, outputs_like}
use Rattle.semantics.proofs.Errors.{Cause, cause, error_trace}
use Rattle.semantics.proofs.Closure.{meets_make}
use Rattle.semantics.proofs.Decided.{after_make, words_are_decided_lem}

-- ---- small systems are well formed, by a test

abbrev steps_fit : ℕ → (ℕ → Way) → List (ℕ × ℕ × ℕ) → Bool
steps_fit n way [] = true
steps_fit n way ((p, x, q) ∷ rest) = (ltb p n && (ltb q n && (eqb x 0 || (is_input (way x) || is_output (way x))))) && steps_fit n way rest

abbrev states_fit : ℕ → List ℕ → Bool
states_fit n [] = true
states_fit n (p ∷ rest) = ltb p n && states_fit n rest

abbrev FitsAt : ℕ → (ℕ → Way) → ℕ → ℕ → ℕ → Type 0
FitsAt n way p x q = (p < n) × (q < n) × ((x ≡ 0) ⊎ (way x ≢ Absent))

steps_fit_lem : (n : ℕ) (way : ℕ → Way) (steps : List (ℕ × ℕ × ℕ)) → steps_fit n way steps ≡ true → (p x q : ℕ) → step_in steps p x q ≡ true → FitsAt n way p x q
steps_fit_lem n way [] h p x q e = cc
steps_fit_lem n way ((p', x', q') ∷ rest) h p x q e = grind (arith, nat_tests, present_view (way x'), steps_fit_lem n way rest)

states_fit_lem : (n : ℕ) (states : List ℕ) → states_fit n states ≡ true → (p : ℕ) → state_in states p ≡ true → p < n
states_fit_lem n [] h p e = cc
states_fit_lem n (p' ∷ rest) h p e = grind (arith, nat_tests, states_fit_lem n rest)

one_of_each_lem : (i o x : ℕ) → one_of_each i o x ≢ Absent → x ≤ max i o
one_of_each_lem i o x h = grind (arith, nat_tests)

small_well_formed : (n i o : ℕ) (steps : List (ℕ × ℕ × ℕ)) (errors : List ℕ) → 0 < n → one_of_each i o 0 ≡ Absent
    → steps_fit n (one_of_each i o) steps ≡ true → states_fit n errors ≡ true → WellFormed (small n i o steps errors)
small_well_formed n i o steps errors h z s t =
    record {
      start_in = h;
      internal = z;
      ways_in = one_of_each_lem i o;
      errors_in = states_fit_lem n errors t;
      from_in = λ p x q e. (steps_fit_lem n (one_of_each i o) steps s p x q e).0;
      to_in = λ p x q e. (steps_fit_lem n (one_of_each i o) steps s p x q e).1;
      named = λ p x q e. (steps_fit_lem n (one_of_each i o) steps s p x q e).2;
    }

doomed_well_formed : WellFormed doomed
doomed_well_formed = small_well_formed 3 1 2 ((0, 1, 1) ∷ (1, 2, 2) ∷ []) (2 ∷ []) (omega arith) refl refl refl

silent_well_formed : WellFormed silent
silent_well_formed = small_well_formed 2 1 2 ((0, 1, 1) ∷ []) [] (omega arith) refl refl refl

-- ---- the examples

pub late_input_is_missed_lem : LateInputIsMissed
unfolding accepts has_step any
late_input_is_missed_lem = (
  refl,
  refl,
  (1, quiet {q = 1} refl (letter 1 (λ z. omega arith) refl here)),
  ((input≢absent, tt), inr ([], 1, ([], refl), refl, (0, here, refl))),
)

strict_error_decided : {e : System} → WellFormed e → (w : List ℕ) → StrictError e w → meets e.states (after e w) e.error ≡ true
strict_error_decided {e} wf w (q, t, bad) = meets_make e.states (after e w) e.error (wf.errors_in q bad) (after_make e wf w t) bad

pub output_into_error_counts_before_it_lem : OutputIntoErrorCountsBeforeIt
unfolding after walk next moved is_error_trace is_word errs fails misses meets any closure grown_by grown reach only illegal local accepts has_step
output_into_error_counts_before_it_lem = (not_yet, at_once, not_before)
  where
    not_yet : StrictError doomed (1 ∷ []) → ⊥
    not_yet h = false≢true (strict_error_decided doomed_well_formed (1 ∷ []) h)

    at_once : ErrorTrace doomed (1 ∷ [])
    at_once = ((input≢absent, tt), inl ((1 ∷ 2 ∷ []), (2, letter {q = 1} 1 (λ z. omega arith) refl (letter {q = 2} 2 (λ z. omega arith) refl here), refl), ([], refl)))

    not_before : ErrorTrace doomed [] → ⊥
    not_before h = false≢true ((words_are_decided_lem doomed doomed_well_formed []).1.1 h)

-- what only lacks outputs and internal steps may replace
module _ (a b : System) (wfa : WellFormed a) (start : a.start ≡ b.start) (ways : (x : ℕ) → a.way x ≡ b.way x)
    (errors : (p : ℕ) → a.error p ≡ true → b.error p ≡ true) (fewer : (p x q : ℕ) → a.step p x q ≡ true → b.step p x q ≡ true)
    (inputs : (p x q : ℕ) → b.way x ≡ Input → b.step p x q ≡ true → a.step p x q ≡ true) where
  runs_like : {p q : ℕ} {w : List ℕ} → Runs a p w q → Runs b p w q
  runs_like here = here
  runs_like (quiet {p = p} {q = q} s t) = quiet (fewer p 0 q s) (runs_like t)
  runs_like (letter {p = p} {q = q} x n s t) = letter x n (fewer p x q s) (runs_like t)

  after_like : (w : List ℕ) {q : ℕ} → After a w q → After b w q
  after_like w {q} t = rw start at (runs_like t)

  missed_like : (p x : ℕ) → b.way x ≡ Input → accepts a p x ≡ false → accepts b p x ≡ false
  missed_like p x is n =
      false_from_ne_true _ (λ t. let (q, s) = accepts_view b p x t in both_ways _ n (accepts_make wfa (inputs p x q is s)))

  cause_like : (w : List ℕ) → Cause a w → Cause b w
  cause_like w (inl (u, p, pre, t, (o, q, s, outs, bad))) =
      inl (u, p, pre, after_like u t, (o, q, runs_like s, outputs_like a b ways o outs, errors q bad))
  cause_like w (inr (u, x, pre, is, (p, t, n))) =
      let is' = sym (ways x) ∙ is in
      inr (u, x, pre, is', (p, after_like u t, missed_like p x is' n))

  errors_like : (w : List ℕ) → ErrorTrace a w → ErrorTrace b w
  errors_like w h = error_trace b w (word_like a b ways w h.0) (cause_like w (cause a w h))

  floods_like : (w : List ℕ) → Flooded a w → Flooded b w
  floods_like w (inl (q, t)) = inl (q, after_like w t)
  floods_like w (inr h) = inr (errors_like w h)

  fewer_steps : MayReplace a b
  fewer_steps = record { ways = ways; errors = errors_like; floods = floods_like }

pub silent_may_replace_replying_lem : SilentMayReplaceReplying
silent_may_replace_replying_lem =
    fewer_steps silent replying silent_well_formed refl (λ x. refl) (λ p e. e) fewer inputs
  where
    fewer : (p x q : ℕ) → silent.step p x q ≡ true → replying.step p x q ≡ true
    fewer p x q s = grind (arith, nat_tests)

    inputs : (p x q : ℕ) → replying.way x ≡ Input → replying.step p x q ≡ true → silent.step p x q ≡ true
    inputs p x q is s = grind (arith, nat_tests)

pub replying_may_not_replace_silent_lem : ReplyingMayNotReplaceSilent
unfolding is_trace after walk next moved is_error_trace is_word errs fails misses meets any closure grown_by grown reach only illegal local accepts has_step
replying_may_not_replace_silent_lem R = go (R.floods (1 ∷ 2 ∷ []) (inl (0, letter {q = 1} 1 (λ z. omega arith) refl (letter {q = 0} 2 (λ z. omega arith) refl here))))
  where
    go : Flooded silent (1 ∷ 2 ∷ []) → ⊥
    go (inl h) = false≢true ((words_are_decided_lem silent silent_well_formed (1 ∷ 2 ∷ [])).0.1 h)
    go (inr h) = false≢true ((words_are_decided_lem silent silent_well_formed (1 ∷ 2 ∷ [])).1.1 h)

pub relay_misses_a_second_reply_lem : RelayMissesASecondReply
unfolding couple step_at error_at missed_at accepts has_step any
relay_misses_a_second_reply_lem =
    record {
      states = refl;
      start = refl;
      input = refl;
      hidden = refl;
      output = refl;
      passed_on = refl;
      at_00 = refl;
      at_01 = refl;
      at_10 = refl;
      at_11 = refl;
    }
