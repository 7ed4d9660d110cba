-- What a composable pair of systems does, and a system that does the same, by numbers for pairs of states.
use Rattle.std.proofs.Common.{◌≡◌, ℕ, ◌<◌, true, false, ◌⊎◌, refl, ap, ◌∙◌, inl, inr}
use lib.Arith.{digits_div, digits_mod}
use Rattle.std.proofs.lemmas.Bool.{false_from_ne_true, both_ways}
use Rattle.semantics.specs.declared.way.Way.TheVariants.{Absent, Input}
use Rattle.semantics.specs.System.{System, WellFormed, accepts}
use Rattle.semantics.specs.Coupling.{Synced, Composable, pair_number, joined, CoupledStep, first, second, both, CoupledError, first_fails, second_fails, second_misses, first_misses, couple}
use Rattle.semantics.proofs.Search.{accepts_view, accepts_make}
use Rattle.semantics.proofs.Ways.{synced_swap, lone, lone_left, joined_comm, joined_input}
use Rattle.semantics.proofs.Couplings.{one, two, step_view, step_make, error_view, error_make, coupling_is_well_formed_lem, parts_in, pair_parts}

-- As `CoupledStep`, where a and c are composable: an action that is not synchronised is none of the other part.
pub data PairStep (a c : System) : ℕ → ℕ → ℕ → ℕ → ℕ → Type 0 where
  left : {p q p' : ℕ} (x : ℕ) → c.way x ≡ Absent → a.step p x p' ≡ true → PairStep a c p q x p' q
  right : {p q q' : ℕ} (x : ℕ) → a.way x ≡ Absent → c.step q x q' ≡ true → PairStep a c p q x p q'
  joint : {p q p' q' : ℕ} (x : ℕ) → Synced (a.way x) (c.way x) → a.step p x p' ≡ true → c.step q x q' ≡ true → PairStep a c p q 0 p' q'

-- e does what the pair of a and c does, with the state (p, q) as enc p q
pub record Implements (e a c : System) (enc : ℕ → ℕ → ℕ) (one two : ℕ → ℕ) : Type 0 where
  pub way_is : (x : ℕ) → e.way x ≡ joined (a.way x) (c.way x)
  pub input_is : (x : ℕ) → e.way x ≡ Input → ((a.way x ≡ Input) × (c.way x ≡ Absent)) ⊎ ((a.way x ≡ Absent) × (c.way x ≡ Input))
  pub start_is : enc a.start c.start ≡ e.start
  pub start_one : one e.start ≡ a.start
  pub start_two : two e.start ≡ c.start
  pub step_view : {z x z' : ℕ} → e.step z x z' ≡ true → PairStep a c (one z) (two z) x (one z') (two z')
  pub step_make : {p q x p' q' : ℕ} → p < a.states → q < c.states → PairStep a c p q x p' q' → e.step (enc p q) x (enc p' q') ≡ true
  pub error_view : {z : ℕ} → e.error z ≡ true → CoupledError a c (one z) (two z)
  pub error_make : {p q : ℕ} → p < a.states → q < c.states → CoupledError a c p q → e.error (enc p q) ≡ true
  pub misses_left : {z x : ℕ} → z < e.states → a.way x ≡ Input → c.way x ≡ Absent → accepts e z x ≡ false → accepts a (one z) x ≡ false
  pub misses_right : {z x : ℕ} → z < e.states → a.way x ≡ Absent → c.way x ≡ Input → accepts e z x ≡ false → accepts c (two z) x ≡ false
  pub left_misses : {p q x : ℕ} → p < a.states → q < c.states → a.way x ≡ Input → c.way x ≡ Absent → accepts a p x ≡ false → accepts e (enc p q) x ≡ false
  pub right_misses : {p q x : ℕ} → p < a.states → q < c.states → a.way x ≡ Absent → c.way x ≡ Input → accepts c q x ≡ false → accepts e (enc p q) x ≡ false

-- an input of one side alone is taken by that side
only_left : {a c : System} {p q x p' q' : ℕ} → WellFormed a → a.way x ≡ Input → PairStep a c p q x p' q' → a.step p x p' ≡ true
only_left wfa is (left x h s) = s
only_left wfa is (right x h s) = cc
only_left wfa is (joint x h s t) = cc

only_right : {a c : System} {p q x p' q' : ℕ} → WellFormed c → c.way x ≡ Input → PairStep a c p q x p' q' → c.step q x q' ≡ true
only_right wfc is (left x h s) = cc
only_right wfc is (right x h s) = s
only_right wfc is (joint x h s t) = cc

module _ (a c : System) (wfa : WellFormed a) (wfc : WellFormed c) where
  step_ends : {p q x p' q' : ℕ} → p < a.states → q < c.states → PairStep a c p q x p' q' → (p' < a.states) × (q' < c.states)
  step_ends {p} {p' = p'} hp hq (left x h s) = (wfa.to_in p x p' s, hq)
  step_ends {q = q} {q' = q'} hp hq (right x h s) = (hp, wfc.to_in q x q' s)
  step_ends {p} {q} {p' = p'} {q' = q'} hp hq (joint x h s t) = (wfa.to_in p x p' s, wfc.to_in q x q' t)

  uncoupled : {p q x p' q' : ℕ} → PairStep a c p q x p' q' → CoupledStep a c p q x p' q'
  uncoupled (left x h s) = first (lone_left h) s
  uncoupled (right x h s) = second (λ k. lone_left h (synced_swap k)) s
  uncoupled (joint x h s t) = both x h s t

  module _ (apart : Composable a c) where
    coupled : {p q x p' q' : ℕ} → CoupledStep a c p q x p' q' → PairStep a c p q x p' q'
    coupled {p} {q} {x} {p'} {q'} (first n s) = left x (elim (wfa.named p x p' s) [
      | inl z ↦ ap c.way z ∙ wfc.internal
      | inr h ↦ lone (a.way x) (c.way x) h (apart.inputs x) (apart.outputs x) n
    ]) s
    coupled {p} {q} {x} {p'} {q'} (second n s) = right x (elim (wfc.named q x q' s) [
      | inl z ↦ ap a.way z ∙ wfa.internal
      | inr h ↦ lone (c.way x) (a.way x) h (λ i j. apart.inputs x j i) (λ i j. apart.outputs x j i) (λ k. n (synced_swap k))
    ]) s
    coupled (both x h s t) = joint x h s t

    view : (z x z' : ℕ) → (couple a c).step z x z' ≡ true → PairStep a c (one c z) (two c z) x (one c z') (two c z')
    view z x z' e = coupled (step_view a c z x z' e).2

    make : {p q x p' q' : ℕ} → p < a.states → q < c.states → PairStep a c p q x p' q' → (couple a c).step (pair_number c p q) x (pair_number c p' q') ≡ true
    make hp hq s = let (hp', hq') = step_ends hp hq s in step_make a c wfa wfc hp hq hp' hq' (uncoupled s)

    -- a step of the pair from the state z
    takes : {z x p' q' : ℕ} → z < (couple a c).states → PairStep a c (one c z) (two c z) x p' q' → accepts (couple a c) z x ≡ true
    unfolding couple
    takes {z} {x} {p'} {q'} h s =
        let (hp, hq) = parts_in a c wfc h in
        accepts_make (coupling_is_well_formed_lem a c wfa wfc)
        (rw (pair_parts c z) at (make hp hq s))

    taken : {p q x : ℕ} → q < c.states → accepts (couple a c) (pair_number c p q) x ≡ true → (p' : ℕ) × (q' : ℕ) × PairStep a c p q x p' q'
    taken {p} {q} {x} hq t =
        let (z', s) = accepts_view (couple a c) (pair_number c p q) x t in (
          one c z',
          two c z',
          rw (digits_div p hq, digits_mod p hq) at (view (pair_number c p q) x z' s),
        )

    pub couple_implements : Implements (couple a c) a c (pair_number c) (one c) (two c)
    unfolding couple
    couple_implements =
        record {
          way_is = λ x. refl;
          input_is = λ x e. joined_input (a.way x) (c.way x) (apart.inputs x) e;
          start_is = refl;
          start_one = digits_div a.start wfc.start_in;
          start_two = digits_mod a.start wfc.start_in;
          step_view = λ {z} {x} {z'} s. view z x z' s;
          step_make = make;
          error_view = λ {z} e. (error_view a c z e).1;
          error_make = error_make a c wfa wfc;
          misses_left = λ {z} {x} hz i h n. false_from_ne_true _ (λ t. let (p', s) = accepts_view a (one c z) x t in both_ways _ n (takes hz (left x h s)));
          misses_right = λ {z} {x} hz h i n. false_from_ne_true _ (λ t. let (q', s) = accepts_view c (two c z) x t in both_ways _ n (takes hz (right x h s)));
          left_misses = λ {p} {q} {x} hp hq i h n. false_from_ne_true _ (λ t. let (p', q', s) = taken hq t in both_ways _ n (accepts_make wfa (only_left wfa i s)));
          right_misses = λ {p} {q} {x} hp hq h i n. false_from_ne_true _ (λ t. let (p', q', s) = taken hq t in both_ways _ n (accepts_make wfc (only_right wfc i s)));
        }

-- ---- the same with the sides exchanged

step_swap : {a c : System} {p q x p' q' : ℕ} → PairStep a c p q x p' q' → PairStep c a q p x q' p'
step_swap (left x h s) = right x h s
step_swap (right x h s) = left x h s
step_swap (joint x h s t) = joint x (synced_swap h) t s

error_swap : {a c : System} {p q : ℕ} → CoupledError a c p q → CoupledError c a q p
error_swap (first_fails t) = second_fails t
error_swap (second_fails t) = first_fails t
error_swap (second_misses x p' h k s n) = first_misses x p' k h s n
error_swap (first_misses x q' h k s n) = second_misses x q' k h s n

pub swapped : {e a c : System} {enc : ℕ → ℕ → ℕ} {one two : ℕ → ℕ} → Implements e a c enc one two → Implements e c a (λ q p. enc p q) two one
swapped {e} {a} {c} I =
    record {
      way_is = λ x. I.way_is x ∙ joined_comm (a.way x) (c.way x);
      input_is = λ x i. elim (I.input_is x i) [ inl (j, k) ↦ inr (k, j) | inr (j, k) ↦ inl (k, j) ];
      start_is = I.start_is;
      start_one = I.start_two;
      start_two = I.start_one;
      step_view = λ s. step_swap (I.step_view s);
      step_make = λ hq hp s. I.step_make hp hq (step_swap s);
      error_view = λ t. error_swap (I.error_view t);
      error_make = λ hq hp t. I.error_make hp hq (error_swap t);
      misses_left = λ hz i h n. I.misses_right hz h i n;
      misses_right = λ hz h i n. I.misses_left hz i h n;
      left_misses = λ hq hp i h n. I.right_misses hp hq h i n;
      right_misses = λ hq hp h i n. I.left_misses hp hq i h n;
    }
