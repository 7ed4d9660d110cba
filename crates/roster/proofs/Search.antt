-- Search among the numbers below a bound: what `any` and `lowest` find, and what a chain over these numbers finds.
use Rattle.std.proofs.Common.{◌≡◌, ℕ, zero, suc, ◌+◌, ◌<◌, ◌≤◌, Bool, true, false, cond, List, get_or, Some, None, Option, MatchOption, refl, ap, sym, ◌∙◌, inl, inr, add-one, arith}
use Rattle.std.specs.Bool.{⊤}
use Rattle.std.specs.Fn.{Called, CalledAt}
use Rattle.std.specs.Iterator.{YieldsThen}
use Rattle.std.specs.List.{list_any, range_with_len, FoldsTo}
use Rattle.std.specs.declared.ops.Range.{Range}
use Rattle.std.proofs.iter.Yields.{nat_range_steps}
use Rattle.std.proofs.lemmas.Bool.{both_ways, false_from_ne_true, or_from, or_parts, cases_eq, cond-true, cond-false, false≢true}
use Rattle.std.proofs.lemmas.List.FromFn.{length-range_with_len, get_or-range_with_len}
use Rattle.std.proofs.lemmas.List.Recursion.{or_is}
use Rattle.std.proofs.lemmas.Iterator.{YieldsList-from_range, first_from_Range}
use Rattle.std.proofs.lemmas.Iterator.Search.{any_from_yields_List}
use denote.Param.Members.{Mut}
use denote.Ref.{Bor}
use Rattle.semantics.specs.System.{System, any, has_step, accepts}
use Rattle.semantics.proofs.Search.{same_test, any_view, any_make}
use Rattle.roster.specs.Layer.{lowest}

-- ---- any

-- beyond a bound that no number passes, nothing is found
pub any_beyond : (f : ℕ → Bool) (n m : ℕ) → n ≤ m → ((x : ℕ) → f x ≡ true → x < n) → any f m ≡ any f n
any_beyond f n m h k =
    same_test (any f m) (any f n)
    (λ t. let (x, i, s) = any_view f m t in any_make f n x (k x s) s)
    (λ t. let (x, i, s) = any_view f n t in any_make f m x (omega arith) s)

-- one number more that does not pass; fewer numbers; and another test that passes the same numbers
pub any_more : (f : ℕ → Bool) (i : ℕ) → any f i ≡ false → f i ≡ false → any f (i + 1) ≡ false
unfolding any
any_more f i was new = rw add-one (or_from (f i) (any f i) new was)

pub any_lower : (f : ℕ → Bool) (n m : ℕ) → n ≤ m → any f m ≡ false → any f n ≡ false
any_lower f n m h none = false_from_ne_true _ (λ t. let (x, i, s) = any_view f n t in both_ways (any f m) none (any_make f m x (omega arith) s))

pub any_same : (f g : ℕ → Bool) (n : ℕ) → ((x : ℕ) → f x ≡ g x) → any f n ≡ any g n
any_same f g n h =
    same_test (any f n) (any g n)
    (λ t. let (x, i, s) = any_view f n t in any_make g n x i (sym (h x) ∙ s))
    (λ t. let (x, i, s) = any_view g n t in any_make f n x i (h x ∙ s))

pub accepts_is : (e : System) (p x : ℕ) → accepts e p x ≡ has_step e p x
unfolding accepts
accepts_is e p x = refl

any_listed : (f : ℕ → Bool) (n : ℕ) → any f n ≡ list_any f (range_with_len 0 n)
any_listed f n =
    or_is (list_any f) f refl (λ x xs. refl) (range_with_len 0 n) 0 (any f n)
    (λ t. let (q, h, k) = any_view f n t in (q, omega (arith, length-range_with_len 0 n), ap f (place q h) ∙ k))
    (λ none i h. let low : i < n = omega (arith, length-range_with_len 0 n) in
    false_from_ne_true _ (λ t. false≢true (sym none ∙ any_make f n i low (sym (ap f (place i low)) ∙ t))))
  where
    place : (i : ℕ) → i < n → get_or (range_with_len 0 n) i 0 ≡ i
    place i h = omega (arith, get_or-range_with_len 0 n i 0 h)

-- what a call of `any` over the numbers below n answers, whose closure asks the test f
pub any_range : {F : Type 0} {g : Mut F (ℕ × Unit {0}) Bool} (f : ℕ → Bool) (n : ℕ) (u : Range ℕ) (j : F) (r : Bool)
    → (xs : List ℕ) × (o : Option ℕ) × (l : F) × YieldsThen nat_range_steps (record { start = 0; end = n }) xs o u × FoldsTo (λ p x q. Called g p (x, tt) false q) j xs l × MatchOption o (r ≡ false) (λ x. (r ≡ true) × ((h : F) × Called g l (x, tt) true h))
    → ((x : ℕ) (b : Bool) (q : F) → Called g j (x, tt) b q → (q ≡ j) × (b ≡ f x)) → r ≡ any f n
any_range f n u j r ran calls = any_from_yields_List f u j r ran (YieldsList-from_range 0 n n refl (omega arith)) calls ∙ sym (any_listed f n)

-- ---- the lowest

pub lowest_none : (f : ℕ → Bool) (n : ℕ) → any f n ≡ false → lowest f n ≡ None
unfolding lowest any
lowest_none f zero e = refl
lowest_none f (suc n) e =
    let (here, below) = or_parts (f n) (any f n) e in
    cond-false (any f n) (lowest f n) (cond (f n) (Some n) None) below ∙ cond-false (f n) (Some n) None here

pub lowest_here : (f : ℕ → Bool) (n i : ℕ) → i < n → any f i ≡ false → f i ≡ true → lowest f n ≡ Some i
unfolding lowest
lowest_here f zero i h was t = absurd (omega arith)
lowest_here f (suc n) i h was t =
    elim (cases_eq i n) [
      | inl e ↦ cond-false (any f n) (lowest f n) (cond (f n) (Some n) None) (ap (any f) (sym e) ∙ was) ∙ cond-true (f n) (Some n) None (ap f (sym e) ∙ t) ∙ ap Some (sym e)
      | inr k ↦ let low : i < n = omega arith in
          cond-true (any f n) (lowest f n) (cond (f n) (Some n) None) (any_make f n i low t) ∙ lowest_here f n i low was t
    ]

none_below : (f : ℕ → Bool) (n : ℕ) → ((k : ℕ) → 0 ≤ k → k < n → f k ≡ false) → any f n ≡ false
none_below f n h = false_from_ne_true _ (λ t. let (k, low, s) = any_view f n t in false≢true (sym (h k (omega arith) low) ∙ s))

lowest_first : (f : ℕ → Bool) (n : ℕ) (r : Option ℕ)
    → MatchOption r ((k : ℕ) → 0 ≤ k → k < n → f k ≡ false) (λ i. (0 ≤ i) × (i < n) × (f i ≡ true) × ((k : ℕ) → 0 ≤ k → k < i → f k ≡ false)) → r ≡ lowest f n
lowest_first f n None h = sym (lowest_none f n (none_below f n h))
lowest_first f n (Some i) h = sym (lowest_here f n i h.1 (none_below f i h.3) h.2)

-- what a call of `find` over the numbers below n answers, whose closure asks the test f
pub lowest_range : {F : Type 0} {g : Mut F (Bor ℕ × Unit {0}) Bool} (f : ℕ → Bool) (n : ℕ) (u : Range ℕ) (j : F) (r : Option ℕ)
    → (xs : List ℕ) × (l : F) × YieldsThen nat_range_steps (record { start = 0; end = n }) xs r u × FoldsTo (λ p x q. CalledAt g p x false q) j xs l × MatchOption r ⊤ (λ x. (h : F) × CalledAt g l x true h)
    → ((x : ℕ) (b : Bool) (q : F) → CalledAt g j x b q → (q ≡ j) × (b ≡ f x)) → r ≡ lowest f n
lowest_range f n u j r ran calls =
    lowest_first f n r
    (first_from_Range (record { start = 0; end = n }) u j r (λ x. f x ≡ true) (λ x. f x ≡ false) ran
    (λ x q k. sym (calls x true q k).1)
    (λ x q k. ((calls x false q k).0, sym (calls x false q k).1)))
