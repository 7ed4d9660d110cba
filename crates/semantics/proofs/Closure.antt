-- Sets of numbers, and that a set grown as often as there are numbers is closed.
use Rattle.std.proofs.Common.{◌≡◌, ℕ, zero, suc, ◌<◌, ◌≤◌, Bool, true, false, cond, not, ◌&&◌, ◌⊎◌, inl, inr, arith}
use Rattle.std.proofs.lemmas.Bool.{and_parts, and_from, or_cases, or_left, or_right, not-true, not_from_false, both_ways, cases_Bool, cases_eq, true_from_ne_false}
use Rattle.semantics.specs.Deciding.{meets, grown, grown_by, closure}
use Rattle.semantics.proofs.Search.{any_view, any_make}

pub meets_view : (n : ℕ) (X Y : ℕ → Bool) → meets n X Y ≡ true → (q : ℕ) × (q < n) × (X q ≡ true) × (Y q ≡ true)
unfolding meets
meets_view n X Y e =
    let (q, h, k) = any_view (λ q. X q && Y q) n e in
    let (x, y) = and_parts (X q) (Y q) k in
    (q, h, x, y)

pub meets_make : (n : ℕ) (X Y : ℕ → Bool) {q : ℕ} → q < n → X q ≡ true → Y q ≡ true → meets n X Y ≡ true
unfolding meets
meets_make n X Y {q} h x y = any_make (λ q. X q && Y q) n q h (and_from (X q) (Y q) x y)

-- ---- how many numbers below a bound a set has

count : (ℕ → Bool) → ℕ → ℕ
count f zero = zero
count f (suc n) = cond (f n) (suc (count f n)) (count f n)

count_le : (f g : ℕ → Bool) (n : ℕ) → ((q : ℕ) → f q ≡ true → g q ≡ true) → count f n ≤ count g n
unfolding count
count_le f g zero h = omega arith
count_le f g (suc n) h = grind (arith, h n, count_le f g n h)

count_more : (f g : ℕ → Bool) (n q : ℕ) → ((q : ℕ) → f q ≡ true → g q ≡ true) → q < n → f q ≡ false → g q ≡ true → suc (count f n) ≤ count g n
unfolding count
count_more f g zero q h l x y = absurd (omega arith)
count_more f g (suc n) q h l x y =
    elim (cases_eq q n) [
      | inl e ↦ grind (arith, count_le f g n h)
      | inr k ↦ grind (arith, h n, count_more f g n q h (omega arith) x y)
    ]

count_most : (f : ℕ → Bool) (n : ℕ) → count f n ≤ n
unfolding count
count_most f zero = omega arith
count_most f (suc n) = grind (arith, count_most f n)

count_full : (f : ℕ → Bool) (n : ℕ) → n ≤ count f n → (q : ℕ) → q < n → f q ≡ true
unfolding count
count_full f zero h q l = absurd (omega arith)
count_full f (suc n) h q l =
    let most = count_most f n in
    elim (cases_eq q n) [ inl e ↦ grind arith | inr i ↦ count_full f n (grind arith) q (omega arith) ]

-- ---- closures

-- q is reached from p by steps of R
pub data Steps (R : ℕ → ℕ → Bool) : ℕ → ℕ → Type 0 where
  stay : {p : ℕ} → Steps R p p
  go_on : {p q r : ℕ} → R p q ≡ true → Steps R q r → Steps R p r

pub one_more : {R : ℕ → ℕ → Bool} {p q r : ℕ} → Steps R p q → R q r ≡ true → Steps R p r
one_more stay s = go_on s stay
one_more (go_on t u) s = go_on t (one_more u s)

-- R is among the numbers below n
abbrev pub Inside : (ℕ → ℕ → Bool) → ℕ → Type 0
Inside R n = (p q : ℕ) → R p q ≡ true → (p < n) × (q < n)

abbrev Closed : (ℕ → ℕ → Bool) → ℕ → (ℕ → Bool) → Type 0
Closed R n X = (q : ℕ) → grown R n X q ≡ true → X q ≡ true

module _ (R : ℕ → ℕ → Bool) (n : ℕ) where
  grown_has : (X : ℕ → Bool) (q : ℕ) → X q ≡ true → grown R n X q ≡ true
  unfolding grown
  grown_has X q h = or_left (X q) (meets n X (λ p. R p q)) h

  grown_view : (X : ℕ → Bool) (q : ℕ) → grown R n X q ≡ true → (X q ≡ true) ⊎ ((p : ℕ) × (p < n) × (X p ≡ true) × (R p q ≡ true))
  unfolding grown
  grown_view X q h = elim (or_cases (X q) (meets n X (λ p. R p q)) h) [ inl x ↦ inl x | inr m ↦ inr (meets_view n X (λ p. R p q) m) ]

  grown_step : (X : ℕ → Bool) (p q : ℕ) → p < n → X p ≡ true → R p q ≡ true → grown R n X q ≡ true
  unfolding grown
  grown_step X p q h x s = or_right (X q) (meets n X (λ p. R p q)) (meets_make n X (λ p. R p q) h x s)

  grown_mono : (X Y : ℕ → Bool) → ((q : ℕ) → X q ≡ true → Y q ≡ true) → (q : ℕ) → grown R n X q ≡ true → grown R n Y q ≡ true
  grown_mono X Y f q h =
      elim (grown_view X q h) [
        | inl x ↦ grown_has Y q (f q x)
        | inr (p, i, x, s) ↦ grown_step Y p q i (f p x) s
      ]

  pub closure_view : (X : ℕ → Bool) (q : ℕ) → closure R n X q ≡ true → (p : ℕ) × (X p ≡ true) × Steps R p q
  unfolding closure grown_by
  closure_view X q h = back n q h
    where
      back : (k q : ℕ) → grown_by R n X k q ≡ true → (p : ℕ) × (X p ≡ true) × Steps R p q
      back zero q h = (q, h, stay)
      back (suc k) q h =
          elim (grown_view (grown_by R n X k) q h) [
            | inl x ↦ back k q x
            | inr (m, i, x, s) ↦ let (p, y, t) = back k m x in (p, y, one_more t s)
          ]

  pub closure_has : (X : ℕ → Bool) (q : ℕ) → X q ≡ true → closure R n X q ≡ true
  unfolding closure grown_by
  closure_has X q h = go n
    where
      go : (k : ℕ) → grown_by R n X k q ≡ true
      go zero = h
      go (suc k) = grown_has (grown_by R n X k) q (go k)

  closed_keeps : (X : ℕ → Bool) → Closed R n X → Closed R n (grown R n X)
  closed_keeps X c q h = grown_has X q (c q (grown_mono (grown R n X) X c q h))

  module _ (inside : Inside R n) where
    -- does one growth add a number below n?
    grows : (ℕ → Bool) → Bool
    grows X = meets n (grown R n X) (λ q. not (X q))

    grows_not : (X : ℕ → Bool) → grows X ≡ false → Closed R n X
    unfolding grows
    grows_not X w q h =
        elim (grown_view X q h) [
          | inl x ↦ x
          | inr (p, i, x, s) ↦ true_from_ne_false (X q) (λ y. both_ways (grows X) w (meets_make n (grown R n X) (λ q. not (X q)) (inside p q s).1 h (not_from_false (X q) y)))
        ]

    grows_more : (X : ℕ → Bool) → grows X ≡ true → suc (count X n) ≤ count (grown R n X) n
    unfolding grows
    grows_more X w =
        let (q, i, x, y) = meets_view n (grown R n X) (λ q. not (X q)) w in
        count_more X (grown R n X) n q (grown_has X) i (not-true (X q) y) x

    -- grown k times, a set is closed or has k numbers at least
    progress : (X : ℕ → Bool) (k : ℕ) → Closed R n (grown_by R n X k) ⊎ (k ≤ count (grown_by R n X k) n)
    unfolding grown_by
    progress X zero = inr (omega arith)
    progress X (suc k) = go (grown_by R n X k) (progress X k)
      where
        go : (Y : ℕ → Bool) → Closed R n Y ⊎ (k ≤ count Y n) → Closed R n (grown R n Y) ⊎ (suc k ≤ count (grown R n Y) n)
        go Y (inl c) = inl (closed_keeps Y c)
        go Y (inr l) =
            elim (cases_Bool (grows Y)) [
              | inl w ↦ (let more = grows_more Y w in inr (omega arith))
              | inr w ↦ inl (closed_keeps Y (grows_not Y w))
            ]

    closure_closed : (X : ℕ → Bool) → Closed R n (closure R n X)
    unfolding closure
    closure_closed X q h = go (progress X n)
      where
        go : Closed R n (grown_by R n X n) ⊎ (n ≤ count (grown_by R n X n) n) → grown_by R n X n q ≡ true
        go (inl c) = c q h
        go (inr l) =
            elim (grown_view (grown_by R n X n) q h) [
              | inl x ↦ x
              | inr (p, i, x, s) ↦ count_full (grown_by R n X n) n l q (inside p q s).1
            ]

    pub closure_on : (X : ℕ → Bool) {p q : ℕ} → closure R n X p ≡ true → Steps R p q → closure R n X q ≡ true
    closure_on X h stay = h
    closure_on X h (go_on {p = p} {q = q} s t) = closure_on X (closure_closed X q (grown_step (closure R n X) p q (inside p q s).0 h s)) t
