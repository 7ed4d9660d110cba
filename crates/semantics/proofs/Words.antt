-- Words: letters, prefixes and pruning.
use Rattle.std.proofs.Common.{◌≡◌, ℕ, Bool, true, ◌⊎◌, List, [], ◌∷◌, ◌++◌, length, sym, refl, ap, ◌∙◌, inl, inr, append_assoc, append-nil, arith, length-append}
use Rattle.std.specs.List.{AllByRecursion}
use Rattle.semantics.specs.declared.way.Way.{Way}
use Rattle.semantics.specs.declared.way.Way.TheVariants.{Output}
use Rattle.semantics.specs.Way.{is_output}
use Rattle.semantics.specs.System.{System}
use Rattle.semantics.specs.Trace.{Word, Outputs, Prefix, put, prune}

-- what holds of each element
pub all_map : {X : Type 0} {P Q : X → Type 0} → ((x : X) → P x → Q x) → (xs : List X) → AllByRecursion P xs → AllByRecursion Q xs
all_map f [] h = tt
all_map f (x ∷ xs) h = (f x h.0, all_map f xs h.1)

pub all_append : {X : Type 0} (P : X → Type 0) (xs ys : List X) → AllByRecursion P xs → AllByRecursion P ys → AllByRecursion P (xs ++ ys)
all_append P [] ys h k = k
all_append P (x ∷ xs) ys h k = (h.0, all_append P xs ys h.1 k)

pub all_front : {X : Type 0} (P : X → Type 0) (xs ys : List X) → AllByRecursion P (xs ++ ys) → AllByRecursion P xs
all_front P [] ys h = tt
all_front P (x ∷ xs) ys h = (h.0, all_front P xs ys h.1)

pub all_prefix : (P : ℕ → Type 0) (u w : List ℕ) → Prefix u w → AllByRecursion P w → AllByRecursion P u
all_prefix P u w (v, q) h = all_front P u v (rw q h)

-- systems with the same ways have the same words
pub word_like : (a b : System) → ((x : ℕ) → a.way x ≡ b.way x) → (w : List ℕ) → Word a w → Word b w
word_like a b same w h = all_map (λ x n q. n (same x ∙ q)) w h

pub outputs_like : (a b : System) → ((x : ℕ) → a.way x ≡ b.way x) → (w : List ℕ) → Outputs a w → Outputs b w
outputs_like a b same w h = all_map (λ x q. sym (same x) ∙ q) w h

-- ---- prefixes

pub prefix_refl : (u : List ℕ) → Prefix u u
prefix_refl u = ([], append-nil u)

pub prefix_append : (u v : List ℕ) → Prefix u (u ++ v)
prefix_append u v = (v, refl)

pub prefix_trans : (u v w : List ℕ) → Prefix u v → Prefix v w → Prefix u w
prefix_trans u v w (s, p) (t, q) = (s ++ t, grind (arith, append_assoc {A = ℕ}))

pub prefix_cons : (x : ℕ) (u v : List ℕ) → Prefix u v → Prefix (x ∷ u) (x ∷ v)
prefix_cons x u v (s, p) = (s, cc)

pub middle≢nil : (s o : List ℕ) (x : ℕ) → s ++ (x ∷ o) ≡ [] → ⊥
middle≢nil s o x q = omega (arith, length-append s (x ∷ o), ap length q)

-- a prefix of w ++ o is one of w, or goes on into o
pub prefix_split : (u w o : List ℕ) → Prefix u (w ++ o) → Prefix u w ⊎ ((o₁ : List ℕ) × (u ≡ w ++ o₁) × Prefix o₁ o)
prefix_split [] w o h = inl (w, refl)
prefix_split (y ∷ u) [] o h = inr (y ∷ u, refl, h)
prefix_split (y ∷ u) (z ∷ w) o (v, q) = go (prefix_split u w o (v, cc))
  where
    same : y ≡ z
    same = cc

    go : Prefix u w ⊎ ((o₁ : List ℕ) × (u ≡ w ++ o₁) × Prefix o₁ o)
        → Prefix (y ∷ u) (z ∷ w) ⊎ ((o₁ : List ℕ) × (y ∷ u ≡ (z ∷ w) ++ o₁) × Prefix o₁ o)
    go (inl (t, p)) = inl (t, cc)
    go (inr (o₁, p, r)) = inr (o₁, cc, r)

-- the last letter of a word that ends in outputs is an output
pub last_output : (e : System) (w o : List ℕ) (x y : ℕ) (s : List ℕ) → s ++ (x ∷ []) ≡ w ++ (y ∷ o) → Outputs e (y ∷ o) → e.way x ≡ Output
last_output e [] o x y [] q h = ap e.way (cc) ∙ h.0
last_output e [] [] x y (z ∷ s) q h = absurd (middle≢nil s [] x (cc))
last_output e [] (y' ∷ o) x y (z ∷ s) q h = last_output e [] o x y' s (cc) h.1
last_output e (z ∷ w) o x y [] q h = absurd (middle≢nil w o y (cc))
last_output e (z ∷ w) o x y (z' ∷ s) q h = last_output e w o x y s (cc) h

-- ---- pruning

-- the pruned word, and the outputs behind it
pub prune_split : (e : System) (w : List ℕ) → (o : List ℕ) × (prune e w ++ o ≡ w) × Outputs e o
prune_split e [] = ([], refl, tt)
prune_split e (x ∷ w) = go (e.way x) refl (prune e w) (prune_split e w)
  where
    go : (k : Way) → e.way x ≡ k → (r : List ℕ) → (o : List ℕ) × (r ++ o ≡ w) × Outputs e o
        → (o : List ℕ) × (put (is_output k) x r ++ o ≡ x ∷ w) × Outputs e o
    go Output q [] (o, p, h) = (x ∷ o, cc, (q, h))
    go k q r (o, p, h) = (o, cc, h)

put_prefix : (b : Bool) (x : ℕ) (r : List ℕ) → Prefix (put b x r) (x ∷ r)
put_prefix true x [] = prefix_append [] (x ∷ [])
put_prefix b x r = prefix_refl (x ∷ r)

prune_outputs : (e : System) (o : List ℕ) → Outputs e o → prune e o ≡ []
prune_outputs e [] h = refl
prune_outputs e (x ∷ o) h = rw (h.0, prune_outputs e o h.1)

-- pruning removes outputs at the end, and perhaps more
pub prune_prefix : (e : System) (u o : List ℕ) → Outputs e o → Prefix (prune e (u ++ o)) u
prune_prefix e [] o h = ([], append-nil (prune e o) ∙ prune_outputs e o h)
prune_prefix e (x ∷ u) o h =
    let r = prune e (u ++ o) in
    prefix_trans (prune e (x ∷ (u ++ o))) (x ∷ r) (x ∷ u) (put_prefix (is_output (e.way x)) x r) (prefix_cons x r u (prune_prefix e u o h))
