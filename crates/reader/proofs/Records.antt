-- The laws of cutting bytes into records.
use Rattle.std.proofs.Common.{◌≡◌, ℕ, zero, suc, ◌+◌, ◌*◌, ◌<◌, ◌≤◌, List, [], ◌∷◌, ◌++◌, length, Some, None, Option, refl, ap, ◌∙◌, arith, length-append, length-drop, length-take}
use Rattle.std.proofs.lemmas.List.{take_at, drop_at}
use Rattle.std.proofs.lemmas.Bool.Decides.{nat_tests}
use Rattle.reader.specs.Record.{bodied, front, before, up_to, records, none, cut, next, written, ReadBack}

-- a record that stands in front takes at least four bytes
bodied_shorter : (n kind : ℕ) (bytes : List ℕ) (t : ℕ × List ℕ × List ℕ) → bodied n kind bytes ≡ Some t → length t.1 + length t.2 ≡ length bytes
bodied_shorter n kind bytes t e = grind (arith, nat_tests, length-take {A = ℕ}, length-drop {A = ℕ})

pub front_shorter : (bytes : List ℕ) (t : ℕ × List ℕ × List ℕ) → front bytes ≡ Some t → 4 + (length t.1 + length t.2) ≡ length bytes
front_shorter (a ∷ b ∷ c ∷ d ∷ bytes) t e = let h = bodied_shorter (a + b * 256) (c + d * 256) bytes t e in omega arith
front_shorter bytes t e = cc

-- more turns than bytes change nothing
up_to_enough : (m n : ℕ) (bytes : List ℕ) → length bytes ≤ m → length bytes ≤ n → up_to m bytes ≡ up_to n bytes
unfolding up_to
up_to_enough m n [] hm hn = refl
up_to_enough zero n (b ∷ bytes) hm hn = absurd (omega arith)
up_to_enough (suc m) zero (b ∷ bytes) hm hn = absurd (omega arith)
up_to_enough (suc m) (suc n) (b ∷ bytes) hm hn = go (up_to_enough m n) (front (b ∷ bytes)) refl
  where
    go : ((bs : List ℕ) → length bs ≤ m → length bs ≤ n → up_to m bs ≡ up_to n bs) → (o : Option (ℕ × List ℕ × List ℕ)) → front (b ∷ bytes) ≡ o → before (up_to m) o ≡ before (up_to n) o
    go further None e = refl
    go further (Some t) e =
        let h = front_shorter (b ∷ bytes) t e in
        ap (λ r. next t.0 t.1 r) (further t.2 (omega arith) (omega arith))

-- no byte, no record
pub records-none : (bytes : List ℕ) → length bytes ≡ 0 → records bytes ≡ none
unfolding records up_to
records-none [] h = refl
records-none (b ∷ bytes) h = absurd (omega arith)

-- bytes with no whole record in front
pub records-cut : (bytes : List ℕ) → 0 < length bytes → front bytes ≡ None → records bytes ≡ cut
unfolding records up_to
records-cut [] h e = absurd (omega arith)
records-cut (b ∷ bytes) h e = ap (before (up_to (length bytes))) e

-- bytes with a whole record in front
pub records-next : (bytes : List ℕ) (t : ℕ × List ℕ × List ℕ) → front bytes ≡ Some t → records bytes ≡ next t.0 t.1 (records t.2)
unfolding records up_to
records-next [] t e = cc
records-next (b ∷ bytes) t e =
    let h = front_shorter (b ∷ bytes) t e in
    ap (before (up_to (length bytes))) e ∙ ap (λ r. next t.0 t.1 r) (up_to_enough (length bytes) (length t.2) t.2 (omega arith) (omega arith))

-- some bytes, some record
pub records-some : (bytes : List ℕ) → 0 < length bytes → records bytes ≡ none → ⊥
unfolding records up_to
records-some [] some e = absurd (omega arith)
records-some (b ∷ bytes) some e = grind arith

-- a record that is written stands in front
pub read_back : ReadBack
read_back kind body bytes hk hl =
    records-next (written kind body ++ bytes) (kind, body, bytes) (grind (arith, nat_tests, take_at {A = ℕ}, drop_at {A = ℕ}, length-append {A = ℕ}))
