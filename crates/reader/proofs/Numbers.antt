-- The numbers that bytes spell.
use Rattle.std.proofs.Common.{◌≡◌, ℕ, zero, suc, ◌+◌, ◌*◌, ◌<◌, ◌≤◌, List, [], ◌∷◌, ◌++◌, length, get_or, take, drop, replicate, refl, ap, ◌∙◌, ◌-◌, take_all, Fits, w8, arith}
use Rattle.std.specs.Prelude.{◌^◌}
use Rattle.std.specs.Int.{from_le_bytes, w64}
use Rattle.std.proofs.Math.Nat.{pow-succ'}
use Rattle.reader.specs.Number.{little}

-- at most eight bytes spell what they spell with zeros behind them, as the library reads eight
pub little_is : (bytes : List ℕ) → length bytes ≤ 8 → from_le_bytes w64 (bytes ++ drop (length bytes) (replicate 8 0)) ≡ little bytes
little_is [] h = refl
little_is (a ∷ []) h = omega arith
little_is (a ∷ b ∷ []) h = omega arith
little_is (a ∷ b ∷ c ∷ []) h = omega arith
little_is (a ∷ b ∷ c ∷ d ∷ []) h = omega arith
little_is (a ∷ b ∷ c ∷ d ∷ e ∷ []) h = omega arith
little_is (a ∷ b ∷ c ∷ d ∷ e ∷ f ∷ []) h = omega arith
little_is (a ∷ b ∷ c ∷ d ∷ e ∷ f ∷ g ∷ []) h = omega arith
little_is (a ∷ b ∷ c ∷ d ∷ e ∷ f ∷ g ∷ i ∷ []) h = omega arith
little_is (a ∷ b ∷ c ∷ d ∷ e ∷ f ∷ g ∷ i ∷ k ∷ rest) h = absurd (omega arith)

-- bytes spell less than 256 to the power of their number
little_small : (xs : List ℕ) (n : ℕ) → length xs ≤ n → ((i : ℕ) → Fits w8 (get_or xs i 0)) → little xs < 256 ^ n
little_small [] zero h f = omega arith
little_small [] (suc n) h f = let less = little_small [] n (omega arith) f in rw (pow-succ' 256 n) (omega arith)
little_small (b ∷ xs) zero h f = absurd (omega arith)
little_small (b ∷ xs) (suc n) h f =
    let less = little_small xs n (omega arith) (λ i. f (suc i)) in
    let low = f 0 in
    rw (pow-succ' 256 n) (omega arith)

-- what the pattern of some bytes gives
little_front : (xs : List ℕ) (low high : ℕ) → 1 ≤ length xs → low ≡ get_or xs 0 0 → high ≡ little (take (length xs - 1) (drop 1 xs)) → low + 256 * high ≡ little xs
little_front [] low high h l u = absurd (omega arith)
little_front (b ∷ xs) low high h l u =
    let rest : high ≡ little xs = u ∙ ap little (take_all (length (b ∷ xs) - 1) xs (omega arith)) in
    omega arith

-- eight bytes at most, so that what the pattern gives is a number of 64 bits
pub front_small : (xs : List ℕ) (low high : ℕ) → length xs ≤ 8 → ((i : ℕ) → Fits w8 (get_or xs i 0)) → 1 ≤ length xs → low ≡ get_or xs 0 0 → high ≡ little (take (length xs - 1) (drop 1 xs))
    → low + 256 * high < 2 ^ 64
front_small xs low high few f some l u =
    let whole = little_small xs 8 few f in
    let is = little_front xs low high some l u in
    omega arith
