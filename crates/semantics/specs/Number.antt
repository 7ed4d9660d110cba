-- Decodes number n r    r is the thing whose number is n, or a refusal of n, which is the number of none
use Rattle.std.specs.Prelude.{◌≡◌, ℕ, Result, MatchResult, ◌≢◌}
use Rattle.semantics.specs.declared.unknown.Unknown.{Unknown}

abbrev pub Decodes : {K : Type 0} → (K → ℕ) → ℕ → Result K (Unknown ℕ) → Type 0
Decodes {K} number n r = MatchResult r (λ k. number k ≡ n) (λ e. (e.0 ≡ n) × ((k : K) → number k ≢ n))
