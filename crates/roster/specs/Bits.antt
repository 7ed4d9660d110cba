-- bit n q    is the q-th bit of the number n set?
use Rattle.std.specs.Prelude.{ℕ, Bool, ◌==◌}
use Rattle.std.specs.Int.{bit_at}

abbrev pub bit : ℕ → ℕ → Bool
bit n q = bit_at n q == 1
