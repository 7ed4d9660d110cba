-- Meaning          what a roster says: its size, the system that stands at each number, and what that is the coupling of
-- nothing          the system that answers for an absent station: no state, no action, no error, no step
-- filled o         the system that stands, or else `nothing`
-- system_at m s    the system that answers for the station s
-- is_there m s     is the station s there?
-- Lawful m         the law that the meaning of every roster keeps
-- Coupled m s i k  the station s is the coupling of i and k, which are there and composable
use Rattle.std.specs.Prelude.{◌≡◌, ℕ, ◌<◌, ◌≤◌, Bool, true, false, is_some, Some, None, Option}
use Rattle.semantics.specs.declared.way.Way.TheVariants.{Absent}
use Rattle.semantics.specs.System.{System, WellFormed}
use Rattle.semantics.specs.Coupling.{Composable, IsCoupling}

-- A station is a system under its number. It may name two stations, its parts, whose coupling it is.
pub record Meaning : Type 0 where
  pub size : ℕ
  pub station : ℕ → Option System
  pub parts : ℕ → Option (ℕ × ℕ)

unfoldable pub nothing : System
nothing = record { states = 0; start = 0; actions = 0; way = λ x. Absent; error = λ p. false; step = λ p x q. false }

abbrev pub filled : Option System → System
filled (Some e) = e
filled None = nothing

-- Every question about an absent station is answered by `nothing`. A question about a state or an action that a station
-- does not have is answered by the station: a well-formed system has no error and no step there, and its way is absent.
abbrev pub system_at : Meaning → ℕ → System
system_at m s = filled (m.station s)

abbrev pub is_there : Meaning → ℕ → Bool
is_there m s = is_some (m.station s)

pub record Coupled (m : Meaning) (s i k : ℕ) : Type 0 where
  pub whole : is_there m s ≡ true
  pub one : is_there m i ≡ true
  pub two : is_there m k ≡ true
  pub composable : Composable (system_at m i) (system_at m k)
  pub coupling : IsCoupling (system_at m i) (system_at m k) (system_at m s)

pub record Lawful (m : Meaning) : Type 0 where
  pub small : m.size ≤ 65535
  pub inside : (s : ℕ) → is_there m s ≡ true → s < m.size
  pub formed : (s : ℕ) → is_there m s ≡ true → WellFormed (system_at m s)
  pub some : (s : ℕ) → is_there m s ≡ true → 1 ≤ (system_at m s).states
  pub few : (s : ℕ) → is_there m s ≡ true → (system_at m s).states ≤ 4096
  pub actions : (s : ℕ) → is_there m s ≡ true → (system_at m s).actions ≤ 32
  pub coupled : (s i k : ℕ) → m.parts s ≡ Some (i, k) → Coupled m s i k
