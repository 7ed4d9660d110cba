-- blank n s       a row of n states with start s and nothing else
-- way_of r a      the way of action a in the row r
-- error_at r s    is s told as an error?
-- listed r        the steps that r tells, in their order
-- told s xs       is the step s among xs?
-- declared w      is w the way of a declared action?
-- usable r a      may action a stand in a step: is it internal, or declared?
-- Facts r         what every table keeps
use Rattle.std.specs.Prelude.{◌≡◌, ℕ, ◌-◌, ◌<◌, ◌≤◌, min, Bool, true, false, cond, ◌&&◌, ◌||◌, List, [], ◌∷◌, take, replicate, ◌==◌, nat_le, nat_lt, slice_index_or}
use Rattle.semantics.specs.declared.way.Way.{Way}
use Rattle.semantics.specs.declared.way.Way.TheVariants.{Absent, Input, Output}
use Rattle.reader.specs.declared.row.Row.{Row}
use Rattle.reader.specs.declared.row.Step.{Step}

-- the step that fills unused places
abbrev pub unused : Step
unused = record { from = 0; action = 0; to = 0 }

abbrev pub blank : ℕ → ℕ → Row
blank n s = record { states = n; start = s; ways = replicate 32 Absent; count = 0; steps = replicate 256 unused; errors = replicate 64 false }

abbrev pub way_of : Row → ℕ → Way
way_of r a = cond (nat_le 1 a && nat_le a 32) (slice_index_or r.ways (a - 1) Absent) Absent

abbrev pub error_at : Row → ℕ → Bool
error_at r s = slice_index_or r.errors s false

-- as many as the row counts, and never more than there are places
abbrev pub listed : Row → List Step
listed r = take (min r.count 256) r.steps

abbrev pub same_step : Step → Step → Bool
same_step s t = s.from == t.from && (s.action == t.action && s.to == t.to)

abbrev pub told : Step → List Step → Bool
told s [] = false
told s (t ∷ ts) = same_step t s || told s ts

abbrev pub declared : Way → Bool
declared Absent = false
declared Input = true
declared Output = true

abbrev pub usable : Row → ℕ → Bool
usable r a = a == 0 || declared (way_of r a)

-- a step goes from a state to a state, under a usable action
abbrev pub fitting : Row → Step → Bool
fitting r s = nat_lt s.from r.states && (nat_lt s.to r.states && usable r s.action)

-- every step that the row tells is fitting
abbrev pub StepsFit : Row → Type 0
StepsFit r = (k : ℕ) → k < r.count → fitting r (slice_index_or r.steps k unused) ≡ true

-- every error that the row tells is a state
abbrev pub ErrorsFit : Row → Type 0
ErrorsFit r = (s : ℕ) → error_at r s ≡ true → s < r.states

abbrev pub Facts : Row → Type 0
Facts r = (1 ≤ r.states) × (r.states ≤ 64) × (r.start < r.states) × (r.count ≤ 256) × StepsFit r × ErrorsFit r
