-- Content               what the records of a table tell, in the order of telling
-- Lawful c              the limits and facts that every content keeps
-- records_of c          the records that tell the content c: a head, actions, steps, errors and an end
-- row_of c              the row that holds the content c
-- LaidOut bytes r       the bytes are the records of a lawful content, and r is its row
-- Begins front          some records with which the bytes of a table can begin
-- Breaks bytes f        the fault f points at the first record that breaks the layout
use Rattle.std.specs.Prelude.{◌≡◌, ℕ, zero, suc, ◌-◌, ◌<◌, ◌≤◌, Bool, true, false, cond, ◌&&◌, ◌||◌, ◌⊎◌, List, [], ◌∷◌, ◌++◌, length, replicate, ◌==◌, ◌≢◌, nat_lt}
use Rattle.std.specs.List.{AllByRecursion}
use Rattle.semantics.specs.declared.way.Way.{Way}
use Rattle.semantics.specs.declared.way.Way.TheVariants.{Absent}
use Rattle.semantics.specs.Way.{number}
use Rattle.reader.specs.declared.fault.Fault as faults
use Rattle.reader.specs.declared.fault.Fault.TheVariants.{Cut, Kind, Length, Value, Repeated, Overfull, Trailing}
use Rattle.reader.specs.declared.row.Row.{Row}
use Rattle.reader.specs.declared.row.Step.{Step}
use Rattle.reader.specs.Fault.{place}
use Rattle.reader.specs.Record.{Records, none, cut, next, records, followed, sizes}
use Rattle.reader.specs.Row.{unused, declared}

-- an action by its number, with its way
pub record Action : Type 0 where
  pub action : ℕ
  pub way : Way

pub record Content : Type 0 where
  pub states : ℕ
  pub start : ℕ
  pub actions : List Action
  pub steps : List Step
  pub errors : List ℕ

-- no two elements agree in f
abbrev pub Once : {X Y : Type 0} → (X → Y) → List X → Type 0
Once f [] = Unit {0}
Once f (x ∷ xs) = AllByRecursion (λ y. f y ≢ f x) xs × Once f xs

-- the way that a list of actions gives a number
abbrev pub way_in : ℕ → List Action → Way
way_in n [] = Absent
way_in n (a ∷ rest) = cond (n == a.action) a.way (way_in n rest)

-- a step goes from a state to a state, and its action is internal or declared
abbrev pub fits : Content → Step → Bool
fits c s = nat_lt s.from c.states && (nat_lt s.to c.states && (s.action == 0 || declared (way_in s.action c.actions)))

pub record Lawful (c : Content) : Type 0 where
  pub some : 1 ≤ c.states
  pub few : c.states ≤ 64
  pub begins : c.start < c.states
  pub actions_fit : AllByRecursion (λ a. (1 ≤ a.action) × (a.action ≤ 32) × (declared a.way ≡ true)) c.actions
  pub actions_once : Once (λ a. a.action) c.actions
  pub steps_fit : AllByRecursion (λ s. fits c s ≡ true) c.steps
  pub steps_once : Once (λ s. s) c.steps
  pub steps_few : length c.steps ≤ 256
  pub errors_fit : AllByRecursion (λ s. s < c.states) c.errors
  pub errors_once : Once (λ s. s) c.errors

-- one record of a kind for each element
abbrev pub telling : {X : Type 0} → ℕ → (X → List ℕ) → List X → Records → Records
telling kind body [] rest = rest
telling kind body (x ∷ xs) rest = next kind (body x) (telling kind body xs rest)

abbrev pub action_body : Action → List ℕ
action_body a = a.action ∷ number a.way ∷ []

abbrev pub step_body : Step → List ℕ
step_body s = s.from ∷ s.action ∷ s.to ∷ []

abbrev pub error_body : ℕ → List ℕ
error_body s = s ∷ []

abbrev pub closing : Records
closing = next 5 [] none

abbrev pub records_of : Content → Records
records_of c = next 1 (c.states ∷ c.start ∷ []) (telling 2 action_body c.actions (telling 3 step_body c.steps (telling 4 error_body c.errors closing)))

-- the values of f at 0, 1, .. below n
unfoldable pub tabled : {X : Type 0} → ℕ → (ℕ → X) → List X
tabled zero f = []
tabled (suc n) f = f 0 ∷ tabled n (λ i. f (suc i))

abbrev pub member : ℕ → List ℕ → Bool
member n [] = false
member n (m ∷ ms) = n == m || member n ms

-- ways and errors stand at the places of their numbers, and steps in the order of telling
abbrev pub row_of : Content → Row
row_of c = record {
  states = c.states;
  start = c.start;
  ways = tabled 32 (λ i. way_in (suc i) c.actions);
  count = length c.steps;
  steps = c.steps ++ replicate (256 - length c.steps) unused;
  errors = tabled 64 (λ s. member s c.errors);
}

-- some records are those of a lawful content, and r is its row
abbrev pub Lays : Records → Row → Type 0
Lays rs r = (c : Content) × Lawful c × (rs ≡ records_of c) × (r ≡ row_of c)

unfoldable pub LaidOut : List ℕ → Row → Type 0
LaidOut bytes r = Lays (records bytes) r

abbrev pub Begins : List (ℕ × List ℕ) → Type 0
Begins front = (more : Records) × (r : Row) × Lays (followed front more) r

-- what stands behind the records in front: a whole record with which no table goes on
abbrev pub Stray : List (ℕ × List ℕ) → Records → Type 0
Stray front rest =
    (kind : ℕ) × (body : List ℕ) × (more : Records) × (rest ≡ next kind body more) × (Begins (front ++ (kind, body) ∷ []) → ⊥)

-- 1: no whole record stands there; 7: a table is complete, and bytes follow; else: a record that no table has there
abbrev pub Stands : faults.Fault → List (ℕ × List ℕ) → Records → Type 0
Stands (Cut at) front rest = (rest ≡ none) ⊎ (rest ≡ cut)
Stands (Kind at) front rest = Stray front rest
Stands (Length at) front rest = Stray front rest
Stands (Value at) front rest = Stray front rest
Stands (Repeated at) front rest = Stray front rest
Stands (Overfull at) front rest = Stray front rest
Stands (Trailing at) front rest = ((r : Row) × Lays (followed front none) r) × (rest ≢ none)

-- the records in front begin a table, the place is where they end, and what stands there is at fault
unfoldable pub Breaks : List ℕ → faults.Fault → Type 0
Breaks bytes f =
    (front : List (ℕ × List ℕ)) × (rest : Records) × (records bytes ≡ followed front rest) × (sizes front ≡ place f) × Begins front × Stands f front rest
