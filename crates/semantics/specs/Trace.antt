-- Runs e p w q       e can go from the state p to the state q by the word w, with internal steps anywhere
-- After e w q        e can be in the state q after the word w
-- Word e w           every letter of w is an input or an output of e
-- Outputs e w        every letter of w is an output of e
-- Prefix u w         w begins with u
-- prune e w          w without the outputs at its end
-- put b x w          x before w, unless b holds and w is empty
-- StrictError e w    e can be in an error after w
-- PrunedError e w    w begins with a pruned strict error trace
-- MissedInput e w    w begins with a word and an input that e, in some state after that word, does not accept
-- ErrorTrace e w     w is an error trace of e
-- Trace e w          w is a trace of e: e can go through it
-- Flooded e w        w is a flooded trace of e: a trace or an error trace
-- Illegal e p        e can get from p into an error by itself, by outputs and internal steps
use Rattle.std.specs.Prelude.{◌≡◌, ℕ, Bool, true, false, ◌≢◌, ◌⊎◌, List, [], ◌∷◌, ◌++◌}
use Rattle.std.specs.List.{AllByRecursion}
use Rattle.semantics.specs.declared.way.Way.TheVariants.{Absent, Input, Output}
use Rattle.semantics.specs.Way.{is_output}
use Rattle.semantics.specs.System.{System, accepts}

-- It stays where it is, or goes on after an internal step, or after a letter, which is no internal step.
pub data Runs (e : System) : ℕ → List ℕ → ℕ → Type 0 where
  here : {p : ℕ} → Runs e p [] p
  quiet : {p q r : ℕ} {w : List ℕ} → e.step p 0 q ≡ true → Runs e q w r → Runs e p w r
  letter : {p q r : ℕ} {w : List ℕ} (x : ℕ) → x ≢ 0 → e.step p x q ≡ true → Runs e q w r → Runs e p (x ∷ w) r

abbrev pub After : System → List ℕ → ℕ → Type 0
After e w q = Runs e e.start w q

abbrev pub Word : System → List ℕ → Type 0
Word e w = AllByRecursion (λ x. e.way x ≢ Absent) w

abbrev pub Outputs : System → List ℕ → Type 0
Outputs e w = AllByRecursion (λ x. e.way x ≡ Output) w

abbrev pub Prefix : List ℕ → List ℕ → Type 0
Prefix u w = (v : List ℕ) × (u ++ v ≡ w)

abbrev pub put : Bool → ℕ → List ℕ → List ℕ
put false x w = x ∷ w
put true x [] = []
put true x (y ∷ w) = x ∷ (y ∷ w)

-- letter by letter from the end: an output with nothing left behind it goes
abbrev pub prune : System → List ℕ → List ℕ
prune e [] = []
prune e (x ∷ w) = put (is_output (e.way x)) x (prune e w)

abbrev pub StrictError : System → List ℕ → Type 0
StrictError e w = (q : ℕ) × After e w q × (e.error q ≡ true)

abbrev pub PrunedError : System → List ℕ → Type 0
PrunedError e w = (v : List ℕ) × StrictError e v × Prefix (prune e v) w

abbrev pub MissedInput : System → List ℕ → Type 0
MissedInput e w =
    (u : List ℕ) × (x : ℕ) × Prefix (u ++ (x ∷ [])) w × (e.way x ≡ Input) × ((p : ℕ) × After e u p × (accepts e p x ≡ false))

abbrev pub ErrorTrace : System → List ℕ → Type 0
ErrorTrace e w = Word e w × (PrunedError e w ⊎ MissedInput e w)

abbrev pub Trace : System → List ℕ → Type 0
Trace e w = (q : ℕ) × After e w q

abbrev pub Flooded : System → List ℕ → Type 0
Flooded e w = Trace e w ⊎ ErrorTrace e w

abbrev pub Illegal : System → ℕ → Type 0
Illegal e p = (o : List ℕ) × (q : ℕ) × Runs e p o q × Outputs e o × (e.error q ≡ true)
