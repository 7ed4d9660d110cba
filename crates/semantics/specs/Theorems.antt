-- What this crate proves, for systems with any finite number of states and any finite set of actions. Each statement is
-- the contract of a public function.
use Rattle.std.specs.Prelude.{◌≡◌, ℕ, Bool, true, ◌||◌, ◌⊎◌, ◌↔◌, List, [], ◌++◌}
use Rattle.semantics.specs.System.{System, WellFormed, Same}
use Rattle.semantics.specs.Trace.{Runs, After, Word, Outputs, Prefix, prune, MissedInput, ErrorTrace, Trace, Illegal}
use Rattle.semantics.specs.Replacement.{MayReplace}
use Rattle.semantics.specs.Coupling.{Composable, couple, IsCoupling}
use Rattle.semantics.specs.Deciding.{moved, reach, after, illegal, is_trace, is_error_trace}

-- Where a may replace b, a coupled with c may replace b coupled with c, and c coupled with a may replace c coupled with
-- b. (b has the ways of a, so c is composable with b as well.)
abbrev pub CouplingPreservesReplacement : Type 0
CouplingPreservesReplacement =
    (a b c : System) → WellFormed a → WellFormed b → WellFormed c → Composable a c → MayReplace a b
    → MayReplace (couple a c) (couple b c) × MayReplace (couple c a) (couple c b)

-- Replacement is a preorder: every system may replace itself, and replacements chain.
abbrev pub ReplacementIsReflexive : Type 0
ReplacementIsReflexive = (a : System) → MayReplace a a

abbrev pub ReplacementChains : Type 0
ReplacementChains = (a b c : System) → MayReplace a b → MayReplace b c → MayReplace a c

-- A coupling is well formed, and is the coupling in the words of `IsCoupling`.
abbrev pub CouplingIsWellFormed : Type 0
CouplingIsWellFormed = (a b : System) → WellFormed a → WellFormed b → WellFormed (couple a b)

abbrev pub CouplingGoesStateByState : Type 0
CouplingGoesStateByState = (a b : System) → WellFormed a → WellFormed b → IsCoupling a b (couple a b)

-- Nothing else is: a well-formed system that is the coupling of a and b, state by state, is the same as `couple a b`.
abbrev pub CouplingIsDetermined : Type 0
CouplingIsDetermined =
    (a b c : System) → WellFormed a → WellFormed b → WellFormed c → IsCoupling a b c → Same c (couple a b)

-- A word is an error trace exactly where some prefix of it can lead to an illegal state, or an input of it is missed.
abbrev pub ErrorTracesByIllegalStates : Type 0
ErrorTracesByIllegalStates =
    (e : System) (w : List ℕ)
    → ErrorTrace e w ↔ (Word e w × (((u : List ℕ) × (p : ℕ) × Prefix u w × After e u p × Illegal e p) ⊎ MissedInput e w))

-- An error trace stays one when outputs at its end are dropped, and so when it is pruned.
abbrev pub ErrorTracesLoseOutputs : Type 0
ErrorTracesLoseOutputs =
    (e : System) (w : List ℕ)
    → ((o : List ℕ) → Outputs e o → ErrorTrace e (w ++ o) → ErrorTrace e w) × (ErrorTrace e w → ErrorTrace e (prune e w))

-- An error trace stays one when letters are added.
abbrev pub ErrorTracesGainLetters : Type 0
ErrorTracesGainLetters = (e : System) (w v : List ℕ) → Word e v → ErrorTrace e w → ErrorTrace e (w ++ v)

-- The sets of states are what runs say.
abbrev pub SetsAreExact : Type 0
SetsAreExact =
    (e : System) → WellFormed e
    → ((X : ℕ → Bool) (q : ℕ) → (reach e X q ≡ true) ↔ ((p : ℕ) × (X p ≡ true) × Runs e p [] q))
    × ((w : List ℕ) (q : ℕ) → Word e w → (after e w q ≡ true) ↔ After e w q)
    × ((p : ℕ) → (illegal e p ≡ true) ↔ Illegal e p)

-- reach X is X if internal steps from X stay in X, and in any case reach of X with its internal successors.
abbrev pub ReachKeepsItsRules : Type 0
ReachKeepsItsRules =
    (e : System) → WellFormed e → (X : ℕ → Bool)
    → (((p q : ℕ) → X p ≡ true → e.step p 0 q ≡ true → X q ≡ true) → (q : ℕ) → reach e X q ≡ X q)
    × ((q : ℕ) → reach e X q ≡ reach e (λ p. X p || moved e X 0 p) q)

-- Whether a word is a trace, and whether it is an error trace, is decided along the word.
abbrev pub WordsAreDecided : Type 0
WordsAreDecided =
    (e : System) → WellFormed e → (w : List ℕ) → ((is_trace e w ≡ true) ↔ Trace e w) × ((is_error_trace e w ≡ true) ↔ ErrorTrace e w)
