-- Runs put together and taken apart.
use Rattle.std.proofs.Common.{◌≡◌, ℕ, ◌<◌, true, ◌≢◌, List, [], ◌∷◌, ◌++◌, inl, inr}
use Rattle.semantics.specs.System.{System, WellFormed}
use Rattle.semantics.specs.Trace.{Runs, here, quiet, letter, Word}

pub runs_append : {e : System} {p q r : ℕ} {u v : List ℕ} → Runs e p u q → Runs e q v r → Runs e p (u ++ v) r
runs_append here t = t
runs_append (quiet s r) t = quiet s (runs_append r t)
runs_append (letter x n s r) t = letter x n s (runs_append r t)

-- the states before and behind the first letter
pub runs_letter : {e : System} {p r x : ℕ} {w : List ℕ} → Runs e p (x ∷ w) r
    → (q : ℕ) × (q' : ℕ) × Runs e p [] q × (x ≢ 0) × (e.step q x q' ≡ true) × Runs e q' w r
runs_letter (quiet s t) = let (q, q', a, n, b, c) = runs_letter t in (q, q', quiet s a, n, b, c)
runs_letter {p = p} (letter {q = q} x n s t) = (p, q, here, n, s, t)

pub runs_split : {e : System} {p r : ℕ} (u v : List ℕ) → Runs e p (u ++ v) r → (q : ℕ) × Runs e p u q × Runs e q v r
runs_split {p = p} [] v t = (p, here, t)
runs_split {e} {p} {r} (x ∷ u) v t =
    let (q, q', a, n, s, b) = runs_letter t in
    let (m, c, d) = runs_split {e = e} {p = q'} {r = r} u v b in
    (m, runs_append a (letter x n s c), d)

-- a run ends in a state
pub runs_in : {e : System} → WellFormed e → {p q : ℕ} {w : List ℕ} → p < e.states → Runs e p w q → q < e.states
runs_in wf h here = h
runs_in wf h (quiet {p = p} {q = q} s t) = runs_in wf (wf.to_in p 0 q s) t
runs_in wf h (letter {p = p} {q = q} x n s t) = runs_in wf (wf.to_in p x q s) t

-- a run that ends in a state began in one
pub runs_from : {e : System} → WellFormed e → {p q : ℕ} {w : List ℕ} → q < e.states → Runs e p w q → p < e.states
runs_from wf h here = h
runs_from wf h (quiet {p = p} {q = q} s t) = wf.from_in p 0 q s
runs_from wf h (letter {p = p} {q = q} x n s t) = wf.from_in p x q s

-- what a run goes through is a word
pub runs_word : {e : System} → WellFormed e → {p q : ℕ} {w : List ℕ} → Runs e p w q → Word e w
runs_word wf here = tt
runs_word wf (quiet s t) = runs_word wf t
runs_word wf (letter {p = p} {q = q} x n s t) = (elim (wf.named p x q s) [ inl z ↦ absurd (n z) | inr h ↦ h ], runs_word wf t)
