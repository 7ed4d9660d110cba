-- Where no step is told, none is printed.
use Rattle.std.proofs.Common.{◌≡◌, ◌==◌, ◌&&◌, ℕ, zero, suc, true, false, List, [], ◌∷◌, refl, sym, ◌∙◌, arith}
use Rattle.std.specs.List.{list_any}
use Rattle.std.proofs.lemmas.Bool.{false_from_ne_true, false≢true}
use Rattle.reader.specs.declared.row.Row.{Row}
use Rattle.reader.specs.declared.row.Step.{Step}
use Rattle.reader.specs.Row.{listed, told}
use Rattle.printing.specs.Text.{each, step_of}

-- a step that is told leaves its state under its action
told_leaves : (s : Step) (steps : List Step) → told s steps ≡ true → list_any (λ t. t.from == s.from && t.action == s.action) steps ≡ true
told_leaves s [] e = absurd (false≢true e)
told_leaves s (t ∷ steps) e = grind (arith, told_leaves s steps)

-- so where no step leaves a state under an action, nothing is printed of the steps from it under that action
pub none_under : (r : Row) (f a : ℕ) → list_any (λ t. t.from == f && t.action == a) (listed r) ≡ false → (n : ℕ) → each n (λ t. step_of r f a t) ≡ []
unfolding each
none_under r f a none zero = refl
none_under r f a none (suc n) =
    let here = false_from_ne_true (told (record { from = f; action = a; to = n }) (listed r)) (λ e. false≢true (sym none ∙ told_leaves (record { from = f; action = a; to = n }) (listed r) e)) in
    rw here (rw (none_under r f a none n) refl)
