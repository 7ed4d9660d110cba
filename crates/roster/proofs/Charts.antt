-- The sets of a chart, as steps go in.
use Rattle.std.proofs.Common.{◌≡◌, ℕ, ◌+◌, ◌*◌, ◌<◌, length, false, ◌&&◌, ◌||◌, eqb, List, replicate, get_or, set, sym, ap, ◌∙◌, inl, inr, arith, get_or-set_other}
use Rattle.std.proofs.lemmas.Bool.{and_right, cases_eq}
use Rattle.std.proofs.lemmas.Bool.Decides.{nat_tests}
use Rattle.std.proofs.lemmas.Nat.Bits.{bit_at-zero}
use Rattle.std.proofs.lemmas.Grind.{get_or-set_at}
use Rattle.reader.proofs.Rows.{get_or_alike}
use Rattle.reader.specs.declared.row.Step.{Step}
use Rattle.reader.specs.Row.{same_step}
use Rattle.roster.specs.Bits.{bit}
use Rattle.roster.specs.Moves.{in_chart, holds}

-- ---- what a chart holds

-- empty sets hold nothing
pub holds_none : (n p x q : ℕ) → holds (replicate n 0) p x q ≡ false
unfolding holds
holds_none n p x q =
    and_right (in_chart p x q) (bit (get_or (replicate n 0) (x * 64 + p) 0) q) (ap (λ m. bit m q) (get_or_alike n (x * 64 + p) 0) ∙ ap (λ m. eqb m 1) (bit_at-zero q))

-- ---- a step goes in

-- the numbers f, a and t of the step s went through casts, and v is the set for f and a with t more
pub holds_put : (sets : List ℕ) (s : Step) (f a t v : ℕ) → f ≡ s.from → a ≡ s.action → t ≡ s.to → f < 64 → a * 64 + f < length sets → ((q : ℕ) → bit v q ≡ (bit (get_or sets (a * 64 + f) 0) q || eqb t q)) → (p x q : ℕ)
    → holds (set sets (a * 64 + f) v) p x q ≡ (holds sets p x q || (in_chart p x q && same_step s (record { from = p; action = x; to = q })))
unfolding holds
holds_put sets s f a t v ef ea et low room more p x q =
    elim (cases_eq (a * 64 + f) (x * 64 + p)) [
      | inl e ↦ (let new = get_or-set_at sets (a * 64 + f) (x * 64 + p) v 0 (sym e) room in let bits = more q in grind (arith, nat_tests))
      | inr apart ↦ (let old = get_or-set_other sets (a * 64 + f) (x * 64 + p) v 0 (λ e. apart (sym e)) in grind (arith, nat_tests))
    ]
