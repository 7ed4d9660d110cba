use Rattle.std.proofs.Common.{◌||◌, ◌==◌, sym, ap, ◌∙◌, inl, inr}
use Rattle.std.proofs.Math.Bool.{or-true, or-false}
use Rattle.std.proofs.lemmas.Bool.{eq-eqb, ne_eqb, cases_eq}
use Rattle.std.proofs.lemmas.Nat.Bits.{bit_at_set_same, bit_at_set_other}
use Rattle.std.specs.Int.{w64}
use Rattle.roster.specs.Bits.{bit}
use Rattle.roster.proofs.mask.with.Goals as goal

pub returns : goal.returns
returns c =
    let set = c.args.set in
    let k = c.args.number in
    λ q. elim (cases_eq k q) [
      | inl e ↦ rw (← e, eq-eqb k k) (ap (λ n. n == 1) (bit_at_set_same w64 set k c.requires) ∙ sym (or-true (bit set k)))
      | inr h ↦ ap (λ n. n == 1) (bit_at_set_other w64 set k c.requires q (λ e. h (sym e))) ∙ sym (ap (λ b. bit set q || b) (ne_eqb k q h) ∙ or-false (bit set q))
    ]
