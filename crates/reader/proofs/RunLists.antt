-- Bytes are read as a run exactly where they are one record that tells it.
use Rattle.std.proofs.Common.{◌≡◌, ℕ, zero, suc, ◌*◌, ◌/◌, ◌%◌, ◌<◌, ◌≤◌, eqb, leb, MatchResult, List, [], ◌∷◌, length, Some, None, Ok, Err, Option, Result, sym, refl, ap, ◌∙◌, inl, inr, ⊎_elim, arith}
use Rattle.std.proofs.lemmas.Bool.{cases_lt, cond_both, eqb-true, eqb-false, leb-true, leb-false}
use Rattle.std.proofs.lemmas.Bool.Decides.{nat_tests}
use Rattle.reader.specs.declared.evidence.EvidenceFault.{EvidenceFault}
use Rattle.reader.specs.declared.run.Ending.{Ending}
use Rattle.reader.specs.declared.run.Move.{Move}
use Rattle.reader.specs.declared.run.Run.{Run}
use Rattle.reader.specs.Record.{Records, none, next, front, records}
use Rattle.reader.specs.Run.{ending_of, moves_in, Told, alone, moved, embodied, recorded, run_in, outcome}
use Rattle.reader.specs.Evidence.{MovesTold, RunLaid, RunStands, RunBreaks}
use Rattle.reader.proofs.Records.{records-none, records-some, records-cut, records-next}

records_empty : (bytes : List ℕ) → records bytes ≡ none → length bytes ≡ 0
records_empty bytes e = grind (arith, cases_lt 0 (length bytes), records-some bytes)

-- bytes for n moves tell n moves
moves_told : (n : ℕ) (bytes : List ℕ) → length bytes ≡ 3 * n → MovesTold bytes (moves_in bytes) × (length (moves_in bytes) ≡ n)
moves_told zero [] h = (refl, refl)
moves_told (suc n) (a ∷ b ∷ c ∷ bytes) h =
    let more = moves_told n bytes (omega arith) in
    ((bytes, b, c, refl, refl, more.0), ap suc more.1)
moves_told n bytes h = absurd (omega arith)

told_moves : (ms : List Move) (bytes : List ℕ) → MovesTold bytes ms → (moves_in bytes ≡ ms) × (length bytes ≡ 3 * length ms)
told_moves [] bytes e = grind arith
told_moves (m ∷ ms) bytes (more, low, high, e, s, t) = grind (arith, told_moves ms more t)

-- what a result says of the records
abbrev RunRead : Records → Result Told EvidenceFault → Type 0
RunRead rs (Ok t) =
    (e : ℕ) × (i : ℕ) × (moves : List ℕ) × (rs ≡ next 18 (e ∷ i ∷ moves) none) × (ending_of e i ≡ Some t.0) × MovesTold moves t.1 × (length t.1 ≤ 4096)
RunRead rs (Err f) = RunStands f rs

module _ (bytes : List ℕ) (behind : List ℕ) where
  alone_read : (e i : ℕ) (moves : List ℕ) → records bytes ≡ next 18 (e ∷ i ∷ moves) (records behind) → length moves % 3 ≡ 0 → length moves / 3 ≤ 4096
      → (o : Option Ending) → ending_of e i ≡ o → RunRead (records bytes) (alone moves behind o)
  alone_read e i moves is div few None no_ending = (refl, (e, i, length moves / 3, records behind, (moves, is, omega arith), few, no_ending))
  alone_read e i moves is div few (Some ending) told =
      let n = length moves / 3 in
      let whole : length moves ≡ 3 * n = omega arith in
      cond_both (eqb (length behind) 0) _ _ (RunRead (records bytes))
      (λ t.
      let ms = moves_told n moves whole in
      let count = ms.1 in
      (e, i, moves, is ∙ ap (next 18 (e ∷ i ∷ moves)) (records-none behind (eqb-true (length behind) 0 t)), told, ms.0, omega arith))
      (λ t.
      let some = eqb-false (length behind) 0 t in
      (e, i, n, records behind, (moves, is, whole), few, records-some behind (omega arith), omega arith))

  moved_read : (e i : ℕ) (moves : List ℕ) → records bytes ≡ next 18 (e ∷ i ∷ moves) (records behind) → RunRead (records bytes) (moved e i moves behind)
  moved_read e i moves is =
      cond_both (eqb (length moves % 3) 0) _ _ (RunRead (records bytes))
      (λ t.
      let div = eqb-true (length moves % 3) 0 t in
      cond_both (leb (length moves / 3) 4096) _ _ (RunRead (records bytes))
      (λ u. alone_read e i moves is div (leb-true (length moves / 3) 4096 u) (ending_of e i) refl)
      (λ u. (e, i, records behind, (moves, is, omega arith), leb-false (length moves / 3) 4096 u)))
      (λ t.
      let odd = eqb-false (length moves % 3) 0 t in
      (refl, (e ∷ i ∷ moves, records behind, is, λ n h. odd (omega arith))))

  embodied_read : (body : List ℕ) → records bytes ≡ next 18 body (records behind) → RunRead (records bytes) (embodied body behind)
  embodied_read [] is = (refl, ([], records behind, is, λ n h. omega arith))
  embodied_read (e ∷ []) is = (refl, (e ∷ [], records behind, is, λ n h. omega arith))
  embodied_read (e ∷ i ∷ moves) is = moved_read e i moves is

run_read : (bytes : List ℕ) → RunRead (records bytes) (run_in bytes)
unfolding run_in
run_read bytes = go (front bytes) refl
  where
    go : (o : Option (ℕ × List ℕ × List ℕ)) → front bytes ≡ o → RunRead (records bytes) (recorded o)
    go None e =
        ⊎_elim
        (λ (some : 0 < length bytes). (refl, inr (records-cut bytes some e)))
        (λ (h : length bytes ≤ 0). (refl, inl (records-none bytes (omega arith))))
        (cases_lt 0 (length bytes))
    go (Some t) e =
        cond_both (eqb t.0 18) _ _ (RunRead (records bytes))
        (λ k. embodied_read bytes t.2 t.1 (records-next bytes t e ∙ ap (λ n. next n t.1 (records t.2)) (eqb-true t.0 18 k)))
        (λ k. (refl, (t.0, t.1, records t.2, records-next bytes t e, eqb-false t.0 18 k)))

pub run_laid : (bytes : List ℕ) (ending : Ending) (ms : List Move) → run_in bytes ≡ Ok (ending, ms) → RunLaid bytes ending ms
unfolding RunLaid
run_laid bytes ending ms e = rw e at (run_read bytes)

pub run_breaks : (bytes : List ℕ) (f : EvidenceFault) → run_in bytes ≡ Err f → RunBreaks bytes f
unfolding RunBreaks
run_breaks bytes f e = rw e at (run_read bytes)

pub laid_run : (bytes : List ℕ) (ending : Ending) (ms : List Move) → RunLaid bytes ending ms → run_in bytes ≡ Ok (ending, ms)
unfolding run_in RunLaid
laid_run bytes ending ms (e, i, moves, is, told, ts, few) = go (front bytes) refl
  where
    go : (o : Option (ℕ × List ℕ × List ℕ)) → front bytes ≡ o → recorded o ≡ Ok (ending, ms)
    go None f = absurd (grind (arith, cases_lt 0 (length bytes), records-none, records-cut))
    go (Some t) f =
        let same = sym (records-next bytes t f) ∙ is in
        let kind_is : t.0 ≡ 18 = cc same in
        let body_is : t.1 ≡ e ∷ i ∷ moves = cc same in
        let rest_is : records t.2 ≡ none = cc same in
        let empty = records_empty t.2 rest_is in
        let m = told_moves ms moves ts in
        let many = m.1 in
        rw (kind_is, body_is) (grind (arith, nat_tests))

-- what an answer says of the bytes
pub run_told : (bytes : List ℕ) (r : Result Run EvidenceFault) → outcome r ≡ run_in bytes → MatchResult r (λ run. RunLaid bytes run.ending run.moves.items) (λ f. RunBreaks bytes f)
run_told bytes (Ok run) e = run_laid bytes run.ending run.moves.items (sym e)
run_told bytes (Err f) e = run_breaks bytes f (sym e)
