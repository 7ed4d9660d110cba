-- What the records that a draft takes in look like, and what each makes of it.
use Rattle.std.proofs.Common.{◌≡◌, ℕ, ◌<◌, ◌≤◌, Bool, true, false, cond, ltb, ◌⊎◌, List, [], ◌∷◌, Ok, Err, refl, inl, inr, arith}
use Rattle.std.proofs.lemmas.Bool.{ltb-true}
use Rattle.std.proofs.lemmas.Bool.Decides.{nat_tests}
use Rattle.reader.specs.declared.fault.Fault.TheVariants.{Kind, Value, Repeated, Overfull}
use Rattle.reader.specs.declared.row.Row.{Row}
use Rattle.reader.specs.declared.row.Step.{Step}
use Rattle.reader.specs.declared.stage.Stage.{Stage}
use Rattle.reader.specs.declared.stage.Stage.TheVariants.{Head, Actions, Steps, Errors, Closed}
use Rattle.reader.specs.Row.{blank, way_of, error_at, listed, told, declared, fitting}
use Rattle.reader.specs.Draft.{with_way, with_step, with_error, headed, way_from, acted, stepped, failed, ended, due, staged, taken, entered}
use Rattle.reader.proofs.Outcomes.{cond_ok}

-- a record that passes, by its kind
pub data Entry (r : Row) (stage : Stage) (kind : ℕ) (body : List ℕ) (r' : Row) (stage' : Stage) : Type 0 where
  is_head : (n s : ℕ) → stage ≡ Head → kind ≡ 1 → body ≡ n ∷ s ∷ [] → 1 ≤ n → n ≤ 64 → s < n → r' ≡ blank n s → stage' ≡ Actions → Entry r stage kind body r' stage'
  is_action : (a w : ℕ) → due stage 2 ≡ true → kind ≡ 2 → body ≡ a ∷ w ∷ [] → 1 ≤ a → a ≤ 32 → declared (way_from w) ≡ true → declared (way_of r a) ≡ false → r' ≡ with_way r a (way_from w) → stage' ≡ Actions → Entry r stage kind body r' stage'
  is_step : (s : Step) → due stage 3 ≡ true → kind ≡ 3 → body ≡ s.from ∷ s.action ∷ s.to ∷ [] → fitting r s ≡ true → told s (listed r) ≡ false → r.count < 256 → r' ≡ with_step r s → stage' ≡ Steps → Entry r stage kind body r' stage'
  is_error : (s : ℕ) → due stage 4 ≡ true → kind ≡ 4 → body ≡ s ∷ [] → s < r.states → error_at r s ≡ false → r' ≡ with_error r s → stage' ≡ Errors → Entry r stage kind body r' stage'
  is_end : due stage 5 ≡ true → kind ≡ 5 → body ≡ [] → r' ≡ r → stage' ≡ Closed → Entry r stage kind body r' stage'

-- the tests that a step has passed
step_ok : (fit again room : Bool) (at : ℕ) (r : Row) (t : Row × Stage)
    → staged Steps (cond fit (cond again (Err (Repeated at)) (cond room (Ok r) (Err (Overfull at)))) (Err (Value at))) ≡ Ok t
    → (fit ≡ true) × (again ≡ false) × (room ≡ true) × (t.0 ≡ r) × (t.1 ≡ Steps)
step_ok fit again room at r t p = grind arith

module _ (r : Row) (stage : Stage) (at kind : ℕ) (t : Row × Stage) where
  head_entry : (body : List ℕ) → stage ≡ Head → kind ≡ 1 → staged Actions (headed at body) ≡ Ok t → Entry r stage kind body t.0 t.1
  head_entry (n ∷ s ∷ []) d k p =
      let f : (1 ≤ n) × (n ≤ 64) × (s < n) × (t.0 ≡ blank n s) × (t.1 ≡ Actions) = grind (arith, nat_tests) in
      is_head n s d k refl f.0 f.1 f.2 f.3 f.4
  head_entry body d k p = cc

  action_entry : (body : List ℕ) → due stage 2 ≡ true → kind ≡ 2 → staged Actions (acted r at body) ≡ Ok t → Entry r stage kind body t.0 t.1
  action_entry (a ∷ w ∷ []) d k p =
      let f : (1 ≤ a) × (a ≤ 32) × (declared (way_from w) ≡ true) × (declared (way_of r a) ≡ false) × (t.0 ≡ with_way r a (way_from w)) × (t.1 ≡ Actions) = grind (arith, nat_tests) in
      is_action a w d k refl f.0 f.1 f.2 f.3 f.4 f.5
  action_entry body d k p = cc

  step_entry : (body : List ℕ) → due stage 3 ≡ true → kind ≡ 3 → staged Steps (stepped r at body) ≡ Ok t → Entry r stage kind body t.0 t.1
  step_entry (f ∷ a ∷ g ∷ []) d k p =
      let s : Step = record { from = f; action = a; to = g } in
      let h = step_ok (fitting r s) (told s (listed r)) (ltb r.count 256) at (with_step r s) t p in
      is_step s d k refl h.0 h.1 (ltb-true r.count 256 h.2) h.3 h.4
  step_entry body d k p = cc

  error_entry : (body : List ℕ) → due stage 4 ≡ true → kind ≡ 4 → staged Errors (failed r at body) ≡ Ok t → Entry r stage kind body t.0 t.1
  error_entry (s ∷ []) d k p =
      let f : (s < r.states) × (error_at r s ≡ false) × (t.0 ≡ with_error r s) × (t.1 ≡ Errors) = grind (arith, nat_tests) in
      is_error s d k refl f.0 f.1 f.2 f.3
  error_entry body d k p = cc

  end_entry : (body : List ℕ) → due stage 5 ≡ true → kind ≡ 5 → staged Closed (ended r at body) ≡ Ok t → Entry r stage kind body t.0 t.1
  end_entry [] d k p = grind (arith, is_end)
  end_entry body d k p = cc

-- only kind 1 is due before the head, and kinds up to 5 later
due_kinds : (stage : Stage) (kind : ℕ) → due stage kind ≡ true → ((stage ≡ Head) × (kind ≡ 1)) ⊎ ((kind ≡ 2) ⊎ ((kind ≡ 3) ⊎ ((kind ≡ 4) ⊎ (kind ≡ 5))))
due_kinds stage kind d = grind (arith, nat_tests)

-- every record that is taken in is an entry
pub entry : (r : Row) (stage : Stage) (at kind : ℕ) (body : List ℕ) (t : Row × Stage) → entered r stage at kind body ≡ Ok t → Entry r stage kind body t.0 t.1
entry r stage at kind body t p =
    let (d, q) = cond_ok (due stage kind) (taken r at kind body) (Kind at) p in
    elim (due_kinds stage kind d) [
      | inl (s, k) ↦ head_entry r stage at kind t body s k (rw k at q)
      | inr (inl k) ↦ action_entry r stage at kind t body (rw k at d) k (rw k at q)
      | inr (inr (inl k)) ↦ step_entry r stage at kind t body (rw k at d) k (rw k at q)
      | inr (inr (inr (inl k))) ↦ error_entry r stage at kind t body (rw k at d) k (rw k at q)
      | inr (inr (inr (inr k))) ↦ end_entry r stage at kind t body (rw k at d) k (rw k at q)
    ]
