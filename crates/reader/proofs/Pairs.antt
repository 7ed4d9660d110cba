-- The records of a certificate, one by one.
use Rattle.std.proofs.Common.{◌≡◌, ℕ, ◌+◌, ◌<◌, ◌≤◌, List, [], ◌∷◌, ◌++◌, length, Some, None, Ok, Err, refl, ap, arith}
use Rattle.std.proofs.lemmas.Bool.Decides.{nat_tests}
use Rattle.reader.specs.declared.fault.Fault.{Fault}
use Rattle.reader.specs.declared.fault.Fault.TheVariants.{Cut}
use Rattle.reader.specs.declared.evidence.EvidenceFault.TheVariants.{Record, Pairs}
use Rattle.reader.specs.declared.pair.Pair.{Pair}
use Rattle.reader.specs.Record.{Records, none, front, records, size_of}
use Rattle.reader.specs.Pairs.{pair_of, gather}
use Rattle.reader.proofs.Records.{records-none, records-some, records-cut, records-next}

-- a pair's record takes at most 14 bytes
pub pair_short : (at kind : ℕ) (body : List ℕ) (p : Pair) → pair_of at kind body ≡ Ok p → length body ≤ 10
pair_short at kind body p e = grind (arith, nat_tests)

module _ (ps : List Pair) (at : ℕ) (bytes : List ℕ) where
  -- no byte is left
  pub gather_done : length bytes ≡ 0 → gather ps at (records bytes) ≡ Ok ps
  unfolding gather
  gather_done h = ap (gather ps at) (records-none bytes h)

  -- a byte too much
  pub gather_full : 0 < length bytes → 4096 ≤ length ps → gather ps at (records bytes) ≡ Err Pairs
  unfolding gather
  gather_full some full = go (records bytes) (records-some bytes some)
    where
      go : (rs : Records) → (rs ≡ none → ⊥) → gather ps at rs ≡ Err Pairs
      go none h = absurd (h refl)
      go rs h = grind (arith, nat_tests)

  -- an incomplete record
  pub gather-cut : 0 < length bytes → length ps < 4096 → front bytes ≡ None → gather ps at (records bytes) ≡ Err (Record (Cut at))
  unfolding gather
  gather-cut some room e = grind (arith, nat_tests, records-cut bytes some e)

  -- a whole record
  pub gather_refused : (t : ℕ × List ℕ × List ℕ) (f : Fault) → length ps < 4096 → front bytes ≡ Some t → pair_of at t.0 t.1 ≡ Err f → gather ps at (records bytes) ≡ Err (Record f)
  unfolding gather
  gather_refused t f room e q = grind (arith, nat_tests, records-next bytes t e)

  pub gather_more : (t : ℕ × List ℕ × List ℕ) (p : Pair) → length ps < 4096 → front bytes ≡ Some t → pair_of at t.0 t.1 ≡ Ok p → gather ps at (records bytes) ≡ gather (ps ++ p ∷ []) (at + size_of t.1) (records t.2)
  unfolding gather
  gather_more t p room e q = grind (arith, nat_tests, records-next bytes t e)
