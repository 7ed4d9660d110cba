-- Results that are an Ok or an Err.
use Rattle.std.proofs.Common.{◌≡◌, Bool, true, false, cond, Ok, Err, Result, refl}

module _ {T E : Type 0} where
  -- a test that had to pass
  pub cond_ok : (b : Bool) (o : Result T E) (e : E) {x : T} → cond b o (Err e) ≡ Ok x → (b ≡ true) × (o ≡ Ok x)
  cond_ok true o e p = (refl, p)
  cond_ok false o e p = cc

  -- a test that had to fail
  pub cond_not_ok : (b : Bool) (o : Result T E) (e : E) {x : T} → cond b (Err e) o ≡ Ok x → (b ≡ false) × (o ≡ Ok x)
  cond_not_ok true o e p = cc
  cond_not_ok false o e p = (refl, p)
