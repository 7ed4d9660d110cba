-- Listed T           a list of at most 4,096 things of T, with the proof that there are no more
-- listed_code        its code: what is listed tells it whole, since a bound has one proof
use Rattle.std.specs.Prelude.{◌≡◌, ◌≤◌, List, length}
use Rattle.std.specs.Coded.{Coded, coded_list, le_prop}
use mathlib.Core.HLevel.{Σ_prop_path}
use base.Stored.{coded_via}

pub record Listed (T : Type 0) : Type 0 where
  pub items : List T
  pub few : length items ≤ 4096

module _ {T : Type 0} where
  pub same_items : (l m : Listed T) → l.items ≡ m.items → l ≡ m
  same_items l m e =
      let pairs : ◌≡◌ {A = (xs : List T) × (length xs ≤ 4096)} (l.items, l.few) (m.items, m.few) = Σ_prop_path (λ xs. le_prop) e in
      λ i. record { items = (pairs i).0; few = (pairs i).1 }

  abbrev pub listed_code : Coded T → Coded (Listed T)
  listed_code code = coded_via (coded_list code) (λ l. l.items) same_items
