-- Numbers that are those of no kind and of no way.
use Rattle.std.proofs.Common.{◌≡◌, ℕ, ◌≢◌, false, List, Err, arith}
use Rattle.semantics.specs.declared.way.Way as ways
use Rattle.semantics.specs.declared.way.Way.TheVariants.{Input, Output}
use Rattle.semantics.specs.Way.{number as way_number}
use Rattle.reader.specs.declared.kind.Kind as kinds
use Rattle.reader.specs.declared.kind.Kind.TheVariants.{Head, Action, Step, Error, End, NarrowPair, WidePair, Run}
use Rattle.reader.specs.declared.stage.Stage.{Stage}
use Rattle.reader.specs.declared.fault.Fault.TheVariants.{Kind}
use Rattle.reader.specs.Kind.{number}
use Rattle.reader.specs.Row.{declared}
use Rattle.reader.specs.Draft.{due, way_from}
use Rattle.reader.specs.Pairs.{pair_of}

-- records of no kind
module _ (n : ℕ) (none : (k : kinds.Kind) → number k ≢ n) where
  -- may stand at no stage
  pub undue : (stage : Stage) → due stage n ≡ false
  undue stage = grind (arith, none Head, none Action, none Step, none Error, none End)

  -- and tell no pair
  pub no_pair : (at : ℕ) (body : List ℕ) → pair_of at n body ≡ Err (Kind at)
  no_pair at body = grind (arith, none NarrowPair, none WidePair)

-- a number that is that of no way tells none
pub no_way : (n : ℕ) → ((w : ways.Way) → way_number w ≢ n) → declared (way_from n) ≡ false
no_way n none = grind (arith, none Input, none Output)

-- the number of a kind that is no run
pub no_run : (k : kinds.Kind) (n : ℕ) → (k ≡ Run → ⊥) → number k ≡ n → n ≡ 18 → ⊥
no_run k n other is same = grind arith
