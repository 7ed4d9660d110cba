-- Ways told apart, alone and in a coupling.
use Rattle.std.proofs.Common.{◌≡◌, ℕ, true, ◌||◌, ◌≢◌, ◌⊎◌, ap, ◌∙◌, arith}
use Rattle.semantics.specs.declared.way.Way.{Way}
use Rattle.semantics.specs.declared.way.Way.TheVariants.{Absent, Input, Output}
use Rattle.semantics.specs.Way.{is_input, is_output}
use Rattle.semantics.specs.System.{System, WellFormed}
use Rattle.semantics.specs.Coupling.{Synced, joined, sends, synced}

pub input≢absent : Input ≢ Absent
input≢absent e = cc

pub output≢absent : Output ≢ Absent
output≢absent e = cc

pub input_present : {w : Way} → w ≡ Input → w ≢ Absent
input_present h z = cc

pub output_present : {w : Way} → w ≡ Output → w ≢ Absent
output_present h z = cc

-- the internal action has no way
pub present_nonzero : {e : System} → WellFormed e → {x : ℕ} → e.way x ≢ Absent → x ≢ 0
present_nonzero {e} wf {x} h z = h (ap e.way z ∙ wf.internal)

pub input_view : (w : Way) → is_input w ≡ true → w ≡ Input
input_view w h = grind arith

pub output_view : (w : Way) → is_output w ≡ true → w ≡ Output
output_view w h = grind arith

pub present_view : (w : Way) → (is_input w || is_output w) ≡ true → w ≢ Absent
present_view w h = grind arith

pub present_make : (w : Way) → w ≢ Absent → (is_input w || is_output w) ≡ true
present_make w h = grind arith

-- ---- two ways, as a coupling has them

pub synced_swap : {v w : Way} → Synced v w → Synced w v
synced_swap h = grind arith

pub synced_present : {v w : Way} → Synced v w → v ≢ Absent
synced_present h z = grind arith

pub sends_view : (v w : Way) → sends v w ≡ true → (v ≡ Output) × (w ≡ Input)
sends_view v w e = grind arith

pub sends_make : {v w : Way} → v ≡ Output → w ≡ Input → sends v w ≡ true
sends_make h k = rw (h, k)

pub synced_view : (v w : Way) → synced v w ≡ true → Synced v w
synced_view v w e = grind arith

pub synced_make : {v w : Way} → Synced v w → synced v w ≡ true
synced_make h = grind arith

-- an action that the other part does not have is not synchronised
pub lone_left : {v w : Way} → w ≡ Absent → Synced v w → ⊥
lone_left a s = grind arith

-- an action of one part that is not synchronised is none of the other
pub lone : (v w : Way) → v ≢ Absent → (v ≡ Input → w ≡ Input → ⊥) → (v ≡ Output → w ≡ Output → ⊥) → (Synced v w → ⊥) → w ≡ Absent
lone v w h i o n = grind arith

pub joined_comm : (v w : Way) → joined v w ≡ joined w v
joined_comm v w = grind arith

-- an action that is not synchronised stays
pub joined_present : (v w : Way) → v ≢ Absent → (Synced v w → ⊥) → joined v w ≢ Absent
joined_present v w h n e = grind arith

pub joined_from : (v w : Way) → joined v w ≢ Absent → (v ≢ Absent) ⊎ (w ≢ Absent)
joined_from v w h = grind arith

-- an input of the coupling is an input of just one part
pub joined_input : (v w : Way) → (v ≡ Input → w ≡ Input → ⊥) → joined v w ≡ Input → ((v ≡ Input) × (w ≡ Absent)) ⊎ ((v ≡ Absent) × (w ≡ Input))
joined_input v w i e = grind arith
