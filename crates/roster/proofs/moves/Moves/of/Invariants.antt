use Rattle.std.proofs.Common.{◌≡◌, ℕ, drop, ◌&&◌, ◌||◌}
use Rattle.reader.specs.Row.{listed, told}
use Rattle.roster.specs.Moves.{in_chart, holds}
use Rattle.roster.proofs.moves.Moves.of.Given as goal

-- what the row tells is held already, or still to come
abbrev pub invariant-loop-step : goal.invariant-loop-step
invariant-loop-step l =
    (p x q : ℕ) → (in_chart p x q && told (record { from = p; action = x; to = q }) (listed l.row))
    ≡ (holds l.moves.sets p x q || (in_chart p x q && told (record { from = p; action = x; to = q }) (drop l.step-index l.step-items)))
