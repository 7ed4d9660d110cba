-- What a record does to a draft.
use Rattle.std.proofs.Common.{◌≡◌, ℕ, ◌<◌, ◌≤◌, List, [], ◌∷◌, length, get_or, Ok, arith}
use Rattle.std.proofs.lemmas.Bool.Decides.{nat_tests}
use Rattle.reader.specs.Row.{blank}
use Rattle.reader.specs.Draft.{headed}

-- a head whose values lie in their ranges
pub headed_fits : (at : ℕ) (body : List ℕ) → length body ≡ 2 → 1 ≤ get_or body 0 0 → get_or body 0 0 ≤ 64 → get_or body 1 0 < get_or body 0 0 → headed at body ≡ Ok (blank (get_or body 0 0) (get_or body 1 0))
headed_fits at (n ∷ b ∷ []) h l u s = grind (arith, nat_tests)
headed_fits at body h l u s = absurd (omega arith)
