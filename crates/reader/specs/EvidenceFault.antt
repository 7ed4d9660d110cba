-- number f    the number by which the fault f of evidence is told
-- place f     what f points at: an offset, the most pairs that are read, or how many moves there are
use Rattle.std.specs.Prelude.{ℕ}
use Rattle.reader.specs.Fault as low
use Rattle.reader.specs.declared.evidence.EvidenceFault.{EvidenceFault}
use Rattle.reader.specs.declared.evidence.EvidenceFault.TheVariants.{Record, Pairs, Moves}

abbrev pub number : EvidenceFault → ℕ
number (Record f) = low.number f
number Pairs = 14
number (Moves n) = 24

abbrev pub place : EvidenceFault → ℕ
place (Record f) = low.place f
place Pairs = 4096
place (Moves n) = n
