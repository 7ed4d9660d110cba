use Rattle.std.proofs.Common.{◌≡◌, ◌++◌, drop, replicate, length, ap, ◌∙◌}
use Rattle.std.specs.Int.{from_le_bytes, w64}
use Rattle.reader.proofs.Numbers.{little_is}
use Rattle.reader.proofs.pair.little.Goals as goal

pub returns : goal.returns
returns c =
    let zeros = drop (length c.args.bytes.now) (replicate 8 0) in
    let read : c.from_le_bytes.result ≡ from_le_bytes w64 (c.copy_from_slice.new.self ++ zeros) = c.from_le_bytes.ensures in
    read ∙ ap (λ all. from_le_bytes w64 (all ++ zeros)) c.copy_from_slice.ensures.after ∙ little_is c.args.bytes.now c.requires
