use Rattle.std.proofs.Common.{◌≡◌, ◌+◌, ◌*◌, ◌++◌, length}
use Rattle.std.specs.Slice.Iter.{chunks_exact_rest, chunks_exact_size}
use Rattle.reader.specs.Run.{moves_in}
use Rattle.reader.proofs.run.read_moves.Given as goal

abbrev pub invariant-loop-chunk : goal.invariant-loop-chunk
invariant-loop-chunk l =
    (l.moves.items ++ moves_in (chunks_exact_rest l.chunk-iterator) ≡ moves_in l.bytes)
    × (3 * length l.moves.items + length (chunks_exact_rest l.chunk-iterator) ≡ length l.bytes)
    × (chunks_exact_size l.chunk-iterator ≡ 3)
