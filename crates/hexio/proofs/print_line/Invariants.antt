-- The digits of the parts so far are written, and those of the rest are all that is still to come.
use Rattle.std.proofs.Common.{◌≡◌, ℕ, List, ◌++◌}
use Rattle.std.specs.Slice.Iter.{chunks_rest, chunks_size}
use Rattle.std.specs.Io.KnownBytes.{Appends}
use Rattle.hex.specs.Hex.{encode_lower}
use Rattle.hexio.proofs.print_line.Given as goal

abbrev pub invariant-loop-part : goal.invariant-loop-part
invariant-loop-part g l =
    (goal.iterator-loop-part g).can_next l.part-iterator
    × (goal.iterator-loop-part g).is_finite l.part-iterator
    × (chunks_size l.part-iterator ≡ 64)
    × (done : List ℕ) × Appends (g.W.Write.contents l.initial.to) (g.W.Write.contents l.to) done
    × (done ++ encode_lower (chunks_rest l.part-iterator) ≡ encode_lower l.s)
