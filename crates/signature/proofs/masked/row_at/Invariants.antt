use Prim.Native.Nat.{◌*◌, ◌≤◌}
use Rattle.ring.specs.Rns.{words_of}
use Rattle.sharing.specs.Blocks.{build}
use Rattle.sharing.specs.Region.{span, Wrote}
use Rattle.signature.specs.MaskedSteps.{row_share}
use Rattle.signature.proofs.masked.row_at.Given as goal

abbrev pub invariant-loop-j : goal.invariant-loop-j
invariant-loop-j l =
    (l.j ≤ l.d) × Wrote 0 l.to (l.j * 512) (build l.j (row_share l.d l.l (span (words_of l.a) l.from (l.l * 512)) (span l.initial.s l.at (l.l * (l.d * 512))))) l.initial.s l.s
