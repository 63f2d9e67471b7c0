use Prim.Native.Nat.{◌*◌, ◌≤◌}
use Rattle.sharing.specs.Blocks.{build}
use Rattle.sharing.specs.Region.{Wrote}
use Rattle.sharing.proofs.Turns.{scratched}
use Rattle.sharing.proofs.encoding.add_scratch.Given as goal

abbrev pub invariant-loop-j : goal.invariant-loop-j
invariant-loop-j l = (l.j ≤ l.d) × Wrote 0 l.at (l.j * 512) (build l.j (scratched l.d l.at l.initial.s)) l.initial.s l.s
