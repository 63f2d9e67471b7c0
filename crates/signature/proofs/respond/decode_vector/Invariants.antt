use Prim.Native.Nat.{◌-◌, ◌*◌, ◌≤◌}
use Rattle.sharing.specs.Blocks.{block, build, total}
use Rattle.sharing.specs.Region.{span, Wrote}
use Rattle.signature.proofs.respond.decode_vector.Given as goal

abbrev pub invariant-loop-i : goal.invariant-loop-i
invariant-loop-i l = (l.i ≤ l.l) × Wrote 0 l.to (l.i * 512) (build l.i (λ j. total l.d (block (l.d * 512) j (span l.initial.s l.at (l.l * (l.d * 512)))))) l.initial.s l.s

abbrev pub decreases-loop-i : goal.decreases-loop-i
decreases-loop-i l = l.l - l.i
