use Prim.Native.Nat.{ℕ, ◌-◌, ◌*◌, ◌≤◌}
use Rattle.ring.specs.Transform.{ntt}
use Rattle.sharing.specs.Blocks.{block}
use Rattle.sharing.specs.Region.{span}
use Rattle.signature.proofs.InResidues.{InResidues}
use Rattle.signature.proofs.vector.ntt_to.Given as goal

abbrev pub invariant-loop-i : goal.invariant-loop-i
invariant-loop-i l = (l.i ≤ l.n) × InResidues 0 l.i (λ (j : ℕ). ntt (block 512 j (span l.s l.at (l.n * 512)))) l.initial.out l.out

abbrev pub decreases-loop-i : goal.decreases-loop-i
decreases-loop-i l = l.n - l.i
