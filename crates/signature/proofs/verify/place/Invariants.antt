use Prim.Native.Nat.{ℕ, ◌-◌, ◌≤◌}
use Rattle.ring.specs.Words.{q}
use Rattle.ring.specs.Round.{residues}
use Rattle.ring.specs.Transform.{ntt}
use Rattle.sharing.specs.Blocks.{block}
use Rattle.signature.proofs.InResidues.{InResidues}
use Rattle.signature.proofs.verify.place.Given as goal

abbrev pub invariant-loop-i : goal.invariant-loop-i
invariant-loop-i l = (l.i ≤ l.l) × InResidues 0 l.i (λ (j : ℕ). ntt (block 512 j (residues q l.z))) l.initial.out l.out

abbrev pub decreases-loop-i : goal.decreases-loop-i
decreases-loop-i l = l.l - l.i
