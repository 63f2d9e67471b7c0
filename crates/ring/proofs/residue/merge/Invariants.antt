use Prim.Native.Nat.{ℕ, ◌*◌}
use Rattle.ring.specs.Residue.{prime, join, part}
use Rattle.ring.proofs.LoosePairs.{LoosePaired}
use Rattle.ring.proofs.residue.merge.Given as goal

abbrev pub invariant-loop-i : goal.invariant-loop-i
invariant-loop-i l = LoosePaired (prime l.which) (λ (m : ℕ). 2 * m) (join (prime l.which)) (part (prime l.which) l.w) l.h l.initial.a l.i l.a
