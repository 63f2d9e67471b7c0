use Prim.Native.Nat.{ℕ, ◌+◌, ◌*◌}
use Rattle.ring.specs.Residue.{prime, up, down}
use Rattle.ring.proofs.LoosePairs.{LoosePaired}
use Rattle.ring.proofs.residue.split.Given as goal

abbrev pub invariant-loop-i : goal.invariant-loop-i
invariant-loop-i l = LoosePaired (prime l.which) (λ (m : ℕ). m + 2 * prime l.which) (up (prime l.which) l.w) (down (prime l.which) l.w) l.h l.initial.a l.i l.a
