use Prim.Native.Nat.{ℕ, ◌%◌}
use Rattle.ring.specs.Residue.{prime}
use Rattle.ring.proofs.Pairs.{Each}
use Rattle.ring.proofs.residue.reduce_all.Given as goal

abbrev pub invariant-loop-x : goal.invariant-loop-x
invariant-loop-x l = Each (λ (x : ℕ) (y : ℕ). x % prime l.which) l.initial.a l.initial.a l.x-index l.a
