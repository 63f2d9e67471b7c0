use Prim.Native.Nat.{ℕ, ◌%◌}
use Rattle.ring.specs.Residue.{crt_of}
use Rattle.ring.proofs.Pairs.{Each}
use Rattle.ring.proofs.residue.combined.Given as goal

abbrev pub invariant-loop-i : goal.invariant-loop-i
invariant-loop-i l = Each (λ (x : ℕ) (y : ℕ). crt_of (x % 33292289) (y % 16515073)) l.initial.a l.b l.i l.a
