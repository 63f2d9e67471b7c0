use Prim.Native.Nat.{ℕ, ◌+◌, ◌*◌, ◌^◌}
use Rattle.ring.proofs.Pairs.{Each}
use Rattle.ring.proofs.rns.words_of_two.Given as goal

abbrev pub invariant-loop-i : goal.invariant-loop-i
invariant-loop-i l = Each (λ (x y : ℕ). x * 2 ^ 30 + y) l.initial.a l.b l.i l.a
