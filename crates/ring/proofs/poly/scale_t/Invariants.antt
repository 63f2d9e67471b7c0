use mathlib.Core.Path.{◌≡◌}
use Prim.Native.Nat.{ℕ, ◌*◌, ◌%◌, ◌^◌}
use lib.ListN.{length}
use Rattle.ring.specs.Words.{q}
use Rattle.ring.proofs.Pairs.{Each}
use Rattle.ring.proofs.poly.scale_t.Given as goal

abbrev pub invariant-loop-x : goal.invariant-loop-x
invariant-loop-x l = (length l.initial.x-items ≡ 512) × Each (λ (x : ℕ) (y : ℕ). x * 2 ^ 42 % q) l.initial.x-items l.initial.x-items l.x-index l.x-items
