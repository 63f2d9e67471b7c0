use mathlib.Core.Path.{◌≡◌}
use Prim.Native.Nat.{ℕ}
use lib.ListN.{length}
use Rattle.ring.specs.Round.{rounded}
use Rattle.ring.proofs.Pairs.{Each}
use Rattle.ring.proofs.poly.round.Given as goal

abbrev pub invariant-loop-x : goal.invariant-loop-x
invariant-loop-x g l = (length l.initial.x-items ≡ 512) × Each (λ (x : ℕ) (y : ℕ). rounded g.row.BITS g.row.M x) l.initial.x-items l.initial.x-items l.x-index l.x-items
