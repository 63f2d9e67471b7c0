use mathlib.Core.Path.{◌≡◌}
use Prim.Native.Nat.{◌≤◌}
use lib.ListN.{length, take}
use Rattle.ring.specs.Words.{q}
use Rattle.ring.specs.Round.{residues}
use Rattle.ring.proofs.poly.from_signed.Given as goal

abbrev pub invariant-loop-i : goal.invariant-loop-i
invariant-loop-i l = (l.i ≤ 512) × (length l.c ≡ 512) × (length l.x-items ≡ 512) × (take l.i l.x-items ≡ take l.i (residues q l.c))
