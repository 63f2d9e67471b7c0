use mathlib.Core.Path.{◌≡◌}
use lib.ListN.{length, take}
use Rattle.ring.proofs.poly.copy_into.Given as goal

abbrev pub invariant-loop-i : goal.invariant-loop-i
invariant-loop-i g l = (length l.s ≡ length l.initial.s) × (take l.i l.s ≡ take l.i l.p)
