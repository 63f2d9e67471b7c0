use lib.ListN.{take}
use Rattle.ring.proofs.Draws.{Front}
use Rattle.ring.proofs.uniform.gather.Given as goal

abbrev pub invariant-loop-i : goal.invariant-loop-i
invariant-loop-i l = Front l.b (take l.k l.initial.a) l.i l.a l.at
