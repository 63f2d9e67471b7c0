use Rattle.ring.specs.Words.{addq}
use Rattle.ring.proofs.Pairs.{Each}
use Rattle.ring.proofs.poly.add_into.Given as goal

abbrev pub invariant-loop-i : goal.invariant-loop-i
invariant-loop-i l = Each addq l.initial.s l.p l.i l.s
