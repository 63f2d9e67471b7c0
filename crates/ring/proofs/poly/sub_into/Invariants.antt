use Rattle.ring.specs.Words.{subq}
use Rattle.ring.proofs.Pairs.{Each}
use Rattle.ring.proofs.poly.sub_into.Given as goal

abbrev pub invariant-loop-i : goal.invariant-loop-i
invariant-loop-i l = Each subq l.initial.s l.p l.i l.s
