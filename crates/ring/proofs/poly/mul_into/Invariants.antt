use Rattle.ring.specs.Words.{q}
use Rattle.ring.specs.Residue.{timesp}
use Rattle.ring.proofs.Pairs.{Each}
use Rattle.ring.proofs.poly.mul_into.Given as goal

abbrev pub invariant-loop-i : goal.invariant-loop-i
invariant-loop-i l = Each (timesp q) l.initial.s l.p l.i l.s
