use Rattle.ring.specs.Residue.{prime}
use Rattle.ring.proofs.LoosePairs.{LooseEach}
use Rattle.ring.proofs.residue.scaled.Given as goal

abbrev pub invariant-loop-x : goal.invariant-loop-x
invariant-loop-x l = LooseEach (prime l.which) l.s 2 l.initial.a l.x-index l.a
