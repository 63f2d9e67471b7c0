use Rattle.ring.proofs.residue.+transform.Given as goal

abbrev pub decreases-transform : goal.decreases-transform
decreases-transform l = l.d
