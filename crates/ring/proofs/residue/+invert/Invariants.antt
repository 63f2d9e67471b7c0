use Rattle.ring.proofs.residue.+invert.Given as goal

abbrev pub decreases-invert : goal.decreases-invert
decreases-invert l = l.d
