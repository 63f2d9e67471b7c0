use Prim.Native.Nat.{◌*◌}
use Rattle.sharing.specs.Region.{span}
use Rattle.signature.specs.MaskedSteps.{shared_poly}
use Rattle.signature.proofs.InResidues.{InResidues}
use Rattle.signature.proofs.masked.share_residues.Given as goal

abbrev pub invariant-loop-m : goal.invariant-loop-m
invariant-loop-m l = InResidues 0 l.m (shared_poly l.d (span l.s l.at (l.l * (l.d * 512))) l.j) l.initial.out l.out
