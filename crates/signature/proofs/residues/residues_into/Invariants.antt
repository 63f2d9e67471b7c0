use mathlib.Core.Path.{◌≡◌}
use lib.ListN.{take}
use Rattle.ring.specs.Round.{residues}
use Rattle.signature.proofs.residues.residues_into.Given as goal

abbrev pub invariant-loop-i : goal.invariant-loop-i
invariant-loop-i l = take l.i l.out ≡ take l.i (residues l.m l.zs)
