use mathlib.Core.Path.{◌≡◌}
use lib.ListN.{take}
use Rattle.signature.specs.Recover.{centred_all}
use Rattle.signature.proofs.residues.centred_into.Given as goal

abbrev pub invariant-loop-i : goal.invariant-loop-i
invariant-loop-i l = take l.i l.out ≡ take l.i (centred_all l.m l.words)
