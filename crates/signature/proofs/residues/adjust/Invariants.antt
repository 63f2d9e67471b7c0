use mathlib.Core.Path.{◌≡◌}
use lib.ListN.{take}
use Rattle.ring.specs.Words.{zip_to}
use Rattle.ring.specs.Round.{residues}
use Rattle.signature.specs.Recover.{add31}
use Rattle.signature.proofs.residues.adjust.Given as goal

abbrev pub invariant-loop-i : goal.invariant-loop-i
invariant-loop-i l = take l.i l.out ≡ take l.i (zip_to add31 l.y (residues 31 l.hint))
