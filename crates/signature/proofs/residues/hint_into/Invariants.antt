use mathlib.Core.Path.{◌≡◌}
use lib.ListN.{take}
use Rattle.ring.specs.Words.{zip_to}
use Rattle.signature.specs.Recover.{sub31, centred_all}
use Rattle.signature.proofs.residues.hint_into.Given as goal

abbrev pub invariant-loop-i : goal.invariant-loop-i
invariant-loop-i l = take l.i l.out ≡ take l.i (centred_all 31 (zip_to sub31 l.w l.y))
