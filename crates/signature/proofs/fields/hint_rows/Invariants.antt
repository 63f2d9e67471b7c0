use mathlib.Core.Path.{◌≡◌}
use Prim.Native.Nat.{◌-◌, ◌*◌, ◌≤◌}
use lib.ListN.{length, take}
use Rattle.ring.specs.Rns.{words_of}
use Rattle.sharing.specs.Blocks.{build}
use Rattle.sharing.specs.Region.{span}
use Rattle.signature.specs.Recover.{centred_all}
use Rattle.signature.specs.RecoverSteps.{hint_row}
use Rattle.signature.proofs.fields.hint_rows.Given as goal

abbrev pub invariant-loop-i : goal.invariant-loop-i
invariant-loop-i l =
    (l.i ≤ l.k) × (length l.hint ≡ l.k * 512) × (take (l.i * 512) l.hint ≡ centred_all 31 (build l.i (hint_row l.l (words_of l.a) (words_of l.z) (words_of l.c) l.t (span l.work l.at (l.k * 512)))))

abbrev pub decreases-loop-i : goal.decreases-loop-i
decreases-loop-i l = l.k - l.i
