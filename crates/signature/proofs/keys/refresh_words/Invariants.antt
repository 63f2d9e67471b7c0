use mathlib.Core.Path.{◌≡◌}
use Prim.Native.Nat.{◌-◌, ◌*◌, ◌≤◌}
use lib.ListN.{length}
use Rattle.ring.specs.Words.{q, Below}
use Rattle.sharing.specs.Blocks.{build}
use Rattle.sharing.specs.Region.{span, Wrote}
use Rattle.sharing.specs.Encoding.{skip}
use Rattle.sharing.specs.Masks.{masks}
use Rattle.sharing.proofs.Turns.{renewed}
use Rattle.signature.proofs.keys.refresh_words.Given as goal

abbrev pub invariant-loop-i : goal.invariant-loop-i
invariant-loop-i l =
    (l.i ≤ l.l) × Wrote 0 0 (l.i * (l.d * 512)) (build l.i (renewed masks l.d l.initial.x (span l.initial.s 0 (l.l * (l.d * 512))))) l.initial.s l.s × (l.x ≡ skip masks l.d l.i l.initial.x)
    × (length l.z ≡ 16384) × Below q l.z

abbrev pub decreases-loop-i : goal.decreases-loop-i
decreases-loop-i l = l.l - l.i
