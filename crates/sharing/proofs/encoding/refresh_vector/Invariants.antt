use mathlib.Core.Path.{◌≡◌}
use Prim.Native.Nat.{◌*◌, ◌≤◌}
use Rattle.sharing.specs.Blocks.{build}
use Rattle.sharing.specs.Region.{span, Wrote}
use Rattle.sharing.specs.Encoding.{skip}
use Rattle.sharing.specs.EncodingSteps.{last_zero}
use Rattle.sharing.specs.Masks.{masks}
use Rattle.sharing.proofs.Turns.{renewed}
use Rattle.sharing.proofs.encoding.refresh_vector.Given as goal

abbrev pub invariant-loop-i : goal.invariant-loop-i
invariant-loop-i l =
    (l.i ≤ l.m) × Wrote (l.d * 512) l.at (l.i * (l.d * 512)) (build l.i (renewed masks l.d l.initial.x (span l.initial.s l.at (l.m * (l.d * 512))))) l.initial.s l.s × (l.x ≡ skip masks l.d l.i l.initial.x)
    × (span l.s 0 (l.d * 512) ≡ last_zero masks l.d l.initial.x l.i (span l.initial.s 0 (l.d * 512)))
