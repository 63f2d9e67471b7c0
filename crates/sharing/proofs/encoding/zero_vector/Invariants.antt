use mathlib.Core.Path.{◌≡◌}
use Prim.Native.Nat.{◌*◌, ◌≤◌}
use Rattle.sharing.specs.Blocks.{build}
use Rattle.sharing.specs.Region.{Wrote}
use Rattle.sharing.specs.Encoding.{skip}
use Rattle.sharing.specs.Masks.{masks}
use Rattle.sharing.proofs.Turns.{encoded}
use Rattle.sharing.proofs.encoding.zero_vector.Given as goal

abbrev pub invariant-loop-i : goal.invariant-loop-i
invariant-loop-i l = (l.i ≤ l.m) × Wrote 0 l.at (l.i * (l.d * 512)) (build l.i (encoded masks l.d l.initial.x)) l.initial.s l.s × (l.x ≡ skip masks l.d l.i l.initial.x)
