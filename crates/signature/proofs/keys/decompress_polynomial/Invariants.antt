use mathlib.Core.Path.{◌≡◌}
use Prim.Native.Nat.{◌-◌, ◌*◌, ◌≤◌}
use Rattle.sharing.specs.Blocks.{build}
use Rattle.sharing.specs.Region.{Wrote}
use Rattle.signature.specs.ExpandSteps.{expanded_at}
use Rattle.signature.proofs.keys.decompress_polynomial.Given as goal

abbrev pub invariant-loop-i : goal.invariant-loop-i
invariant-loop-i l =
    (l.i ≤ l.d) × (l.d ≡ l.part.row.p.shares) × Wrote 0 (l.j * (l.part.row.p.shares * 512)) (l.i * 512) (build l.i (expanded_at l.part.row.p l.part.bytes.now l.j)) l.initial.out l.out

abbrev pub decreases-loop-i : goal.decreases-loop-i
decreases-loop-i l = l.d - l.i
