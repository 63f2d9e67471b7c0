use mathlib.Core.Path.{◌≡◌}
use Prim.Native.Nat.{◌-◌, ◌*◌, ◌≤◌}
use lib.ListN.{length}
use Rattle.sharing.specs.Blocks.{build}
use Rattle.sharing.specs.Region.{Wrote}
use Rattle.signature.proofs.Expanded.{polynomial}
use Rattle.signature.proofs.keys.decompress_all.Given as goal

abbrev pub invariant-loop-j : goal.invariant-loop-j
invariant-loop-j l =
    (l.j ≤ l.l) × (l.l ≡ l.part.row.p.l) × (length l.out ≡ l.part.row.p.l * (l.part.row.p.shares * 512))
    × Wrote 0 0 (l.j * (l.part.row.p.shares * 512)) (build l.j (polynomial l.part.row.p l.part.bytes.now)) l.initial.out l.out

abbrev pub decreases-loop-j : goal.decreases-loop-j
decreases-loop-j l = l.l - l.j
