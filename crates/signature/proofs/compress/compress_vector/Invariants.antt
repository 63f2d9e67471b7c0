use mathlib.Core.Path.{◌≡◌}
use mathlib.Core.Bool.{true}
use Prim.Native.Nat.{◌-◌, ◌*◌, ◌≤◌}
use Rattle.sharing.specs.Blocks.{build}
use Rattle.sharing.specs.Region.{span, Wrote}
use Rattle.signature.specs.Compress.{collected_at}
use Rattle.signature.proofs.Collected.{full_at}
use Rattle.signature.specs.Matrix.{build_all, filled}
use Rattle.signature.proofs.compress.compress_vector.Given as goal

abbrev pub invariant-loop-j : goal.invariant-loop-j
invariant-loop-j l =
    (l.j ≤ l.l) × (filled (build_all l.j (collected_at l.edition l.n l.seeds l.d (span l.initial.s l.at (l.l * (l.d * 512))))) ≡ true) × Wrote 0 l.to (l.j * 512) (build l.j (full_at l.edition l.n l.seeds l.d (span l.initial.s l.at (l.l * (l.d * 512))))) l.initial.s l.s

abbrev pub decreases-loop-j : goal.decreases-loop-j
decreases-loop-j l =
    l.l - l.j
