use mathlib.Core.Bool.{true}
use mathlib.Core.Path.{◌≡◌}
use Prim.Native.Nat.{◌-◌, ◌*◌, ◌^◌, ◌≤◌}
use lib.ListN.{length}
use Rattle.ring.specs.Words.{Below}
use Rattle.ring.specs.Rns.{words_of}
use Rattle.sharing.specs.Blocks.{build}
use Rattle.sharing.specs.Region.{Wrote}
use Rattle.signature.specs.Matrix.{build_all, matrix_at, filled}
use Rattle.signature.specs.MatrixSteps.{row_made}
use Rattle.signature.proofs.matrix.expand_matrix.Given as goal

abbrev pub invariant-loop-i : goal.invariant-loop-i
invariant-loop-i l =
    (l.i ≤ l.k) × (filled (build_all l.i (λ j. build_all l.l (matrix_at l.seed j))) ≡ true) × Wrote 0 0 (l.i * (l.l * 512)) (build l.i (row_made l.l l.seed)) (words_of l.initial.s) (words_of l.s) × (length l.s ≡ length l.initial.s) × Below (2 ^ 60) l.s

abbrev pub decreases-loop-i : goal.decreases-loop-i
decreases-loop-i l = l.k - l.i
