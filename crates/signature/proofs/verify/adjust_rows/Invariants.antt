use mathlib.Core.Bool.{true}
use mathlib.Core.Path.{◌≡◌}
use Prim.Native.Nat.{◌-◌, ◌*◌, ◌^◌, ◌≤◌}
use lib.ListN.{length, take}
use Rattle.ring.specs.Rns.{words_of}
use Rattle.ring.specs.Words.{Below}
use Rattle.sharing.specs.Blocks.{build}
use Rattle.signature.specs.Matrix.{build_all, matrix_at, filled}
use Rattle.signature.proofs.Adjusted.{adjusted_at}
use Rattle.signature.proofs.verify.adjust_rows.Given as goal

abbrev pub invariant-loop-i : goal.invariant-loop-i
invariant-loop-i l =
    (l.i ≤ l.k) × (filled (build_all l.i (λ j. build_all l.l (matrix_at l.seed j))) ≡ true) × (length l.w ≡ l.k * 512)
    × (take (l.i * 512) l.w ≡ build l.i (adjusted_at l.l l.seed (words_of l.z) (words_of l.c) l.t l.hint)) × (length l.a ≡ 3584) × Below (2 ^ 60) l.a

abbrev pub decreases-loop-i : goal.decreases-loop-i
decreases-loop-i l = l.k - l.i
