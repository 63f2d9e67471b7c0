use mathlib.Core.Bool.{true}
use mathlib.Core.Path.{◌≡◌}
use Prim.Native.Nat.{◌-◌, ◌≤◌}
use Rattle.ring.specs.Transform.{ntt}
use Rattle.signature.specs.Matrix.{build_all, matrix_at, filled}
use Rattle.signature.specs.MatrixSteps.{row_entry}
use Rattle.signature.proofs.InResidues.{InResidues}
use Rattle.signature.proofs.matrix.expand_row.Given as goal

abbrev pub invariant-loop-m : goal.invariant-loop-m
invariant-loop-m l =
    (l.m ≤ l.l) × (filled (build_all l.m (matrix_at l.seed l.i)) ≡ true) × InResidues l.to l.m (λ j. ntt (row_entry l.seed l.i j)) l.initial.s l.s

abbrev pub decreases-loop-m : goal.decreases-loop-m
decreases-loop-m l = l.l - l.m
