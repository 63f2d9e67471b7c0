use mathlib.Core.Path.{◌≡◌}
use Prim.Native.Nat.{◌*◌}
use mathlib.Core.List.{◌++◌}
use lib.ListN.{drop}
use Rattle.hash.specs.Lists.{table}
use Rattle.hash.specs.Shake.{stream, after}
use Rattle.hash.proofs.shake.squeeze.Given as goal

abbrev pub invariant-loop-i : goal.invariant-loop-i
invariant-loop-i l =
    (l.s ≡ after l.i l.fn.a) × (l.out ≡ table (stream l.fn.a) (136 * l.i) ++ drop (136 * l.i) l.initial.out)
