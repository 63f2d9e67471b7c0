use Prim.Native.Nat.{◌+◌, ◌≤◌}
use mathlib.Core.Path.{◌≡◌}
use lib.ListN.{drop}
use Rattle.signature.specs.Decision.{measured}
use Rattle.signature.proofs.bounds.measure.Given as goal

abbrev pub invariant-loop-c : goal.invariant-loop-c
invariant-loop-c l =
    (l.r.sum ≤ l.all) × (l.r.coefficients ≤ l.initial.r.coefficients + l.c-index)
    × (measured l.limit l.s l.v l.all l.initial.r l.cs ≡ measured l.limit l.s l.v l.all l.r (drop l.c-index l.cs))
