use mathlib.Core.Path.{◌≡◌}
use Prim.Native.Nat.{◌-◌, ◌≤◌}
use Rattle.hash.specs.Shake.{after}
use Rattle.bench.proofs.bench_permute.Given as goal

abbrev pub invariant-loop : goal.invariant-loop
invariant-loop l = (l.counter ≤ l.n) × (l.s ≡ after l.counter l.initial.s)

abbrev pub decreases-loop : goal.decreases-loop
decreases-loop l = l.n - l.counter
