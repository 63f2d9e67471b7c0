use mathlib.Core.Path.{◌≡◌}
use Prim.Native.Nat.{◌+◌, ◌-◌, ◌≤◌}
use Rattle.sharing.specs.Encoding.{later}
use Rattle.sharing.specs.Masks.{masks, mask_poly}
use Rattle.bench.proofs.bench_masks.Given as goal

abbrev pub invariant-loop : goal.invariant-loop
invariant-loop l = (l.counter ≤ l.n + 1) × (l.g ≡ later masks l.counter l.initial.g) × (1 ≤ l.counter → l.out ≡ mask_poly (later masks (l.counter - 1) l.initial.g))

abbrev pub decreases-loop : goal.decreases-loop
decreases-loop l = l.n + 1 - l.counter
