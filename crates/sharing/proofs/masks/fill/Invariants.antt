use mathlib.Core.Path.{◌≡◌}
use mathlib.Core.List.{[]}
use Prim.Native.Nat.{◌<◌}
use Rattle.ring.proofs.Draws.{Front}
use Rattle.sharing.specs.Masks.{bytes_ahead, mask_moved, used}
use Rattle.sharing.proofs.masks.fill.Given as goal

abbrev pub invariant-loop : goal.invariant-loop
invariant-loop l =
    (l.k < 512) × (l.h ≡ mask_moved l.counter l.initial.h) × (used (bytes_ahead l.initial.h) l.counter ≡ l.counter)
    × Front (bytes_ahead l.initial.h) [] l.counter l.p l.k
