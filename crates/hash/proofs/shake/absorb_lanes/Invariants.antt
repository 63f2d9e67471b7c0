use mathlib.Core.Path.{◌≡◌}
use Prim.Native.Nat.{◌+◌, ◌-◌, ◌*◌, ◌/◌, ◌%◌, ◌≤◌}
use lib.ListN.{drop}
use Rattle.hash.specs.Shake.{absorb_from}
use Rattle.hash.proofs.shake.absorb_lanes.Given as goal

abbrev pub invariant-loop-i : goal.invariant-loop-i
invariant-loop-i l =
    (l.i ≤ l.lanes) × (l.k ≡ (l.n + 8 * l.i) % 136 / 8) × (absorb_from l.s (l.n + 8 * l.i) (drop (8 * l.i) l.m) ≡ absorb_from l.initial.s l.n l.m)

abbrev pub decreases-loop-i : goal.decreases-loop-i
decreases-loop-i l = l.lanes - l.i
