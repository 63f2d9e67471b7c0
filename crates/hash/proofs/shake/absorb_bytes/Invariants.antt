use mathlib.Core.Path.{◌≡◌}
use Prim.Native.Nat.{◌+◌, ◌%◌}
use lib.ListN.{drop}
use Rattle.hash.specs.Shake.{absorb_from}
use Rattle.hash.proofs.shake.absorb_bytes.Given as goal

abbrev pub invariant-loop-b : goal.invariant-loop-b
invariant-loop-b l =
    (l.at ≡ (l.n + l.b-index) % 136) × (absorb_from l.s (l.n + l.b-index) (drop l.b-index l.m) ≡ absorb_from l.initial.s l.n l.m)
