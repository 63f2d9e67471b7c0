use mathlib.Core.Path.{◌≡◌}
use Prim.Native.Nat.{◌≤◌}
use lib.ListN.{length}
use Rattle.sharing.specs.Encoding.{later}
use Rattle.sharing.specs.Masks.{masks}
use Rattle.sharing.proofs.Pairs.{masked}
use Rattle.sharing.proofs.encoding.mask_pairs.Given as goal

abbrev pub invariant-loop-j : goal.invariant-loop-j
invariant-loop-j l = (l.j ≤ l.h) × (length l.p ≡ 512) × (l.s ≡ masked masks l.initial.s l.h l.initial.x l.j) × (l.x ≡ later masks l.j l.initial.x)
