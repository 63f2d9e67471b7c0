use mathlib.Core.Path.{◌≡◌}
use Prim.Native.Nat.{◌-◌, ◌*◌, ◌≤◌}
use Rattle.ring.specs.Words.{Words}
use Rattle.sharing.specs.Region.{span}
use Rattle.signature.specs.Compress.{collected_of}
use mathlib.Core.Option.{some}
use Rattle.signature.proofs.compress.collect.Given as goal

abbrev pub invariant-loop-i : goal.invariant-loop-i
invariant-loop-i l =
    (1 ≤ l.i) × (l.i ≤ l.d) × (collected_of l.edition l.n l.seeds (span l.s l.at (l.d * 512)) l.j (l.i - 1) ≡ some l.x) × Words 512 l.x

abbrev pub decreases-loop-i : goal.decreases-loop-i
decreases-loop-i l =
    l.d - l.i
