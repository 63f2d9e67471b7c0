use mathlib.Core.Path.{◌≡◌}
use Prim.Native.Nat.{◌*◌, ◌≤◌}
use Rattle.ring.specs.Words.{Words}
use Rattle.sharing.specs.Blocks.{block, sum_of}
use Rattle.sharing.specs.Region.{span}
use Rattle.sharing.proofs.shares.sum_shares.Given as goal

abbrev pub invariant-loop-j : goal.invariant-loop-j
invariant-loop-j l = (l.j ≤ l.d) × (l.acc ≡ sum_of 512 l.j (λ i. block 512 i (span l.s l.at (l.d * 512)))) × Words 512 l.acc
