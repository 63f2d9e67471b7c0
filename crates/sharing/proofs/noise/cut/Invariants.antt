use mathlib.Core.Path.{◌≡◌}
use Prim.Native.Nat.{◌≤◌}
use lib.ListN.{length, take}
use Rattle.hash.specs.Lists.{table}
use Rattle.sharing.specs.Noise.{sample_at}
use Rattle.sharing.proofs.noise.cut.Given as goal

abbrev pub invariant-loop-i : goal.invariant-loop-i
invariant-loop-i l = (l.i ≤ 512) × (length l.p ≡ 512) × (take l.i l.p ≡ table (sample_at l.u l.b) l.i)
