use Prim.Native.Nat.{min, ◌*◌, ◌<◌}
use mathlib.Core.Path.{◌≡◌}
use mathlib.Core.List.{[]}
use lib.ListN.{length}
use Rattle.hash.specs.Lists.{table}
use Rattle.hash.specs.Shake.{after, stream}
use Rattle.ring.specs.UniformSteps.{Gathered}
use Rattle.ring.proofs.uniform.sample_q_into.Given as goal

abbrev pub invariant-loop-i : goal.invariant-loop-i
invariant-loop-i l =
    (length l.bytes ≡ 952) × (l.s ≡ after (7 * l.i) l.initial.s) × (l.k < 512) × Gathered (table (stream l.initial.s) 5439) (min 777 (136 * l.i)) [] 0 l.out l.k
