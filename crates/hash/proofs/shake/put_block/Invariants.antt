use mathlib.Core.Path.{◌≡◌}
use Prim.Native.Nat.{◌*◌}
use lib.ListN.{length}
use Rattle.hash.specs.Shake.{byte_at}
use Rattle.hash.specs.ShakeSteps.{pasted}
use Rattle.hash.proofs.shake.put_block.Given as goal

abbrev pub invariant-loop-i : goal.invariant-loop-i
invariant-loop-i l = (length l.out ≡ length l.initial.out) × (l.out ≡ pasted (byte_at l.a) l.initial.out l.at (8 * l.i))
