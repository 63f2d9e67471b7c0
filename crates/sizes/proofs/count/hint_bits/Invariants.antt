use Prim.Native.Nat.{◌*◌, ◌≤◌}
use mathlib.Core.Path.{◌≡◌}
use lib.ListN.{take}
use Rattle.signature.specs.Code.{codes_bits}
use Rattle.sizes.proofs.count.hint_bits.Given as goal

abbrev pub invariant-loop-z : goal.invariant-loop-z
invariant-loop-z l = (l.n ≤ l.z-index * 130) × (l.n ≡ codes_bits 0 (take l.z-index l.hint))
