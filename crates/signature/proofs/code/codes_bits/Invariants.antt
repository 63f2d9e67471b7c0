use Prim.Native.Nat.{◌+◌, ◌*◌, ◌^◌, ◌≤◌}
use mathlib.Core.Path.{◌≡◌}
use lib.ListN.{take}
use Rattle.signature.specs.Code.{codes_bits}
use Rattle.signature.proofs.code.codes_bits.Given as goal

abbrev pub invariant-loop-z : goal.invariant-loop-z
invariant-loop-z l = (l.n ≤ l.z-index * (2 ^ 50 + 64)) × (l.n ≡ codes_bits l.w (take l.z-index l.zs))
