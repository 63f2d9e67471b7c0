use Prim.Native.Nat.{◌*◌, ◌%◌}
use native.Mathlib.Omega.{arith}
use lib.Pow.{shl_exact}
use Rattle.hash.specs.Shake.{xor_byte}
use Rattle.hash.proofs.shake.xor_byte.Goals as goal

pub returns : goal.returns
unfolding xor_byte
returns c = let k = c.args.k in rw (c.from.ensures, shl_exact 8 (8 * (k % 8)) 64 c.ranges.b.fits (omega arith))
