use Prim.Native.Nat.{◌%◌}
use native.Mathlib.Omega.{arith}
use Rattle.hash.specs.Shake.{finish}
use Rattle.hash.proofs.Sponge.{pad-two}
use Rattle.hash.proofs.shake.finish.Goals as goal

pub returns : goal.returns
unfolding finish
returns c = rw (pad-two c.args.a (c.args.n % 136) (omega arith), c.permute.ensures, c.xor_byte-2.ensures, c.xor_byte.ensures)
