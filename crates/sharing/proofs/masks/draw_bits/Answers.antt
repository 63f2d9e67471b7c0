use Prim.Native.Nat.{◌*◌}
use native.Mathlib.Omega.{arith}
use Rattle.sharing.proofs.Held.{draw-shifted}
use Rattle.sharing.proofs.masks.draw_bits.Goals as goal

pub returns : goal.returns
returns c = draw-shifted c.args.x c.args.y (8 * c.args.r) c.ranges.x.fits (omega arith)
