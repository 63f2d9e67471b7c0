use mathlib.Core.Path.{ap, ◌∙◌}
use native.Mathlib.Omega.{arith}
use Rattle.signature.specs.Bits.{bits_of}
use Rattle.signature.proofs.Words.{summed-low-lt, summed-lt, summed, splice}
use Rattle.signature.proofs.bits.spliced.Goals as goal

pub overflow_add-result : goal.overflow_add-result
overflow_add-result c =
    omega (arith, summed-low-lt c.args.x c.args.v c.args.k c.args.w c.ranges.x.fits c.requires _ _ c.low.ensures c.low-2.ensures)

pub overflow_add-result-2 : goal.overflow_add-result-2
overflow_add-result-2 c =
    omega (arith, summed-lt c.args.x c.args.v c.args.k c.args.w c.ranges.x.fits c.requires _ _ c.low.ensures c.low-2.ensures)

pub returns : goal.returns
returns c =
    ap (bits_of 64) (summed c.args.x c.args.v c.args.k c.args.w c.ranges.x.fits c.requires _ _ c.low.ensures c.low-2.ensures)
    ∙ splice c.args.x c.args.v c.args.k c.args.w c.ranges.x.fits c.requires
