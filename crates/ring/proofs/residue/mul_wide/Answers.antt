use native.Mathlib.Omega.{arith}
use Rattle.ring.specs.Residue.{prime}
use Rattle.ring.proofs.Bounds.{prime-lt}
use Rattle.ring.proofs.Barrett.{wide_low}
use Rattle.ring.proofs.residue.mul_wide.Goals as goal

pub barrett_mul-requires : goal.barrett_mul-requires
barrett_mul-requires c =
    let l = prime-lt c.args.which in
    (omega (arith, l, c.requires.0), omega (arith, l, c.requires.1), wide_low (prime c.args.which) c.args.w c.args.y c.requires.0 c.requires.1)
