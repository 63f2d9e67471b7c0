use Prim.Native.Nat.{◌*◌, ◌≤◌}
use native.Mathlib.Omega.{arith}
use Rattle.ring.specs.Residue.{prime}
use Rattle.ring.proofs.Barrett.{wide_fits, left-loose}
use Rattle.ring.proofs.residue.barrett.Goals as goal

pub overflow_mul-result : goal.overflow_mul-result
overflow_mul-result c =
    let h : c.quotient.result * c.modulus.result ≤ c.args.t = rw c.modulus.ensures c.quotient.ensures.0 in
    record { fits = omega (arith, h, wide_fits c.args.which c.args.t c.requires) }

pub overflow_sub-result : goal.overflow_sub-result
overflow_sub-result c = rw c.modulus.ensures c.quotient.ensures.0

pub returns : goal.returns
returns c =
    let r = c.quotient in
    left-loose (prime c.args.which) c.modulus.result r.result c.args.t c.modulus.ensures r.ensures.0 r.ensures.1
