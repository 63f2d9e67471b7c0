use native.Mathlib.Omega.{arith}
use Rattle.signature.proofs.WordReads.{run-complement, run-le}
use Rattle.signature.proofs.code.run_in.Goals as goal

pub returns-clause-value : goal.returns-clause-value
returns-clause-value c = run-complement 64 c.args.x c.ranges.x.fits

pub returns-clause-upper_bound : goal.returns-clause-upper_bound
returns-clause-upper_bound c = omega (arith, run-complement 64 c.args.x c.ranges.x.fits, run-le 64 56 c.args.x c.requires)
