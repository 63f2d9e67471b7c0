use native.Mathlib.Omega.{arith}
use Rattle.ring.proofs.Sums.{below_at}
use Rattle.signature.proofs.attempt.to_bytes.Goals as goal

pub overflow_cast-out : goal.overflow_cast-out
overflow_cast-out c = omega (arith, below_at 256 (omega arith) c.args.words.now c.requires.1 c.loop-i.i)
