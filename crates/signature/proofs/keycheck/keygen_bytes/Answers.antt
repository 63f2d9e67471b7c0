use native.Mathlib.Omega.{arith}
use Rattle.signature.proofs.KeyRanges.{front-fit, bytes_fit}
use Rattle.signature.proofs.keycheck.keygen_bytes.Goals as goal

pub overflow_add-result : goal.overflow_add-result
overflow_add-result c = omega (arith, c.noise_seed_bytes.ensures, front-fit c.args.row.p c.args.row.tabled)

pub overflow_add-result-2 : goal.overflow_add-result-2
overflow_add-result-2 c = omega (arith, c.noise_seed_bytes.ensures, bytes_fit c.args.row.p c.args.row.tabled)
