use Prim.Native.Nat.{◌/◌, ◌^◌, ◌≤◌}
use native.Mathlib.Nat.{mul-le-mul}
use native.Mathlib.Omega.{arith}
use Rattle.signature.proofs.Measured.{square_le}
use Rattle.signature.proofs.bounds.count_in.Goals as goal

pub overflow_mul-y : goal.overflow_mul-y
overflow_mul-y c =
    let l : c.args.limit / 2 ^ c.args.v ≤ 4294967295 = omega (arith, c.requires.1) in
    omega (arith, (square_le c.args.limit c.args.s c.args.v c.args.all c.unsigned_abs-m.result c.if-m-limit.true).0, mul-le-mul l l)

pub overflow_mul-y-then-m-limit : goal.overflow_mul-y-then-m-limit
overflow_mul-y-then-m-limit c =
    omega (arith, (square_le c.args.limit c.args.s c.args.v c.args.all c.unsigned_abs-m.result c.if-m-limit.true).1, c.requires.2)
