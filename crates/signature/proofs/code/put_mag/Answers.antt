use Prim.Native.Nat.{ℕ}
use mathlib.Core.Path.{ap}
use native.Mathlib.Omega.{arith}
use lib.ListN.{length}
use Rattle.signature.specs.Bits.{bit_string}
use Rattle.signature.specs.Code.{signs}
use Rattle.signature.proofs.Codes.{code-length, sign-length, no_sign, with-sign}
use Rattle.signature.proofs.code.put_mag.Goals as goal

pub put_bits-requires-clause-w_in_bounds : goal.put_bits-requires-clause-w_in_bounds
put_bits-requires-clause-w_in_bounds c = omega (arith, code-length c.args.w c.args.m c.args.s)

pub put_run-requires-clause-n_in_bounds : goal.put_run-requires-clause-n_in_bounds
put_run-requires-clause-n_in_bounds c = omega (arith, code-length c.args.w c.args.m c.args.s)

pub overflow_add-b : goal.overflow_add-b
overflow_add-b c = omega (arith, code-length c.args.w c.args.m c.args.s)

pub put_bit-requires-clause-at_in_bounds : goal.put_bit-requires-clause-at_in_bounds
put_bit-requires-clause-at_in_bounds c = omega (arith, code-length c.args.w c.args.m c.args.s)

pub returns-then-m-eq0-clause-value : goal.returns-then-m-eq0-clause-value
returns-then-m-eq0-clause-value c = omega (arith, code-length c.args.w c.args.m c.args.s, ap (λ (n : ℕ). length (signs n c.args.s)) c.if-m-eq0.true)

pub returns-then-m-eq0-clause-buf_after : goal.returns-then-m-eq0-clause-buf_after
returns-then-m-eq0-clause-buf_after c =
    no_sign (bit_string 8 c.args.buf.now) _ _ _ c.args.at c.args.w c.args.m c.args.s c.put_bits.ensures c.put_run.ensures c.put_bit.ensures c.if-m-eq0.true

pub overflow_add-b-2 : goal.overflow_add-b-2
overflow_add-b-2 c = omega (arith, code-length c.args.w c.args.m c.args.s)

pub put_bit-requires-2-clause-at_in_bounds : goal.put_bit-requires-2-clause-at_in_bounds
put_bit-requires-2-clause-at_in_bounds c =
    omega (arith, code-length c.args.w c.args.m c.args.s, ap length (sign-length c.args.m c.args.s c.if-m-eq0.false))

pub overflow_add-result-2 : goal.overflow_add-result-2
overflow_add-result-2 c = omega (arith, code-length c.args.w c.args.m c.args.s)

pub returns-clause-value : goal.returns-clause-value
returns-clause-value c = omega (arith, code-length c.args.w c.args.m c.args.s, ap length (sign-length c.args.m c.args.s c.if-m-eq0.false))

pub returns-clause-buf_after : goal.returns-clause-buf_after
returns-clause-buf_after c =
    with-sign (bit_string 8 c.args.buf.now) _ _ _ c.args.at c.args.w c.args.m c.args.s c.put_bits.ensures c.put_run.ensures c.put_bit.ensures
    c.if-m-eq0.false _ c.put_bit-2.ensures
