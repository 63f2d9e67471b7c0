use Prim.Native.Nat.{◌+◌}
use mathlib.Core.Path.{sym, ◌∙◌}
use native.Mathlib.Omega.{arith}
use native.Mathlib.Nat.{add_assoc}
use Rattle.signature.specs.Bits.{bit_string}
use Rattle.signature.proofs.Strings.{length_fields}
use Rattle.signature.proofs.Codes.{run_on, run-stop, run_end}
use Rattle.signature.proofs.code.run.Goals as goal

pub returns-then-get_bit-eq0-clause-value : goal.returns-then-get_bit-eq0-clause-value
returns-then-get_bit-eq0-clause-value c =
    let b = c.args.buf.now in
    let s = run-stop (bit_string 8 b) (c.args.at + c.loop-n.n) (omega (arith, length_fields 8 b)) (sym c.get_bit.ensures.value ∙ c.if-get_bit-eq0.true) in
    omega arith

pub loop-n-preserved : goal.loop-n-preserved
loop-n-preserved c =
    let b = c.args.buf.now in
    let s = run_on (bit_string 8 b) (c.args.at + c.loop-n.n) (omega (arith, length_fields 8 b)) (λ e. c.if-get_bit-eq0.false (c.get_bit.ensures.value ∙ e)) in
    omega (arith, rw add_assoc at s)

pub returns-clause-value : goal.returns-clause-value
returns-clause-value c =
    let b = c.args.buf.now in
    omega (arith, run_end (bit_string 8 b) (c.args.at + c.loop-n.n) (omega (arith, length_fields 8 b)))
