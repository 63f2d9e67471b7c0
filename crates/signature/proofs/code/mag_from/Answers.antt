use Prim.Native.Nat.{ℕ, ◌+◌, ◌*◌, ◌^◌}
use mathlib.Core.Path.{sym, ap, ◌∙◌}
use mathlib.Core.Bool.{Bool}
use native.Mathlib.Omega.{arith}
use lib.ListN.{length, take, drop}
use borrow.Author.Tests.{le-leb}
use Rattle.hash.specs.Lists.{pick}
use Rattle.signature.specs.Bits.{val_of, bit_string}
use Rattle.signature.proofs.Codes.{mag-exact, mag-lt}
use Rattle.signature.proofs.code.mag_from.Goals as goal

pub overflow_add-result : goal.overflow_add-result
overflow_add-result c = omega (arith, mag-lt c.args.w c.args.n (omega arith) c.requires.w_bound _ c.get_bits.ensures.upper_bound)

pub returns-clause-value : goal.returns-clause-value
returns-clause-value c =
    let a = c.args in
    ap (λ (k : ℕ). c.get_bits.result + k) (mag-exact a.w a.n (omega arith) c.requires.w_bound) ∙ ap (λ (k : ℕ). k + a.n * 2 ^ a.w) c.get_bits.ensures.value
    ∙ sym (ap (λ (b : Bool). pick b (val_of (take a.w (drop a.at (bit_string 8 a.buf.now))) + a.n * 2 ^ a.w) 0) (le-leb (a.at + a.w) (length a.buf.now * 8) (omega arith)))

pub returns-clause-upper_bound : goal.returns-clause-upper_bound
returns-clause-upper_bound c = mag-lt c.args.w c.args.n (omega arith) c.requires.w_bound _ c.get_bits.ensures.upper_bound
