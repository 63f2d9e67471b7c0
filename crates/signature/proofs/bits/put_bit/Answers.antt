use Prim.Native.Nat.{ℕ, ◌/◌, ◌%◌}
use mathlib.Core.Path.{sym, ap, ◌∙◌}
use native.Mathlib.Omega.{arith}
use native.Mathlib.Nat.{one-mul}
use lib.Dec.{lit<}
use lib.ListN.{get_or, set}
use lib.Pow.{shl_exact}
use lib.Bits.{bit_xor}
use Rattle.signature.specs.Bits.{bit_string}
use Rattle.signature.proofs.Strings.{flipped, left}
use Rattle.signature.proofs.bits.put_bit.Goals as goal

pub returns-then-from-b : goal.returns-then-from-b
returns-then-from-b c =
    let at = c.args.at in
    let buf = c.args.buf.now in
    ap (λ (n : ℕ). bit_string 8 (set buf (at / 8) (bit_xor (get_or buf (at / 8) 0) n)))
    (shl_exact {a = 1} 1 (at % 8) 8 (lit< tt) (omega arith) ∙ one-mul _)
    ∙ flipped buf at c.requires.at_in_bounds c.args.b c.requires.b_bound (λ e. c.if-from-b.true (ap (λ (n : ℕ). n % 2) c.from.ensures ∙ e))

pub returns-else-from-b : goal.returns-else-from-b
returns-else-from-b c =
    left c.args.buf.now c.args.at c.requires.at_in_bounds c.args.b (ap (λ (n : ℕ). n % 2) (sym c.from.ensures) ∙ c.if-from-b.false)
