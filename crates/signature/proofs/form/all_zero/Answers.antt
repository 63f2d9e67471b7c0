use mathlib.Core.Path.{◌≡◌, sym, ap, ◌∙◌}
use Prim.Native.Nat.{ℕ, ◌+◌, ◌-◌, ◌*◌, ◌/◌}
use native.Mathlib.Omega.{arith}
use native.Mathlib.Nat.{le_refl}
use lib.ListN.{length, drop}
use lib.Seq.{drop-drop}
use Rattle.signature.specs.Bits.{bit_string}
use Rattle.signature.specs.AnswerSteps.{all_zero}
use Rattle.signature.proofs.Strings.{length_fields}
use Rattle.signature.proofs.Filled.{zero-end, zeros-pass, zeros-fail}
use Rattle.signature.proofs.form.all_zero.Goals as goal

pub returns-then-end-at : goal.returns-then-end-at
returns-then-end-at c = sym (zero-end (bit_string 8 c.args.buf.now) c.args.at (omega (arith, length_fields 8 c.args.buf.now)))

pub loop-i-init : goal.loop-i-init
loop-i-init c = let e : c.args.at ≡ c.args.at + 56 * 0 = omega arith in ap (λ (k : ℕ). all_zero (drop k (bit_string 8 c.args.buf.now))) e

pub returns-then-get_bits-ne0 : goal.returns-then-get_bits-ne0
returns-then-get_bits-ne0 c =
    sym (c.loop-i.invariant
    ∙ zeros-fail 56 (drop (c.args.at + 56 * c.loop-i.i) (bit_string 8 c.args.buf.now)) (λ e. c.if-get_bits-ne0.true (c.get_bits.ensures.value ∙ e)))

pub loop-i-preserved : goal.loop-i-preserved
loop-i-preserved c =
    let k = c.args.at + 56 * c.loop-i.i in
    let B = bit_string 8 c.args.buf.now in
    let e : k + 56 ≡ c.args.at + 56 * (c.loop-i.i + 1) = omega arith in
    c.loop-i.invariant ∙ zeros-pass 56 56 (drop k B) (le_refl 56) (sym c.get_bits.ensures.value ∙ c.if-get_bits-ne0.false)
    ∙ ap all_zero (drop-drop 56 k B) ∙ ap (λ (n : ℕ). all_zero (drop n B)) e

pub returns : goal.returns
returns c =
    let e : c.loop-i.i ≡ (length c.args.buf.now * 8 - c.args.at) / 56 = omega arith in
    c.rest_zero.ensures ∙ sym (c.loop-i.invariant ∙ ap (λ (n : ℕ). all_zero (drop (c.args.at + 56 * n) (bit_string 8 c.args.buf.now))) e)
