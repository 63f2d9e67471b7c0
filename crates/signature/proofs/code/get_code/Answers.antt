use Prim.Native.Nat.{ℕ, ◌+◌}
use mathlib.Core.Path.{◌≡◌, sym, ap, ◌∙◌}
use native.Mathlib.Omega.{arith}
use borrow.Author.Rules.{sfits_of}
use lib.ListN.{get_or, drop, length-drop}
use lib.Seq.{get_or-drop}
use lib.IntN.{ℤ, pos}
use mir.Syntax.{w64}
use mir.Val.{to_z, of_z}
use mir.ValLaws.{to_z-of_z}
use Rattle.std.specs.Prelude.{Some}
use Rattle.signature.specs.Bits.{bit_string}
use Rattle.signature.specs.AnswerSteps.{got_of}
use Rattle.signature.proofs.Strings.{length_fields}
use Rattle.signature.proofs.Codes.{read_short, read-zero, read-cut, read_some, run_is, mag_is, mag-lt}
use Rattle.signature.proofs.code.get_code.Goals as goal

pub returns-then-end-a : goal.returns-then-end-a
returns-then-end-a c =
    let a = c.args in
    let B = bit_string 8 a.buf.now in
    sym (ap (got_of a.at) (read_short a.w (drop a.at B) (omega (arith, length-drop a.at B, length_fields 8 a.buf.now))))

pub returns-then-end-b : goal.returns-then-end-b
returns-then-end-b c =
    let a = c.args in
    let B = bit_string 8 a.buf.now in
    let ones = run_is B a.at a.w _ c.run-n.ensures.value in
    sym (ap (got_of a.at) (read_short a.w (drop a.at B) (omega (arith, length-drop a.at B, length_fields 8 a.buf.now))))

pub overflow_add-m : goal.overflow_add-m
overflow_add-m c = omega (arith, mag-lt c.args.w c.run-n.result (omega arith) c.requires.w_bound _ c.get_bits-low.ensures.upper_bound)

pub returns-then-m-eq0 : goal.returns-then-m-eq0
returns-then-m-eq0 c =
    let a = c.args in
    let B = bit_string 8 a.buf.now in
    let ones = run_is B a.at a.w _ c.run-n.ensures.value in
    let mag = mag_is B a.at a.w _ c.run-n.ensures.value (omega arith) c.requires.w_bound _ c.get_bits-low.ensures.value in
    let e : a.at + a.w + c.run-n.result + 1 ≡ a.at + (a.w + c.run-n.result + 1) = omega arith in
    ap (λ (k : ℕ). Some (pos 0, k)) e
    ∙ sym (ap (got_of a.at) (read-zero a.w (drop a.at B) _ _ ones mag (omega (arith, length-drop a.at B, length_fields 8 a.buf.now)) c.if-m-eq0.true))

pub returns-then-end-b-2 : goal.returns-then-end-b-2
returns-then-end-b-2 c =
    let a = c.args in
    let B = bit_string 8 a.buf.now in
    let ones = run_is B a.at a.w _ c.run-n.ensures.value in
    let mag = mag_is B a.at a.w _ c.run-n.ensures.value (omega arith) c.requires.w_bound _ c.get_bits-low.ensures.value in
    let left = length-drop a.at B in
    let all = length_fields 8 a.buf.now in
    sym (ap (got_of a.at) (read-cut a.w (drop a.at B) _ _ ones mag (omega arith) c.if-m-eq0.false (omega arith)))

pub signed-requires : goal.signed-requires
signed-requires c = mag-lt c.args.w c.run-n.result (omega arith) c.requires.w_bound _ c.get_bits-low.ensures.upper_bound

pub returns : goal.returns
returns c =
    let a = c.args in
    let B = bit_string 8 a.buf.now in
    let n = c.run-n.result in
    let ones = run_is B a.at a.w _ c.run-n.ensures.value in
    let mag = mag_is B a.at a.w _ c.run-n.ensures.value (omega arith) c.requires.w_bound _ c.get_bits-low.ensures.value in
    let left = length-drop a.at B in
    let all = length_fields 8 a.buf.now in
    let e : a.at + a.w + n + 2 ≡ a.at + (a.w + n + 2) = omega arith in
    let b : a.at + a.w + n + 1 ≡ a.at + (a.w + n + 1) = omega arith in
    let bit = c.get_bit-s.ensures.value ∙ ap (λ (k : ℕ). get_or B k 0) b ∙ sym (get_or-drop a.at B (a.w + n + 1) 0) in
    ap (λ (k : ℕ). Some (to_z w64 (of_z w64 c.signed.result), k)) e
    ∙ ap (λ (z : ℤ). Some (z, a.at + (a.w + n + 2))) (to_z-of_z w64 c.signed.result (sfits_of c.signed.type_inv) ∙ c.signed.ensures)
    ∙ sym (ap (got_of a.at) (read_some a.w (drop a.at B) n _ ones mag (omega arith) c.if-m-eq0.false _ bit (omega arith)))
