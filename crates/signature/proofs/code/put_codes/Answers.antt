use mathlib.Core.Path.{ap, ◌∙◌}
use mathlib.Core.List.{List}
use Prim.Native.Nat.{◌+◌, ◌≤◌}
use native.Mathlib.Omega.{arith}
use lib.IntN.{ℤ, pos}
use lib.ListN.{length, get_or}
use lib.Seq.{sets, take_all}
use mir.Syntax.{w64}
use mir.Val.{SFits}
use mir.ValLaws.{to_z-of_z}
use borrow.Author.Rules.{rules}
use Rattle.signature.specs.Bits.{bits_of, bit_string}
use Rattle.signature.specs.Code.{codes}
use Rattle.signature.proofs.Counts.{one-length}
use Rattle.signature.proofs.Lists.{codes-next, codes-room}
use Rattle.signature.proofs.CodeWords.{code-word-below, held-lt, held_fits, turn-hold, turn-store, turn-slow}
use Rattle.signature.proofs.code.put_codes.Goals as goal

pub loop-z-init : goal.loop-z-init
unfolding codes bits_of
loop-z-init c = search rules

pub overflow_add-have : goal.overflow_add-have
overflow_add-have c =
    let i = c.loop-z.z-index in
    let zs = c.args.zs.now in
    let z = get_or zs i (pos 0) in
    let s : SFits w64 z = search rules in
    omega (arith, simp to_z-of_z at c.code_bits-n.ensures, one-length c.args.w z, codes-room c.args.w zs i c.loop-z-test.true)

pub overflow_add-held : goal.overflow_add-held
overflow_add-held c =
    let l = c.loop-z in
    omega (arith, held_fits l.have l.held _ _ l.invariant.1 (code-word-below c.args.w _ _ _ c.code_bits-n.ensures c.code_word.ensures) (omega arith))

pub loop-z-preserved-then-have-n-le56 : goal.loop-z-preserved-then-have-n-le56
loop-z-preserved-then-have-n-le56 c =
    let l = c.loop-z in
    let a = c.args in
    let zs = a.zs.now in
    let h = c.loop-z-test.true in
    let z = get_or zs l.z-index (pos 0) in
    let s : SFits w64 z = search rules in
    let n = simp to_z-of_z at c.code_bits-n.ensures in
    let v = simp to_z-of_z at c.code_word.ensures in
    let k = code-word-below a.w z _ _ n v in
    let r : l.have + c.code_bits-n.result ≤ 56 = omega arith in (
      r,
      held-lt l.have l.held _ _ l.invariant.1 k r,
      omega (arith, n, one-length a.w z, codes-next a.w zs l.z-index h),
      turn-hold a.w zs l.z-index h (bit_string 8 a.buf.now) (bit_string 8 l.buf) a.at l.p l.have l.held l.invariant.3 l.invariant.2 _ _ n v l.invariant.1 r k,
    )

pub put_bits-requires-clause-w_in_bounds : goal.put_bits-requires-clause-w_in_bounds
put_bits-requires-clause-w_in_bounds c = omega (arith, codes-room c.args.w c.args.zs.now c.loop-z.z-index c.loop-z-test.true)

pub overflow_add-p : goal.overflow_add-p
overflow_add-p c = omega (arith, codes-room c.args.w c.args.zs.now c.loop-z.z-index c.loop-z-test.true)

pub loop-z-preserved-then-n-le56 : goal.loop-z-preserved-then-n-le56
loop-z-preserved-then-n-le56 c =
    let l = c.loop-z in
    let a = c.args in
    let zs = a.zs.now in
    let h = c.loop-z-test.true in
    let z = get_or zs l.z-index (pos 0) in
    let s : SFits w64 z = search rules in
    let n = simp to_z-of_z at c.code_bits-n.ensures in
    let v = simp to_z-of_z at c.code_word-held.ensures in (
      omega arith,
      code-word-below a.w z _ _ n v,
      omega (arith, n, one-length a.w z, codes-next a.w zs l.z-index h),
      turn-store a.w zs l.z-index h (bit_string 8 a.buf.now) (bit_string 8 l.buf) a.at l.p l.have l.held l.invariant.3 l.invariant.2 _ _ n v _ c.put_bits.ensures,
    )

pub put_code-p-requires-clause-z_in_bounds : goal.put_code-p-requires-clause-z_in_bounds
put_code-p-requires-clause-z_in_bounds c =
    let i = c.loop-z.z-index in
    let zs = c.args.zs.now in
    let s : SFits w64 (get_or zs i (pos 0)) = search rules in
    simp to_z-of_z (omega (arith, codes-room c.args.w zs i c.loop-z-test.true))

pub loop-z-preserved : goal.loop-z-preserved
unfolding bits_of
loop-z-preserved c =
    let l = c.loop-z in
    let a = c.args in
    let zs = a.zs.now in
    let h = c.loop-z-test.true in
    let s : SFits w64 (get_or zs l.z-index (pos 0)) = search rules in
    let p = simp to_z-of_z at c.put_code-p.ensures.value in
    let b = simp to_z-of_z at c.put_code-p.ensures.buf_after in (
      omega arith,
      omega arith,
      omega (arith, p, codes-next a.w zs l.z-index h),
      turn-slow a.w zs l.z-index h (bit_string 8 a.buf.now) (bit_string 8 l.buf) a.at l.p l.have l.held l.invariant.3 l.invariant.2 _ _ c.put_bits.ensures b,
    )

pub put_bits-requires-2 : goal.put_bits-requires-2
put_bits-requires-2 c =
    let l = c.loop-z in
    let e = ap (λ (x : List ℤ). length (codes c.args.w x)) (take_all l.z-index c.args.zs.now (omega arith)) in
    record { w_in_bounds = omega (arith, e); buf_len_bound = omega arith; w_bound = l.invariant.0 }

pub overflow_add-result : goal.overflow_add-result
overflow_add-result c = omega (arith, ap (λ (x : List ℤ). length (codes c.args.w x)) (take_all c.loop-z.z-index c.args.zs.now (omega arith)))

pub returns : goal.returns
returns c =
    let l = c.loop-z in
    let a = c.args in
    let e = take_all l.z-index a.zs.now (omega arith) in record {
      value = l.invariant.2 ∙ ap (λ (x : List ℤ). a.at + length (codes a.w x)) e;
      buf_after = c.put_bits-2.ensures ∙ l.invariant.3 ∙ ap (λ (x : List ℤ). sets (bit_string 8 a.buf.now) a.at (codes a.w x)) e;
    }
