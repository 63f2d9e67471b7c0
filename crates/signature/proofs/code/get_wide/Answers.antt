use Prim.Native.Nat.{◌+◌, ◌*◌, ◌≤◌, ◌<◌}
use mathlib.Core.Path.{◌∙◌}
use native.Mathlib.Omega.{arith}
use native.Mathlib.Nat.{sub_self}
use lib.ListN.{length, length-set}
use borrow.Author.Rules.{rules, sfits_of}
use mir.Syntax.{w64}
use mir.Val.{SFits, to_z, of_z}
use mir.ValLaws.{to_z-of_z}
use Rattle.signature.specs.Bits.{bit_string}
use Rattle.signature.specs.Code.{read_codes}
use Rattle.signature.proofs.Strings.{length_fields, fields_bits}
use Rattle.signature.proofs.Lists.{read-stopped, read-on}
use Rattle.signature.proofs.WordReads.{wide-turn, there, there-is, pair-tests}
use Rattle.signature.proofs.code.get_wide.Goals as goal

pub loop-i-init : goal.loop-i-init
unfolding read_codes
loop-i-init c = (omega arith, omega arith, c.requires.at_in_bounds, rw sub_self)

pub loop-i-preserved-then-y-a : goal.loop-i-preserved-then-y-a
loop-i-preserved-then-y-a c =
    let l = c.loop-i in
    let w = c.args.w in
    let f = c.args.buf.now in
    let x = c.word_from-x.ensures.value in
    let y = c.word_from-y.ensures.value in
    let m = c.mag_from-m.ensures.value in
    let n = c.mag_from-n.ensures.value in
    let a = c.run_in-a.result in
    let b = c.run_in-b.result in
    let u = c.signed.result in
    let v = c.signed-then-y-a.result in
    -- what the code's tests say: the words are there
    let tests = pair-tests c.word_from-y.result a b _ c.mag_from-m.result c.mag_from-n.result c.if-y-a.true in
    let inside : l.k + w + w + 2 + 56 ≤ length f * 8 = there _ _ _ _ y tests.0 in
    let room : l.i + 1 < length l.out = omega arith in
    let out = length-set l.out l.i (to_z w64 (of_z w64 u)) in (
      simp length-set (omega arith),
      omega arith,
      omega arith,
      wide-turn (bit_string 8 f) c.args.at l.k l.i l.invariant.1 (fields_bits 8 f) w _ _ a b _ _ l.out (to_z w64 (of_z w64 u)) (to_z w64 (of_z w64 v))
          (omega (arith, length_fields 8 f)) (there-is (l.k + w + 56) (length f * 8) _ _ x (omega arith)) (there-is _ _ _ _ y inside)
          c.run_in-a.ensures.value c.run_in-b.ensures.value tests.1
          (there-is (l.k + w) (length f * 8) _ _ m (omega arith)) (there-is (l.k + w + a + 2 + w) (length f * 8) _ _ n (omega arith)) tests.3 tests.4 room l.invariant.3
          (to_z-of_z w64 u (sfits_of c.signed.type_inv) ∙ c.signed.ensures)
          (to_z-of_z w64 v (sfits_of c.signed-then-y-a.type_inv) ∙ c.signed-then-y-a.ensures),
    )

pub returns-in_err-z : goal.returns-in_err-z
returns-in_err-z c =
    let l = c.loop-i in
    let a = c.args in
    rw (read-stopped (bit_string 8 a.buf.now) a.w a.at l.k l.i l.out l.invariant.1 l.invariant.3 (length a.out.now) (omega arith) c.in_err-z.ensures)
    c.from_residual.ensures

pub loop-i-preserved : goal.loop-i-preserved
loop-i-preserved c =
    let l = c.loop-i in
    let a = c.args in
    let b = a.buf.now in
    let z = c.in_ok-z.z in
    let s : SFits w64 z = search rules in
    let r = read-on (bit_string 8 b) a.w a.at l.k l.i l.out l.invariant.1 l.invariant.3 z _ c.in_ok-z.next (to_z-of_z w64 z s) c.loop-i-test.true
    (omega (arith, length_fields 8 b)) c.in_ok-z.ensures in
    (simp length-set (omega arith), r.0, omega (arith, r.1, length_fields 8 b), r.2)
