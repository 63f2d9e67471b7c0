use Prim.Native.Nat.{◌+◌, ◌*◌, ◌≤◌, ◌<◌}
use mathlib.Core.Path.{◌∙◌}
use native.Mathlib.Omega.{arith}
use native.Mathlib.Nat.{sub_self}
use lib.IntN.{pos}
use lib.ListN.{length, length-set}
use lib.Seq.{get_or-set_other}
use borrow.Author.Rules.{rules, sfits_of}
use mir.Syntax.{w64}
use mir.Val.{SFits, to_z, of_z}
use mir.ValLaws.{to_z-of_z}
use Rattle.signature.specs.Bits.{bit_string}
use Rattle.signature.specs.Code.{read_codes}
use Rattle.signature.proofs.Strings.{length_fields, fields_bits}
use Rattle.signature.proofs.Lists.{read-stopped, read-on}
use Rattle.signature.proofs.WordReads.{zeros-least, small-turn, there, there-is, run-some, small-tests, all-cleared}
use Rattle.signature.proofs.code.get_small.Goals as goal

pub loop-i-init : goal.loop-i-init
unfolding read_codes
loop-i-init c =
    (omega arith, omega arith, c.requires.at_in_bounds, rw sub_self, λ p h. all-cleared _ (length c.args.out.now) p (search rules))

pub loop-i-preserved-then-b-a : goal.loop-i-preserved-then-b-a
loop-i-preserved-then-b-a c =
    let l = c.loop-i in
    let f = c.args.buf.now in
    let x = c.word_from-x.ensures.value in
    let a = c.zeros_in-a.result in
    let b = c.run_in-b.result in
    let y = to_z w64 (of_z w64 c.signed.result) in
    -- what the code's tests say, and the word that they were made on
    let tests = small-tests a b _ c.if-b-a.true in
    let inside : l.k + 56 ≤ length f * 8 = there _ _ _ _ x (run-some _ _ _ c.run_in-b.ensures.value tests.0) in
    let room : l.i + a < length l.out = omega arith in (
      simp length-set (omega arith),
      omega arith,
      omega arith,
      small-turn (bit_string 8 f) c.args.at l.k l.i l.invariant.1 (fields_bits 8 f) _ a b l.out y (omega (arith, length_fields 8 f))
          (there-is _ _ _ _ x inside) c.run_in-b.ensures.value tests.1 tests.0 (zeros-least _ a c.zeros_in-a.ensures) room
          l.invariant.4 l.invariant.3 (to_z-of_z w64 c.signed.result (sfits_of c.signed.type_inv) ∙ c.signed.ensures),
      (λ p h. get_or-set_other l.out (l.i + a) p y (pos 0) (λ e. omega arith) ∙ l.invariant.4 p (omega arith)),
    )

pub returns-in_err-z : goal.returns-in_err-z
returns-in_err-z c =
    let l = c.loop-i in
    let a = c.args in
    rw (read-stopped (bit_string 8 a.buf.now) 0 a.at l.k l.i l.out l.invariant.1 l.invariant.3 (length a.out.now) (omega arith) c.in_err-z.ensures)
    c.from_residual.ensures

pub loop-i-preserved : goal.loop-i-preserved
loop-i-preserved c =
    let l = c.loop-i in
    let a = c.args in
    let b = a.buf.now in
    let z = c.in_ok-z.z in
    let s : SFits w64 z = search rules in
    let r = read-on (bit_string 8 b) 0 a.at l.k l.i l.out l.invariant.1 l.invariant.3 z _ c.in_ok-z.next (to_z-of_z w64 z s) c.loop-i-test.true
    (omega (arith, length_fields 8 b)) c.in_ok-z.ensures in (
      simp length-set (omega arith),
      r.0,
      omega (arith, r.1, length_fields 8 b),
      r.2,
      (λ q e. get_or-set_other l.out l.i q _ (pos 0) (λ o. omega arith) ∙ l.invariant.4 q (omega arith)),
    )
