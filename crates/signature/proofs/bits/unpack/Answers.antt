use Prim.Native.Nat.{ℕ}
use mathlib.Core.Path.{◌≡◌, sym, ap, ◌∙◌}
use native.Mathlib.Omega.{arith}
use borrow.Author.Rules.{rules}
use lib.ListN.{length}
use lib.Seq.{take_all}
use Rattle.signature.specs.Bits.{bit_string, chop, repack}
use Rattle.signature.proofs.Packing.{unpack-more}
use Rattle.signature.proofs.bits.unpack.Goals as goal

pub loop-i-init : goal.loop-i-init
unfolding chop
loop-i-init c = search rules

pub loop-i-preserved : goal.loop-i-preserved
loop-i-preserved c =
    unpack-more c.args.w (bit_string 8 c.args.bytes.now) c.loop-i.out c.loop-i.i c.get_bits.result (omega arith) c.loop-i.invariant c.get_bits.ensures.value

pub returns : goal.returns
unfolding repack
returns c =
    let l = c.loop-i in
    let e : l.i ≡ length c.args.out.now = omega arith in
    sym (take_all l.i l.out (omega arith)) ∙ l.invariant ∙ ap (λ (n : ℕ). chop c.args.w n (bit_string 8 c.args.bytes.now)) e
