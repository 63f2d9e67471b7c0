use native.Mathlib.Omega.{arith}
use lib.IntN.{pos}
use lib.ListN.{get_or}
use mir.Syntax.{w8}
use mir.Val.{SFits}
use borrow.Author.Rules.{rules}
use Rattle.signature.specs.Code.{codes_bits}
use Rattle.signature.proofs.Counts.{count-more}
use Rattle.sizes.proofs.Told.{byte_low, byte-same, hint-code}
use Rattle.sizes.proofs.count.hint_bits.Goals as goal

pub loop-z-init : goal.loop-z-init
unfolding codes_bits
loop-z-init c = search rules

pub overflow_add-n : goal.overflow_add-n
overflow_add-n c =
    let z = get_or c.args.hint.now c.loop-z.z-index (pos 0) in
    let s : SFits w8 z = search rules in
    omega (arith, rw (c.from.ensures, byte-same z s) at c.code_bits-n.ensures, hint-code z (byte_low z s))

pub loop-z-preserved : goal.loop-z-preserved
loop-z-preserved c =
    let z = get_or c.args.hint.now c.loop-z.z-index (pos 0) in
    let s : SFits w8 z = search rules in
    let n = rw (c.from.ensures, byte-same z s) at c.code_bits-n.ensures in
    (omega (arith, n, hint-code z (byte_low z s)), omega (arith, n, count-more 0 c.args.hint.now c.loop-z.z-index c.loop-z-test.true))
