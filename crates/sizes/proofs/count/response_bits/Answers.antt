use native.Mathlib.Omega.{arith}
use lib.IntN.{pos}
use lib.ListN.{get_or}
use mir.Syntax.{w64}
use mir.Val.{SFits}
use mir.ValLaws.{to_z-of_z}
use borrow.Author.Rules.{rules}
use Rattle.signature.specs.Code.{codes_bits}
use Rattle.signature.proofs.Counts.{count-more}
use Rattle.signature.proofs.Signs.{abs-fits}
use Rattle.sizes.proofs.Told.{response-code}
use Rattle.sizes.proofs.count.response_bits.Goals as goal

pub loop-z-init : goal.loop-z-init
unfolding codes_bits
loop-z-init c = search rules

pub overflow_add-n : goal.overflow_add-n
overflow_add-n c =
    let z = get_or c.args.response.now c.loop-z.z-index (pos 0) in
    let s : SFits w64 z = search rules in
    omega (arith, simp to_z-of_z at c.code_bits-n.ensures, response-code z (abs-fits z s))

pub loop-z-preserved : goal.loop-z-preserved
loop-z-preserved c =
    let z = get_or c.args.response.now c.loop-z.z-index (pos 0) in
    let s : SFits w64 z = search rules in
    let n = simp to_z-of_z at c.code_bits-n.ensures in
    (omega (arith, n, response-code z (abs-fits z s)), omega (arith, n, count-more 40 c.args.response.now c.loop-z.z-index c.loop-z-test.true))
