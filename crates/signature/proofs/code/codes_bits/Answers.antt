use native.Mathlib.Omega.{arith}
use lib.ListN.{get_or}
use lib.IntN.{pos}
use mir.Syntax.{w64}
use mir.Val.{SFits}
use mir.ValLaws.{to_z-of_z}
use borrow.Author.Rules.{rules}
use Rattle.signature.specs.Code.{codes_bits}
use Rattle.signature.proofs.Counts.{code-few, count-more}
use Rattle.signature.proofs.code.codes_bits.Goals as goal

pub loop-z-init : goal.loop-z-init
unfolding codes_bits
loop-z-init c = search rules

pub overflow_add-n : goal.overflow_add-n
overflow_add-n c =
    let i = c.loop-z.z-index in
    let z = get_or c.args.zs.now i (pos 0) in
    let s : SFits w64 z = search rules in
    omega (arith, simp to_z-of_z at c.code_bits-n.ensures, code-few c.args.w z c.requires.w_bound (c.requires.by_index i))

pub loop-z-preserved : goal.loop-z-preserved
loop-z-preserved c =
    let i = c.loop-z.z-index in
    let z = get_or c.args.zs.now i (pos 0) in
    let s : SFits w64 z = search rules in
    let n = simp to_z-of_z at c.code_bits-n.ensures in
    (omega (arith, n, code-few c.args.w z c.requires.w_bound (c.requires.by_index i)), omega (arith, n, count-more c.args.w c.args.zs.now i c.loop-z-test.true))
