use mathlib.Core.Path.{sym, ◌∙◌}
use native.Mathlib.Omega.{arith}
use lib.IntN.{pos}
use lib.ListN.{get_or}
use mir.Syntax.{w64}
use mir.Val.{SFits}
use mir.ValLaws.{to_z-of_z}
use borrow.Author.Rules.{rules}
use Rattle.ring.proofs.Pairs.{take-turn, take-end}
use Rattle.ring.proofs.Reduced.{length-residues, residues-at}
use Rattle.signature.proofs.residues.residues_into.Goals as goal

pub loop-i-preserved : goal.loop-i-preserved
loop-i-preserved c =
    let m = c.args.m in
    let zs = c.args.zs.now in
    let s : SFits w64 (get_or zs c.loop-i.i (pos 0)) = search rules in
    take-turn _ _ _ _ (omega arith) (omega (arith, length-residues m zs)) c.loop-i.invariant
    (simp to_z-of_z at c.residue.ensures.0 ∙ sym (residues-at m zs (pos 0) c.loop-i.i c.loop-i-test.true))

pub returns : goal.returns
returns c = take-end _ _ c.loop-i.i (omega arith) (omega (arith, length-residues c.args.m c.args.zs.now)) c.loop-i.invariant
