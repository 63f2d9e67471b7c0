use mathlib.Core.Path.{sym, ◌∙◌}
use native.Mathlib.Omega.{arith}
use mir.Syntax.{w64}
use mir.ValLaws.{to_z-of_z}
use borrow.Author.Rules.{rules}
use Rattle.ring.proofs.Sums.{below_at}
use Rattle.signature.proofs.Centred.{length-centred, centred-at, signed-turn, signed-end}
use Rattle.signature.proofs.residues.centred_into.Goals as goal

pub centred-requires : goal.centred-requires
centred-requires c = (below_at c.args.m c.requires.2 c.args.words.now c.requires.1 c.loop-i.i, c.requires.3)

pub loop-i-preserved : goal.loop-i-preserved
loop-i-preserved c =
    let m = c.args.m in
    let ws = c.args.words.now in
    signed-turn _ _ _ _ (omega arith) (omega (arith, length-centred m ws)) c.loop-i.invariant
    (to_z-of_z w64 c.centred.result (search rules) ∙ c.centred.ensures ∙ sym (centred-at m ws c.loop-i.i c.loop-i-test.true))

pub returns : goal.returns
returns c = signed-end _ _ c.loop-i.i (omega arith) (omega (arith, length-centred c.args.m c.args.words.now)) c.loop-i.invariant
