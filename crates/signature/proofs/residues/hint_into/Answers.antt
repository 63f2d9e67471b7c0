use mathlib.Core.Path.{ap, sym, ◌∙◌}
use native.Mathlib.Omega.{arith}
use mir.Syntax.{w64}
use mir.ValLaws.{to_z-of_z}
use borrow.Author.Rules.{rules}
use lib.Dec.{lit<}
use Rattle.ring.specs.Round.{centred}
use Rattle.ring.specs.Words.{zip_to}
use Rattle.ring.proofs.Sums.{below_at, length-zip, zip-at}
use Rattle.signature.specs.Recover.{sub31}
use Rattle.signature.proofs.Centred.{length-centred, centred-at, signed-turn, signed-end}
use Rattle.signature.proofs.residues.hint_into.Goals as goal

pub overflow_sub-d : goal.overflow_sub-d
overflow_sub-d c = omega (arith, below_at 31 (lit< tt) c.args.y c.requires.1.low c.loop-i.i)

pub overflow_add-d : goal.overflow_add-d
overflow_add-d c = record { fits = omega (arith, below_at 31 (lit< tt) c.args.w c.requires.0.low c.loop-i.i) }

pub loop-i-preserved : goal.loop-i-preserved
loop-i-preserved c =
    let i = c.loop-i.i in
    let w = c.args.w in
    let y = c.args.y in
    let X = zip_to sub31 w y in
    let n = length-zip sub31 w y in
    let long = c.requires.0.long in
    signed-turn _ _ _ _ (omega arith) (omega (arith, long, n, length-centred 31 X)) c.loop-i.invariant
    (to_z-of_z w64 c.centred.result (search rules) ∙ c.centred.ensures
    ∙ ap (centred 31) (sym (zip-at sub31 w y i (omega (arith, long)) (omega (arith, c.requires.1.long))))
    ∙ sym (centred-at 31 X i (omega (arith, long, n))))

pub returns : goal.returns
returns c =
    let X = zip_to sub31 c.args.w c.args.y in
    signed-end _ _ c.loop-i.i (omega arith)
    (omega (arith, c.requires.0.long, length-zip sub31 c.args.w c.args.y, length-centred 31 X)) c.loop-i.invariant
