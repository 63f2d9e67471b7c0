use mathlib.Core.Path.{◌≡◌, sym, ◌∙◌, subst}
use native.Mathlib.Omega.{arith}
use lib.Dec.{lit<}
use Rattle.ring.specs.Words.{q, addq, zip_to, Below}
use Rattle.ring.proofs.Pairs.{each-low, each_more, each-end, map2-zip}
use Rattle.ring.proofs.Sums.{addq-lt, below_at, below-zip}
use Rattle.ring.proofs.poly.add_into.Goals as goal

pub add_word-requires : goal.add_word-requires
add_word-requires c =
    let l = c.loop-i in
    (each-low _ _ _ l.i l.s l.invariant _ (lit< tt) c.requires.1, below_at _ (lit< tt) c.args.p.now c.requires.2 l.i)

pub loop-i-preserved : goal.loop-i-preserved
loop-i-preserved c =
    let l = c.loop-i in
    each_more _ _ _ l.i l.s l.invariant c.add_word.result (omega arith) c.requires.0 c.add_word.ensures

pub returns : goal.returns
returns c =
    let l = c.loop-i in
    let e : l.s ≡ zip_to addq c.args.s.now c.args.p.now =
    each-end _ _ _ l.i l.s l.invariant (omega arith) c.requires.0 ∙ map2-zip addq c.args.s.now c.args.p.now c.requires.0 in
    (e, subst (Below q) (sym e) (below-zip q addq addq-lt c.args.s.now c.args.p.now c.requires.1))
