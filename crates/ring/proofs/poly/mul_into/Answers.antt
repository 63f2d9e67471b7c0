use mathlib.Core.Path.{◌≡◌, sym, subst}
use native.Mathlib.Omega.{arith}
use native.Mathlib.Nat.{mod-lt}
use lib.Dec.{lit<}
use Rattle.ring.specs.Words.{q, Below}
use Rattle.ring.specs.Poly.{map2}
use Rattle.ring.specs.Residue.{timesp}
use Rattle.ring.specs.Transform.{pointwise}
use Rattle.ring.proofs.Pairs.{each_more, each-end}
use Rattle.ring.proofs.Places.{below-map2}
use Rattle.ring.proofs.poly.mul_into.Goals as goal

pub loop-i-preserved : goal.loop-i-preserved
loop-i-preserved c =
    let l = c.loop-i in
    each_more _ _ _ l.i l.s l.invariant c.mul_word.result (omega arith) c.requires c.mul_word.ensures

pub returns : goal.returns
unfolding pointwise
returns c =
    let l = c.loop-i in
    let e : l.s ≡ map2 (timesp q) c.args.s.now c.args.p.now = each-end _ _ _ l.i l.s l.invariant (omega arith) c.requires in
    (e, subst (Below q) (sym e) (below-map2 q (timesp q) (λ x y. mod-lt _ (lit< tt)) c.args.s.now c.args.p.now))
