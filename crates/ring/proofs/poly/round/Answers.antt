use mathlib.Core.Path.{◌≡◌, refl, sym, ◌∙◌, subst}
use native.Mathlib.Omega.{arith}
use lib.Dec.{lit<}
use Rattle.ring.specs.Words.{Below}
use Rattle.ring.specs.Poly.{map_n}
use Rattle.ring.specs.Round.{rounded}
use Rattle.ring.proofs.Pairs.{each-low, each_more, each-end, map2-map_n, below-map_n}
use Rattle.ring.proofs.Mapped.{rounded-lt}
use Rattle.ring.proofs.poly.round.Goals as goal

pub rounded-requires : goal.rounded-requires
rounded-requires g c =
    let l = c.loop-x in
    (each-low _ _ _ l.x-index l.x-items l.invariant.1 _ (lit< tt) c.requires.0.low, c.requires.1, c.requires.2, c.requires.3)

pub loop-x-preserved : goal.loop-x-preserved
loop-x-preserved g c =
    let l = c.loop-x in
    (l.invariant.0, each_more _ _ _ l.x-index l.x-items l.invariant.1 c.rounded.result (omega arith) refl c.rounded.ensures)

pub returns : goal.returns
returns g c =
    let l = c.loop-x in
    let f = c.args.f in
    let e : l.x-items ≡ map_n (rounded g.row.BITS g.row.M) f = each-end _ _ _ l.x-index l.x-items l.invariant.1 (omega arith) refl ∙ map2-map_n (rounded g.row.BITS g.row.M) f in
    (e, record { long = l.invariant.1.long ∙ l.invariant.0; low = subst (Below g.row.M) (sym e) (below-map_n g.row.M (rounded g.row.BITS g.row.M) (rounded-lt g.row.BITS g.row.M c.requires.3) f) })
