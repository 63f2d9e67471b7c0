use mathlib.Core.Path.{◌≡◌, sym, ap, ◌∙◌, subst}
use native.Mathlib.Omega.{arith}
use native.Mathlib.Nat.{mod-lt}
use lib.Dec.{lit<}
use Rattle.ring.specs.Words.{q, Below}
use Rattle.ring.specs.Poly.{map2}
use Rattle.ring.specs.Residue.{mods, crt_of}
use Rattle.ring.proofs.Pairs.{each-low, each_more, each-end}
use Rattle.ring.proofs.Places.{below-mods}
use Rattle.ring.proofs.Crt.{below-crt, crt-rest, map2-rests}
use Rattle.ring.proofs.residue.combined.Goals as goal

pub combine-requires : goal.combine-requires
combine-requires c =
    let l = c.loop-i in
    (each-low _ _ _ l.i l.a l.invariant _ (lit< tt) c.requires.0.low, rw c.reduce.ensures (mod-lt _ (lit< tt)))

pub loop-i-preserved : goal.loop-i-preserved
loop-i-preserved c =
    let l = c.loop-i in
    each_more _ _ _ l.i l.a l.invariant c.combine.result (omega arith) (c.requires.0.long ∙ sym c.requires.1)
    (c.combine.ensures.0 ∙ crt-rest _ _ ∙ ap (crt_of _) c.reduce.ensures)

pub returns : goal.returns
returns c =
    let l = c.loop-i in
    let e : l.a ≡ map2 crt_of (mods 33292289 c.args.a.now) (mods 16515073 c.args.b.now) =
    each-end _ _ _ l.i l.a l.invariant (omega arith) (c.requires.0.long ∙ sym c.requires.1) ∙ map2-rests c.args.a.now c.args.b.now in (
      e,
      record {
        long = l.invariant.long ∙ c.requires.0.long;
        low = subst (Below q) (sym e) (below-crt (mods 33292289 c.args.a.now) (mods 16515073 c.args.b.now) (below-mods (lit< tt) c.args.b.now));
      },
    )
