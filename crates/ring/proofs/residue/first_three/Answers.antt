use native.Mathlib.Omega.{arith}
use Rattle.ring.specs.Residue.{prime, zeta}
use Rattle.ring.proofs.Bounds.{zeta-below}
use Rattle.ring.proofs.Blocks.{eight-in-halves, second-part, laid-long, laid-low, whole-bwd}
use Rattle.ring.proofs.residue.first_three.Goals as goal

pub first-requires-2 : goal.first-requires-2
first-requires-2 c =
    let r = c.first in
    (c.requires.0, second-part (eight-in-halves c.requires.1) r.new.a r.auto.a)

pub level-requires : goal.level-requires
level-requires c =
    let g = c.args in
    let v = eight-in-halves c.requires.1 in
    let r = c.first in
    let s = c.first-2 in (
      laid-long v r.new.a r.auto.a s.new.a s.auto.a,
      zeta-below g.which _ c.zeta-w.ensures,
      omega arith,
      omega arith,
      laid-low v r.new.a r.auto.a s.new.a s.auto.a (prime g.which) _ (zeta g.which) r.ensures s.ensures,
    )

pub returns : goal.returns
returns c =
    let g = c.args in
    let r = c.first in
    let s = c.first-2 in
    let w = c.zeta-w in
    let o = c.level in
    whole-bwd (eight-in-halves c.requires.1) r.new.a r.auto.a s.new.a s.auto.a
    (prime g.which) _ (zeta g.which) r.ensures s.ensures _ w.result w.ensures o.new.a o.ensures
