use native.Mathlib.Omega.{arith}
use Rattle.ring.specs.Residue.{prime, zeta}
use Rattle.ring.proofs.Bounds.{zeta-below}
use Rattle.ring.proofs.Blocks.{in_halves, node-lt, first_part, second-part, laid-long, laid-low, whole-bwd}
use Rattle.ring.proofs.residue.+invert.Goals as goal

pub invert-requires : goal.invert-requires
invert-requires t c =
    let v = in_halves 3 c.if-d-gt3.true c.requires.3 in
    (omega arith, (c.requires.0, omega arith, omega (arith, c.requires.2), first_part v))

pub invert-requires-then-d-gt3 : goal.invert-requires-then-d-gt3
invert-requires-then-d-gt3 t c =
    let v = in_halves 3 c.if-d-gt3.true c.requires.3 in
    let r = c.invert in (
      omega arith,
      (c.requires.0, omega arith, omega (arith, c.requires.2), second-part v r.new.a r.auto.a),
    )

pub zeta-w-requires : goal.zeta-w-requires
zeta-w-requires t c =
    let v = in_halves 3 c.if-d-gt3.true c.requires.3 in
    (c.requires.0, node-lt v)

pub level-requires : goal.level-requires
level-requires t c =
    let g = c.args in
    let l = c.if-d-gt3.true in
    let v = in_halves 3 l c.requires.3 in
    let r = c.invert in
    let s = c.invert-then-d-gt3 in (
      laid-long v r.new.a r.auto.a s.new.a s.auto.a,
      zeta-below g.which _ c.zeta-w.ensures,
      omega (arith, l),
      c.requires.2,
      laid-low v r.new.a r.auto.a s.new.a s.auto.a
          (prime g.which) _ (zeta g.which) r.ensures s.ensures,
    )

pub returns-then-d-gt3 : goal.returns-then-d-gt3
returns-then-d-gt3 t c =
    let g = c.args in
    let v = in_halves 3 c.if-d-gt3.true c.requires.3 in
    let r = c.invert in
    let s = c.invert-then-d-gt3 in
    let w = c.zeta-w in
    let o = c.level in
    whole-bwd v r.new.a r.auto.a s.new.a s.auto.a
    (prime g.which) _ (zeta g.which) r.ensures s.ensures _ w.result w.ensures o.new.a o.ensures
