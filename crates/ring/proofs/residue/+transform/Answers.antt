use native.Mathlib.Omega.{arith}
use Rattle.ring.specs.Residue.{prime, zeta}
use Rattle.ring.proofs.Bounds.{zeta-below}
use Rattle.ring.proofs.Blocks.{in_halves, node-lt, long-half, first_block, second_block, whole-fwd}
use Rattle.ring.proofs.LevelRanges.{forth-low, forth-more}
use Rattle.ring.proofs.residue.+transform.Goals as goal

pub zeta-w-requires : goal.zeta-w-requires
zeta-w-requires t c =
    let v = in_halves 3 c.if-d-gt3.true c.requires.3 in
    (c.requires.0, node-lt v)

pub split-requires : goal.split-requires
split-requires t c =
    let g = c.args in
    let l = c.if-d-gt3.true in
    let v = in_halves 3 l c.requires.3 in (
      long-half v,
      zeta-below g.which _ c.zeta-w.ensures,
      forth-low (prime g.which) g.d (omega (arith, l)) c.requires.2 g.a.now c.requires.3.low,
    )

pub transform-requires : goal.transform-requires
transform-requires t c =
    let g = c.args in
    let l = c.if-d-gt3.true in
    let v = in_halves 3 l c.requires.3 in
    let s = c.split in
    let low = forth-more (prime g.which) g.d (omega (arith, l)) c.requires.2 g.a.now c.requires.3.low _ s.new.a s.ensures in (
      omega arith,
      (c.requires.0, omega arith, omega (arith, c.requires.2), first_block v s.new.a s.auto.a _ low),
    )

pub transform-requires-then-d-gt3 : goal.transform-requires-then-d-gt3
transform-requires-then-d-gt3 t c =
    let g = c.args in
    let l = c.if-d-gt3.true in
    let v = in_halves 3 l c.requires.3 in
    let s = c.split in
    let r = c.transform in
    let low = forth-more (prime g.which) g.d (omega (arith, l)) c.requires.2 g.a.now c.requires.3.low _ s.new.a s.ensures in (
      omega arith,
      (c.requires.0, omega arith, omega (arith, c.requires.2), second_block v s.new.a s.auto.a r.new.a r.auto.a _ low),
    )

pub returns-then-d-gt3 : goal.returns-then-d-gt3
returns-then-d-gt3 t c =
    let g = c.args in
    let v = in_halves 3 c.if-d-gt3.true c.requires.3 in
    let w = c.zeta-w in
    let s = c.split in
    let r = c.transform in
    let o = c.transform-then-d-gt3 in
    whole-fwd v s.new.a s.auto.a r.new.a r.auto.a o.new.a
    (prime g.which) w.result _ s.ensures _ (zeta g.which) w.ensures r.ensures o.ensures
