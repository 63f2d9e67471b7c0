use native.Mathlib.Omega.{arith}
use Rattle.ring.specs.Residue.{prime, zeta}
use Rattle.ring.proofs.Bounds.{zeta-below}
use Rattle.ring.proofs.Blocks.{eight-in-halves, first_block, second_block, whole-fwd}
use Rattle.ring.proofs.LevelRanges.{forth-low, forth-more}
use Rattle.ring.proofs.residue.last_three.Goals as goal

pub split-requires : goal.split-requires
split-requires c =
    let g = c.args in (
      c.requires.1.long,
      zeta-below g.which _ c.zeta-w.ensures,
      forth-low (prime g.which) 3 (omega arith) (omega arith) g.a.now c.requires.1.low,
    )

pub last-requires : goal.last-requires
last-requires c =
    let g = c.args in
    let s = c.split in
    let low = forth-more (prime g.which) 3 (omega arith) (omega arith) g.a.now c.requires.1.low _ s.new.a s.ensures in
    (c.requires.0, first_block (eight-in-halves c.requires.1) s.new.a s.auto.a _ low)

pub last-requires-2 : goal.last-requires-2
last-requires-2 c =
    let g = c.args in
    let s = c.split in
    let r = c.last in
    let low = forth-more (prime g.which) 3 (omega arith) (omega arith) g.a.now c.requires.1.low _ s.new.a s.ensures in
    (c.requires.0, second_block (eight-in-halves c.requires.1) s.new.a s.auto.a r.new.a r.auto.a _ low)

pub returns : goal.returns
returns c =
    let g = c.args in
    let w = c.zeta-w in
    let s = c.split in
    let r = c.last in
    let o = c.last-2 in
    whole-fwd (eight-in-halves c.requires.1) s.new.a s.auto.a r.new.a r.auto.a o.new.a
    (prime g.which) w.result _ s.ensures _ (zeta g.which) w.ensures r.ensures o.ensures
