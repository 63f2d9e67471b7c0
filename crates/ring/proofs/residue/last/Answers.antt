use native.Mathlib.Omega.{arith}
use Rattle.ring.specs.Residue.{prime, zeta}
use Rattle.ring.proofs.Bounds.{zeta-below}
use Rattle.ring.proofs.Blocks.{last-four}
use Rattle.ring.proofs.Tables.{prime-pos}
use Rattle.ring.proofs.LevelRanges.{low-at}
use Rattle.ring.proofs.residue.last.Goals as goal

pub cross-s-requires : goal.cross-s-requires
cross-s-requires c =
    let low = low-at 16 (prime-pos c.args.which) (omega arith) c.args.a.now c.requires.1.low in
    (zeta-below c.args.which _ c.zeta-w.ensures, omega (arith, low 0), omega (arith, low 2))

pub cross-t-requires : goal.cross-t-requires
cross-t-requires c =
    let low = low-at 16 (prime-pos c.args.which) (omega arith) c.args.a.now c.requires.1.low in
    (zeta-below c.args.which _ c.zeta-w.ensures, omega (arith, low 1), omega (arith, low 3))

pub cross-u-requires : goal.cross-u-requires
cross-u-requires c =
    let low = low-at 16 (prime-pos c.args.which) (omega arith) c.args.a.now c.requires.1.low in
    (zeta-below c.args.which _ c.zeta.ensures, omega (arith, low 0, c.cross-s.ensures.sum_low), omega (arith, low 1, c.cross-t.ensures.sum_low))

pub cross-v-requires : goal.cross-v-requires
cross-v-requires c =
    let low = low-at 16 (prime-pos c.args.which) (omega arith) c.args.a.now c.requires.1.low in
    (zeta-below c.args.which _ c.zeta-2.ensures, omega (arith, low 0, c.cross-s.ensures.diff-low), omega (arith, low 1, c.cross-t.ensures.diff-low))

pub returns : goal.returns
returns c =
    let r = c.cross-s.ensures in
    let s = c.cross-t.ensures in
    let t = c.cross-u.ensures in
    let u = c.cross-v.ensures in
    last-four (prime c.args.which) (zeta c.args.which) c.args.k c.args.a.now c.requires.1.long
    _ _ _ c.zeta-w.ensures _ _ _ _ _ _ _ _ c.zeta.ensures c.zeta-2.ensures r s t u 16
    (low-at 16 (prime-pos c.args.which) (omega arith) c.args.a.now c.requires.1.low 0)
