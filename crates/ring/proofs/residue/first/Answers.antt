use native.Mathlib.Omega.{arith}
use Rattle.ring.specs.Residue.{prime, zeta}
use Rattle.ring.proofs.Bounds.{zeta-below}
use Rattle.ring.proofs.Blocks.{first-four}
use Rattle.ring.proofs.LevelRanges.{back-two}
use Rattle.ring.proofs.Sums.{below_at}
use Rattle.ring.proofs.Tables.{prime-pos}
use Rattle.ring.proofs.residue.first.Goals as goal

pub back-s-requires : goal.back-s-requires
back-s-requires c =
    let low = below_at _ (prime-pos c.args.which) c.args.a.now c.requires.1.low in
    (zeta-below c.args.which _ c.zeta.ensures, omega (arith, low 0), omega (arith, low 1))

pub back-t-requires : goal.back-t-requires
back-t-requires c =
    let low = below_at _ (prime-pos c.args.which) c.args.a.now c.requires.1.low in
    (zeta-below c.args.which _ c.zeta-2.ensures, omega (arith, low 2), omega (arith, low 3))

pub back-u-requires : goal.back-u-requires
back-u-requires c =
    let low = below_at _ (prime-pos c.args.which) c.args.a.now c.requires.1.low in
    (zeta-below c.args.which _ c.zeta-w.ensures, omega (arith, low 0, low 1, c.back-s.ensures.sum_low), omega (arith, low 2, low 3, c.back-t.ensures.sum_low))

pub back-v-requires : goal.back-v-requires
back-v-requires c =
    (zeta-below c.args.which _ c.zeta-w.ensures, omega (arith, c.back-s.ensures.diff-low), omega (arith, c.back-t.ensures.diff-low))

pub returns : goal.returns
returns c =
    let r = c.back-s.ensures in
    let s = c.back-t.ensures in
    let t = c.back-u.ensures in
    let u = c.back-v.ensures in
    back-two (prime c.args.which) _ _
    (first-four (prime c.args.which) (zeta c.args.which) c.args.k c.args.a.now c.requires.1.long
    _ _ _ c.zeta-w.ensures _ _ _ _ _ _ _ _ c.zeta.ensures c.zeta-2.ensures r s t u
    (prime-pos c.args.which) c.requires.1.low)
