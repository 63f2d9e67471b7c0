use native.Mathlib.Omega.{arith}
use Rattle.ring.proofs.Tables.{prime-pos}
use Rattle.ring.proofs.LoosePairs.{loose-each-low, loose-each-more, loose-each-end}
use Rattle.ring.proofs.residue.scaled.Goals as goal

pub mul_wide-requires : goal.mul_wide-requires
mul_wide-requires c =
    let l = c.loop-x in
    let pos = prime-pos c.args.which in
    (c.requires.0, loose-each-low _ _ _ _ pos l.x-index l.a l.invariant _ (omega (arith, pos)) c.requires.1)

pub loop-x-preserved : goal.loop-x-preserved
loop-x-preserved c =
    let l = c.loop-x in
    loose-each-more _ _ _ _ (prime-pos c.args.which) l.x-index l.a l.invariant c.mul_wide.result (omega arith) c.mul_wide.ensures

pub returns : goal.returns
returns c =
    let l = c.loop-x in
    loose-each-end _ _ _ _ (prime-pos c.args.which) l.x-index l.a l.invariant (omega arith)
