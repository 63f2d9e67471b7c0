use Prim.Native.Nat.{ℕ}
use native.Mathlib.Omega.{arith}
use Rattle.ring.proofs.Tables.{prime-pos}
use Rattle.ring.proofs.LoosePairs.{loose-paired-start, loose-paired-lo, loose-paired-hi, loose-paired-more, loose-paired-end}
use Rattle.ring.proofs.residue.merge.Goals as goal

pub loop-i-init : goal.loop-i-init
loop-i-init c = loose-paired-start _ _ _ _ _ _ c.requires.0 (λ (m : ℕ). omega arith)

pub back-r-requires : goal.back-r-requires
back-r-requires c =
    let l = c.loop-i in
    let pos = prime-pos c.args.which in (
      c.requires.1,
      loose-paired-lo _ _ _ _ _ _ c.requires.0 pos l.i _ l.invariant (omega arith) _ (omega (arith, pos)) c.requires.2,
      loose-paired-hi _ _ _ _ _ _ c.requires.0 pos l.i _ l.invariant (omega arith) _ (omega (arith, pos)) c.requires.2,
    )

pub loop-i-preserved : goal.loop-i-preserved
loop-i-preserved c =
    let l = c.loop-i in
    let e = c.back-r.ensures in
    let pos = prime-pos c.args.which in
    loose-paired-more _ _ _ _ _ _ c.requires.0 pos l.i l.a l.invariant (omega arith) _ _ e.sum_is e.diff_is
    (λ (m : ℕ) b x y. (omega (arith, b, x, y, e.sum_low), omega (arith, b, x, y, e.diff-low)))

pub returns : goal.returns
returns c =
    let l = c.loop-i in
    loose-paired-end _ _ _ _ _ _ c.requires.0 _ _ l.invariant (omega arith)
