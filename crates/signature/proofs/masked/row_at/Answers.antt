use mathlib.Core.Path.{◌≡◌}
use Prim.Native.Nat.{◌*◌}
use native.Mathlib.Omega.{arith}
use Rattle.ring.specs.Rns.{words_of}
use Rattle.sharing.specs.Region.{span}
use Rattle.sharing.proofs.Lists.{inside}
use Rattle.sharing.proofs.Regions.{wrote-start, wrote-end}
use Rattle.signature.proofs.Rows.{row-turn}
use Rattle.signature.proofs.masked.row_at.Goals as goal

pub loop-j-init : goal.loop-j-init
loop-j-init c = (omega arith, wrote-start 512 _ 0 c.args.to c.args.s.now c.requires.2)

pub row_share-r-requires : goal.row_share-r-requires
row_share-r-requires c =
    let v = c.loop-j.invariant.1 in
    (omega (arith, c.requires.1, v.long), v.low, c.requires.3, c.requires.4, c.requires.5, c.loop-j-test.true)

pub overflow_mul-j : goal.overflow_mul-j
overflow_mul-j c = omega (arith, inside c.loop-j.j c.args.d 512 c.loop-j-test.true, c.requires.0, c.requires.1)

pub overflow_add-to : goal.overflow_add-to
overflow_add-to c = omega (arith, inside c.loop-j.j c.args.d 512 c.loop-j-test.true, c.requires.0, c.requires.1)

pub store_at-requires : goal.store_at-requires
store_at-requires c =
    let v = c.loop-j.invariant.1 in
    (omega (arith, inside c.loop-j.j c.args.d 512 c.loop-j-test.true, c.requires.0, c.requires.1, v.long), v.low, c.row_share-r.ensures.1.low)

pub loop-j-preserved : goal.loop-j-preserved
loop-j-preserved c =
    let b = c.args in
    let l = c.loop-j in
    let t = c.loop-j-test.true in (
      omega (arith, t),
      row-turn b.d b.l b.to b.at l.j (span (words_of b.a.now) b.from (b.l * 512)) b.s.now l.s _ _ c.requires.0 t l.invariant.1 c.row_share-r.ensures.0 c.store_at.ensures,
    )

pub returns : goal.returns
returns c =
    let b = c.args in
    let l = c.loop-j in
    let e : l.j ≡ b.d = omega (arith, l.invariant.0, c.loop-j-test.false) in
    wrote-end 512 _ e l.invariant.1
