use mathlib.Core.Path.{◌≡◌, refl}
use Prim.Native.Nat.{◌*◌}
use native.Mathlib.Omega.{arith}
use Rattle.sharing.proofs.Regions.{wrote-start, wrote-turn, wrote_value, wrote-end}
use Rattle.signature.specs.ExpandSteps.{expanded_at}
use Rattle.signature.proofs.Expanded.{words-few, share_in}
use Rattle.signature.proofs.keys.decompress_polynomial.Goals as goal

pub loop-i-init : goal.loop-i-init
loop-i-init c =
    let b = c.args in
    (omega arith, refl, wrote-start 512 (expanded_at b.part.row.p b.part.bytes.now b.j) 0 (b.j * (b.part.row.p.shares * 512)) b.out.now c.requires.full_value.2.low)

pub share_at-x-requires : goal.share_at-x-requires
share_at-x-requires c =
    record { place = (c.requires.place, c.loop-i-test.true); full_value = (c.requires.full_value.0, c.requires.full_value.1) }

pub overflow_mul-d : goal.overflow_mul-d
overflow_mul-d c =
    omega (arith, share_in c.args.part.row.p c.args.part.row.tabled c.args.j c.loop-i.i c.requires.place c.loop-i-test.true, words-few c.args.part.row.p c.args.part.row.tabled)

pub overflow_mul-j : goal.overflow_mul-j
overflow_mul-j c =
    omega (arith, share_in c.args.part.row.p c.args.part.row.tabled c.args.j c.loop-i.i c.requires.place c.loop-i-test.true, words-few c.args.part.row.p c.args.part.row.tabled)

pub overflow_mul-i : goal.overflow_mul-i
overflow_mul-i c =
    omega (arith, share_in c.args.part.row.p c.args.part.row.tabled c.args.j c.loop-i.i c.requires.place c.loop-i-test.true, words-few c.args.part.row.p c.args.part.row.tabled)

pub overflow_add-j : goal.overflow_add-j
overflow_add-j c =
    omega (arith, share_in c.args.part.row.p c.args.part.row.tabled c.args.j c.loop-i.i c.requires.place c.loop-i-test.true, words-few c.args.part.row.p c.args.part.row.tabled)

pub store_at-requires : goal.store_at-requires
store_at-requires c =
    let u = c.loop-i.invariant.2 in
    (omega (arith, share_in c.args.part.row.p c.args.part.row.tabled c.args.j c.loop-i.i c.requires.place c.loop-i-test.true, words-few c.args.part.row.p c.args.part.row.tabled, u.long, c.requires.full_value.2.long), u.low, c.share_at-x.ensures.1.low)

pub loop-i-preserved : goal.loop-i-preserved
loop-i-preserved c =
    let b = c.args in
    let l = c.loop-i in
    let r = c.share_at-x in (
      omega arith,
      refl,
      wrote-turn 512 l.i (expanded_at b.part.row.p b.part.bytes.now b.j) (omega arith) l.invariant.2
          (wrote_value r.ensures.0 c.store_at.ensures),
    )

pub returns : goal.returns
returns c =
    let b = c.args in
    let l = c.loop-i in
    let e : l.i ≡ b.part.row.p.shares = omega arith in
    wrote-end 512 (expanded_at b.part.row.p b.part.bytes.now b.j) e l.invariant.2
