use Rattle.hash.specs.Refusal.{status_of}
use mathlib.Core.Path.{refl, ap, ◌∙◌}
use Prim.Native.Nat.{◌+◌, ◌*◌, ◌/◌}
use native.Mathlib.Omega.{arith}
use Rattle.signature.specs.Keys.{vk_seed}
use Rattle.signature.proofs.KeySteps.{three-parts, PartsLeft}
use Rattle.signature.proofs.Sizes.{fits_low, coins-low, coins-ends, seed-long, coins-part, share_part_lem, coins-long, share-long}
use lib.ListN.{length}
use Rattle.signature.proofs.keygen.make_key.Goals as goal

pub overflow_mul-e : goal.overflow_mul-e
overflow_mul-e c =
    let b = c.args in
    let p = b.row.p in
    let h = c.args.row.tabled in
    let m = (coins-low p h).0 in
    fits_low ((p.l + p.k) * p.shares) (omega (arith, m))

pub overflow_mul-e-2 : goal.overflow_mul-e-2
overflow_mul-e-2 c =
    let b = c.args in
    let p = b.row.p in
    let h = c.args.row.tabled in
    let m = (coins-low p h).1 in
    fits_low ((p.l + p.k) * p.shares * p.rep) (omega (arith, m))

pub overflow_mul-e-3 : goal.overflow_mul-e-3
overflow_mul-e-3 c =
    let b = c.args in
    let p = b.row.p in
    let h = c.args.row.tabled in
    let m = (coins-low p h).2 in
    fits_low ((p.l + p.k) * p.shares * p.rep * (p.kappa / 8)) (omega (arith, m))

pub overflow_add-e-2 : goal.overflow_add-e-2
overflow_add-e-2 c =
    let b = c.args in
    let p = b.row.p in
    let h = c.args.row.tabled in
    let m = (coins-low p h).2 in
    let k = h.kappa-low in
    fits_low (p.kappa / 8 + (p.l + p.k) * p.shares * p.rep * (p.kappa / 8)) (omega (arith, m, k))

pub slice_bounds-make_parts-end : goal.slice_bounds-make_parts-end
slice_bounds-make_parts-end c =
    let b = c.args in
    let p = b.row.p in
    let h = c.args.row.tabled in
    let xs = b.seeds.now in
    seed-long p h xs c.requires.1

pub slice_bounds-make_parts-end-2 : goal.slice_bounds-make_parts-end-2
slice_bounds-make_parts-end-2 c =
    let b = c.args in
    let p = b.row.p in
    let h = c.args.row.tabled in
    let xs = b.seeds.now in
    coins-ends p h xs c.requires.1

pub slice_bounds-make_parts-count-2 : goal.slice_bounds-make_parts-count-2
slice_bounds-make_parts-count-2 c =
    let b = c.args in
    let p = b.row.p in
    let h = c.args.row.tabled in
    let xs = b.seeds.now in
    coins-ends p h xs c.requires.1

pub slice_bounds-make_parts-start-2 : goal.slice_bounds-make_parts-start-2
slice_bounds-make_parts-start-2 c =
    let b = c.args in
    let p = b.row.p in
    let h = c.args.row.tabled in
    let xs = b.seeds.now in
    coins-ends p h xs c.requires.1

pub make_parts-requires : goal.make_parts-requires
make_parts-requires c =
    let b = c.args in
    let p = b.row.p in
    let h = c.args.row.tabled in
    let xs = b.seeds.now in
    let e = c.requires.1 in
    (c.requires.0, ap length (coins-part p h xs e) ∙ coins-long p h xs e, ap length (share_part_lem p h xs e) ∙ share-long p h xs e)

pub returns : goal.returns
unfolding vk_seed
returns c =
    let b = c.args in
    let p = b.row.p in
    let h = c.args.row.tabled in
    let xs = b.seeds.now in
    let e = c.requires.1 in
    let m = c.make_parts in
    let t = three-parts (PartsLeft p b.mask_seed.now (status_of m.result) b.work.now m.new.work) refl (coins-part p h xs e) (share_part_lem p h xs e) (m.ensures.value, m.ensures.by_index) in
    record { value = t.0; by_index = t.1 }
