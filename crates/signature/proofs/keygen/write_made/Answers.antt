use mathlib.Core.Path.{◌∙◌}
use Prim.Native.Nat.{◌+◌, ◌*◌, ◌/◌}
use native.Mathlib.Omega.{arith}
use lib.ListN.{length}
use Rattle.signature.proofs.KeyDone.{part-lengths, parts-key}
use Rattle.signature.proofs.Sizes.{fits_low, coins-low, room, coins-ends}
use Rattle.signature.proofs.keygen.write_made.Goals as goal

pub overflow_mul-e : goal.overflow_mul-e
overflow_mul-e c =
    let p = c.args.row.p in
    let m = (coins-low p c.args.row.tabled).0 in
    fits_low ((p.l + p.k) * p.shares) (omega (arith, m))

pub overflow_mul-e-2 : goal.overflow_mul-e-2
overflow_mul-e-2 c =
    let p = c.args.row.p in
    let m = (coins-low p c.args.row.tabled).1 in
    fits_low ((p.l + p.k) * p.shares * p.rep) (omega (arith, m))

pub overflow_mul-e-3 : goal.overflow_mul-e-3
overflow_mul-e-3 c =
    let p = c.args.row.p in
    let m = (coins-low p c.args.row.tabled).2 in
    fits_low ((p.l + p.k) * p.shares * p.rep * (p.kappa / 8)) (omega (arith, m))

pub overflow_add-e-2 : goal.overflow_add-e-2
overflow_add-e-2 c =
    let p = c.args.row.p in
    let m = (coins-low p c.args.row.tabled).2 in
    let k = c.args.row.tabled.kappa-low in
    fits_low (p.kappa / 8 + (p.l + p.k) * p.shares * p.rep * (p.kappa / 8)) (omega (arith, m, k))

pub slice_bounds-write_key-count-2 : goal.slice_bounds-write_key-count-2
slice_bounds-write_key-count-2 c = omega (arith, c.at_t-a.ensures, c.at_x-b.ensures)

pub slice_bounds-write_key-start-2 : goal.slice_bounds-write_key-start-2
slice_bounds-write_key-start-2 c = omega (arith, c.at_t-a.ensures, c.at_x-b.ensures)

pub slice_bounds-write_key-end-2 : goal.slice_bounds-write_key-end-2
slice_bounds-write_key-end-2 c =
    let r = (room c.args.row.p c.args.row.tabled (length c.args.work.now) c.requires.work_len.0).1 in
    omega (arith, r, c.at_x-b.ensures)

pub slice_bounds-write_key-count-3 : goal.slice_bounds-write_key-count-3
slice_bounds-write_key-count-3 c =
    let p = c.args.row.p in
    coins-ends p c.args.row.tabled c.args.seeds.now c.requires.work_len.1

pub slice_bounds-write_key-start-3 : goal.slice_bounds-write_key-start-3
slice_bounds-write_key-start-3 c =
    let p = c.args.row.p in
    coins-ends p c.args.row.tabled c.args.seeds.now c.requires.work_len.1

pub slice_bounds-write_key-end-4 : goal.slice_bounds-write_key-end-4
slice_bounds-write_key-end-4 c =
    let r = (room c.args.row.p c.args.row.tabled (length c.args.work.now) c.requires.work_len.0).2 in
    omega (arith, r, c.at_x-b.ensures)

pub write_key-requires : goal.write_key-requires
write_key-requires c =
    let b = c.args in
    let n = part-lengths b.row.p c.args.row.tabled b.seeds.now b.work.now c.requires.work_len.0 c.requires.work_len.1 _ c.requires.out_len in
    record { t_len = rw (c.at_t-a.ensures, c.at_x-b.ensures) n.0; out_len = n.1 }

pub returns : goal.returns
returns c =
    let b = c.args in
    rw (c.at_t-a.ensures, c.at_x-b.ensures) at c.write_key.ensures ∙ parts-key b.row.p c.args.row.tabled b.seeds.now b.work.now c.requires.work_len.0 c.requires.work_len.1
