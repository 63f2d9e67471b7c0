use mathlib.Core.Path.{sym, ap, subst, ◌∙◌}
use mathlib.Core.List.{List}
use Prim.Native.Nat.{ℕ, ◌-◌, ◌*◌, ◌^◌, ◌≤◌}
use native.Mathlib.Omega.{arith}
use lib.Dec.{lit<}
use lib.ListN.{length, take}
use borrow.Rule.Slice.PartMut.{put_mid}
use Rattle.hash.specs.Lists.{zeros}
use Rattle.ring.specs.Words.{q, Below}
use Rattle.ring.specs.Rns.{words_of}
use Rattle.ring.specs.Round.{residues}
use Rattle.signature.proofs.Fronts.{front_long, front_low, z-front-long, z-front-in, z-front-is, vector-in, vector-is}
use Rattle.signature.proofs.Hints.{hint-asked, hint-made}
use Rattle.signature.proofs.Sizes.{room}
use Rattle.signature.proofs.fields.make_hint.Goals as goal

pub ntt_to-requires : goal.ntt_to-requires
ntt_to-requires c =
    let p = c.args.a.row.p in
    let R = (room p c.args.a.row.tabled (length c.args.work.now) c.requires.work_len.0).2 in
    let k : p.l * 512 ≤ 3584 = omega (arith, c.args.a.row.tabled.columns-low) in
    (omega (arith, R, c.at_x.ensures), c.requires.work_len.1, front_long 0 (p.l * 512) 3584 k, front_low (2 ^ 60) (lit< tt) (p.l * 512) 3584)

pub slice_bounds-hint_rows-end : goal.slice_bounds-hint_rows-end
slice_bounds-hint_rows-end c = let r = c.ntt_to in z-front-in c.args.a.row.p.l c.args.a.row.tabled.columns-low r.new.out r.ensures.1

pub slice_bounds-hint_rows-end-3 : goal.slice_bounds-hint_rows-end-3
slice_bounds-hint_rows-end-3 c =
    let u = c.unpack in
    vector-in c.args.a.row.p c.args.vk.now u.new.out c.args.a.row.tabled.rows-low u.ensures

pub hint_rows-requires : goal.hint_rows-requires
hint_rows-requires c =
    let b = c.args in
    let u = c.unpack in
    let r = c.ntt_to in
    let F = z-front-is b.a.row.p.l c.args.a.row.tabled.columns-low r.new.out r.ensures.1 in
    let n = z-front-long b.a.row.p.l c.args.a.row.tabled.columns-low r.new.out r.ensures.1 in let t = hint-asked b.a.row.p c.args.a.row.tabled b.work.now c.requires.work_len.0 c.requires.work_len.1 _ b.a.words.now (take (b.a.row.p.l * 512 - 0) (put_mid 0 (b.a.row.p.l * 512 - 0) (zeros 3584) r.new.out)) _ _ b.vk.now _ c.at_t.ensures c.args.a.held
    (ap (λ (l : List ℕ). length l) F ∙ n) (subst (Below (2 ^ 60)) (sym F) r.ensures.2) c.ntt_residues.ensures.1
    (vector-is b.a.row.p b.vk.now u.new.out c.args.a.row.tabled.rows-low u.ensures) c.requires.vk_len.1 c.requires.work_len.2 c.requires.vk_len.2 in record { k_in_bounds = t.0; l_in_bounds = t.1.0; t_len = t.1.1 }

pub returns : goal.returns
returns c =
    let b = c.args in
    let u = c.unpack in
    let r = c.ntt_to in
    let s = c.from_signed-x.ensures in
    let F = z-front-is b.a.row.p.l c.args.a.row.tabled.columns-low r.new.out r.ensures.1 in
    hint-made b.a.row.p c.args.a.row.tabled b.work.now c.requires.work_len.0 c.requires.work_len.1 _ _ (words_of b.a.words.now) _ _ _ b.vk.now (residues q b.c) _ _ c.at_t.ensures
    c.at_x.ensures c.args.a.held.0 (ap words_of F ∙ r.ensures.0) (vector-is b.a.row.p b.vk.now u.new.out c.args.a.row.tabled.rows-low u.ensures) s.0 s.1
    c.ntt_residues.ensures.0 c.hint_rows.ensures
