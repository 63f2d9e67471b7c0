use Rattle.std.proofs.lemmas.Result.{IfOk-at_ok}
use Rattle.hash.specs.Refusal.{unless}
use Rattle.hash.specs.declared.refusal.Refusal.{Refusal}
use Rattle.hash.proofs.Refusals.{unless-is}
use mathlib.Core.Path.{◌≡◌, sym, ap, subst, ◌∙◌}
use mathlib.Core.List.{List}
use mathlib.Core.Option.{some}
use Prim.Native.Nat.{ℕ, ◌-◌, ◌*◌, ◌/◌, ◌^◌, ◌≤◌}
use native.Mathlib.Omega.{arith}
use lib.Dec.{lit<}
use lib.ListN.{length, take}
use Rattle.ring.specs.Words.{q, Below, Words}
use Rattle.ring.specs.Transform.{ntt}
use Rattle.ring.specs.Round.{residues}
use Rattle.ring.specs.Rns.{words_of}
use Rattle.ring.proofs.Filled.{some-filled}
use Rattle.ring.proofs.Reduced.{length-residues}
use Rattle.ring.proofs.Signs.{below-residues}
use Rattle.signature.specs.Keys.{vk_seed, vk_vector}
use Rattle.signature.specs.Matrix.{matrix, matrix_of, filled}
use Rattle.signature.proofs.Adjusted.{adjusted-all, adjusted-parts}
use Rattle.signature.proofs.Fronts.{front_long, front_low, z-front-long, z-front-in, z-front-is, vector-in, vector-is, vector-long}
use Rattle.signature.proofs.verify.recompute.Goals as goal

pub place-requires : goal.place-requires
place-requires c =
    let k : c.args.row.p.l * 512 ≤ 3584 = omega (arith, c.args.row.tabled.columns-low) in record { z_len = (c.requires.hint_len.1, front_long 0 (c.args.row.p.l * 512) 3584 k, front_low (2 ^ 60) (lit< tt) (c.args.row.p.l * 512) 3584); by_index = c.requires.by_index_2 }

pub slice_bounds-adjust_rows-end : goal.slice_bounds-adjust_rows-end
slice_bounds-adjust_rows-end c = let r = c.place in z-front-in c.args.row.p.l c.args.row.tabled.columns-low r.new.out r.ensures.1

pub slice_bounds-adjust_rows-end-4 : goal.slice_bounds-adjust_rows-end-4
slice_bounds-adjust_rows-end-4 c =
    let u = c.unpack in
    vector-in c.args.row.p c.args.vk.now u.new.out c.args.row.tabled.rows-low u.ensures

pub adjust_rows-requires : goal.adjust_rows-requires
adjust_rows-requires c =
    let p = c.args.row.p in
    let u = c.unpack in
    let t = vector-is p c.args.vk.now u.new.out c.args.row.tabled.rows-low u.ensures in
    let r = c.place in
    let F = z-front-is p.l c.args.row.tabled.columns-low r.new.out r.ensures.1 in
    let n = z-front-long p.l c.args.row.tabled.columns-low r.new.out r.ensures.1 in record { l_in_bounds = (omega (arith, ap (λ (l : List ℕ). length l) F, n), subst (Below (2 ^ 60)) (sym F) r.ensures.2, c.args.row.tabled.rows-low, c.args.row.tabled.columns-low, c.ntt_residues.ensures.1); t_len = (ap (λ (l : List ℕ). length l) t ∙ vector-long p c.args.vk.now, subst (Below 125) (sym t) c.requires.vk_len.1, c.requires.hint_len.0, c.requires.hint_len.2); by_index = c.requires.by_index }

pub returns : goal.returns
unfolding vk_seed
returns c =
    let b = c.args in
    let p = b.row.p in
    let k = p.k in
    let l = p.l in
    let seed : List ℕ = take (p.kappa / 8) b.vk.now in
    let z = residues q b.z.now in
    let x = residues q b.c in
    let o : p.kappa / 8 - 0 ≡ p.kappa / 8 = omega arith in
    let e = ap (λ (j : ℕ). take j b.vk.now) o in
    let u = c.unpack in
    let t = vector-is p b.vk.now u.new.out c.args.row.tabled.rows-low u.ensures in
    let r = c.place in
    let f = c.from_signed-x.ensures in
    let s = ap words_of (z-front-is l c.args.row.tabled.columns-low r.new.out r.ensures.1) ∙ r.ensures.0 in
    let y = c.ntt_residues.ensures.0 ∙ ap ntt f.0 in
    let w = c.adjust_rows.ensures in
    let g = w.value ∙ ap (λ (v : List ℕ). unless Refusal.UniformNotFilled (filled (matrix_of k l v))) e in record {
      value = g;
      by_index_3 = λ (A : List ℕ) (m : matrix p seed ≡ some A).
          IfOk-at_ok (λ _. _) (g ∙ sym (unless-is _ (some-filled (matrix p seed) A m))) w.w_after
          ∙ adjusted-parts k l b.hint.now e s y t
          ∙ adjusted-all p seed A z x (vk_vector p b.vk.now) b.hint.now m (record { long = length-residues q b.z.now ∙ c.requires.hint_len.1; low = below-residues b.z.now })
          (subst (Words 512) f.0 f.1) (vector-long p b.vk.now);
    }
