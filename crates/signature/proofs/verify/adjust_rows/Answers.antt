use Rattle.std.proofs.lemmas.Result.{err_from_is_err_and}
use Rattle.std.specs.Prelude.{Err}
use Rattle.hash.proofs.Refusals.{unless-yes, unless-no, unless-is}
use mathlib.Core.Bool.{false}
use mathlib.Core.Path.{◌≡◌, refl, sym, ap, subst, ◌∙◌}
use Prim.Native.Nat.{ℕ, ◌+◌, ◌-◌, ◌*◌, ◌^◌, ◌≤◌, ◌<◌}
use native.Mathlib.Omega.{arith}
use lib.Dec.{lit<}
use lib.ListN.{length, take, drop}
use lib.Seq.{take_all}
use Rattle.ring.specs.Round.{residues}
use Rattle.ring.specs.Rns.{words_of}
use Rattle.ring.specs.Words.{q, Residues, zip_to}
use Rattle.ring.proofs.Sums.{words-zeros, below-zeros, length-zip}
use Rattle.sharing.specs.Blocks.{block, build}
use Rattle.sharing.proofs.Lists.{inside}
use Rattle.sharing.proofs.Built.{block-is, build-none}
use Rattle.sharing.proofs.Regions.{put_back, length-put, length-span}
use Rattle.signature.specs.Matrix.{build_all, matrix_at, matrix_of, filled}
use Rattle.signature.specs.MatrixSteps.{row_made}
use Rattle.signature.specs.Recover.{add31}
use Rattle.signature.specs.RecoverSteps.{block_z, recovered_by, adjusted_rows}
use Rattle.signature.proofs.Adjusted.{adjusted_at, span-residues, length-span_z, part_small, adjust-turn}
use Rattle.signature.proofs.Entries.{all_none, all_more, all-not}
use Rattle.signature.proofs.Rounded.{below_up}
use Rattle.signature.proofs.verify.adjust_rows.Goals as goal

pub loop-i-init : goal.loop-i-init
loop-i-init c =
    let a = c in
    (omega arith, all_none (λ j. build_all a.args.l (matrix_at a.args.seed.now j)), a.requires.t_len.3, sym (build-none _), (words-zeros 3584).long, below-zeros (2 ^ 60) (lit< tt) 3584)

pub expand_row-requires : goal.expand_row-requires
expand_row-requires c =
    let a = c in
    let v = c.loop-i.invariant in
    (omega (arith, v.4, a.requires.l_in_bounds.3), v.5, omega (arith, c.loop-i-test.true, a.requires.l_in_bounds.2), omega (arith, a.requires.l_in_bounds.3))

pub returns-in_err-expand_row : goal.returns-in_err-expand_row
unfolding matrix_of
returns-in_err-expand_row c =
    let b = c.args in
    let l = c.loop-i in
    let r = err_from_is_err_and c.from_residual.result c.from_residual.ensures.1 in
    let u = unless-no _ _ (sym c.in_err-expand_row.was ∙ c.expand_row.ensures.value.0) in
    let no : filled (matrix_of b.k b.l b.seed.now) ≡ false = all-not b.k l.i (λ j. build_all b.l (matrix_at b.seed.now j)) c.loop-i-test.true u.0 in
    record { value = rw (r.1, r.2, no) (ap Err u.1); w_after = rw r.1 tt }

pub load-requires : goal.load-requires
load-requires c =
    let a = c in
    let t = a.requires.t_len in
    (omega (arith, inside c.loop-i.i a.args.k 512 c.loop-i-test.true, t.0), below_up 125 q a.args.t.now (omega arith) t.1)

pub recover_row-requires : goal.recover_row-requires
recover_row-requires c =
    let a = c in
    let p = a.requires.l_in_bounds in
    let t = a.requires.t_len in
    let l = c.loop-i in
    let z = c.expand_row.ensures.value in
    let m = inside l.i a.args.k 512 c.loop-i-test.true in record { l_in_bounds = (omega (arith, z.1, l.invariant.4, p.3), z.2, p.0, p.1, p.3); residues = (p.4, subst (Residues 125 512) (sym c.load.ensures.0) (span-residues 125 a.args.t.now (l.i * 512) 512 (omega (arith, m, t.0)) t.1)) }

pub adjust-requires : goal.adjust-requires
adjust-requires c =
    let a = c in
    let l = c.loop-i in
    let t = a.requires.t_len in
    let m = inside l.i a.args.k 512 c.loop-i-test.true in
    let n : l.i * 512 + 512 - l.i * 512 ≡ 512 = omega arith in
    let g : l.i * 512 + 512 ≤ length a.args.hint.now = omega (arith, m, t.2) in
    let w = length-span l.w (l.i * 512) 512 (omega (arith, m, l.invariant.2)) in
    let x = length-span_z a.args.hint.now (l.i * 512) 512 g in
    record {
      residues = rw n (c.round-y.ensures.1, x, w);
      by_index = rw n (λ (i : ℕ) (o : i < length (take 512 (drop (l.i * 512) a.args.hint.now))). part_small 31 (l.i * 512) 512 a.args.hint.now g a.requires.by_index i (omega (arith, o, x)));
    }

pub overflow_step-i : goal.overflow_step-i
overflow_step-i c = omega (arith, c.loop-i-test.true, c.requires.l_in_bounds.2)

pub loop-i-preserved : goal.loop-i-preserved
loop-i-preserved c =
    let a = c in
    let b = a.args in
    let l = c.loop-i in
    let v = l.invariant in
    let h : l.i < b.k = c.loop-i-test.true in
    let m = inside l.i b.k 512 h in
    let z = c.expand_row.ensures in
    let e = unless-yes _ _ (sym c.in_ok-expand_row.was ∙ z.value.0) in
    let n : l.i * 512 + 512 - l.i * 512 ≡ 512 = omega arith in
    let y = c.round-y in
    let X = c.adjust.new.out in
    let x : X ≡ zip_to add31 y.result (residues 31 (block_z l.i b.hint.now)) = rw n at c.adjust.ensures in
    let k : l.i * 512 + 512 ≤ length l.w = omega (arith, m, v.2) in
    let o : length X ≡ 512 = ap (λ y. length y) x ∙ length-zip add31 y.result (residues 31 (block_z l.i b.hint.now)) ∙ y.ensures.1.long in
    let Z = words_of b.z.now in
    let C = words_of b.c.now in
    let T = row_made b.l b.seed.now l.i in
    let t = c.load in
    let r : c.recover_row.result ≡ recovered_by b.l T Z C (block 512 l.i b.t.now) =
    c.recover_row.ensures.0 ∙ ap (λ y. recovered_by b.l y Z C t.result) c.in_ok-expand_row.ensures.wrote.new
    ∙ ap (recovered_by b.l T Z C) (t.ensures.0 ∙ sym (block-is 512 l.i b.t.now)) in (
      omega (arith, h),
      all_more l.i (λ j. build_all b.l (matrix_at b.seed.now j)) v.1 e,
      ap (λ y. length y) (put_back l.w (l.i * 512) n (refl {a = X})) ∙ length-put l.w (l.i * 512) 512 X k o ∙ v.2,
      ap (take ((l.i + 1) * 512)) (put_back l.w (l.i * 512) n (refl {a = X}))
          ∙ adjust-turn b.l b.seed.now Z C b.t.now b.hint.now l.i l.w X y.result c.recover_row.result k v.3 r y.ensures.0 x o,
      z.value.1 ∙ v.4,
      z.value.2,
    )

pub returns : goal.returns
unfolding matrix_of adjusted_rows
returns c =
    let b = c.args in
    let l = c.loop-i in
    let v = l.invariant in
    let e : l.i ≡ b.k = omega (arith, v.0, c.loop-i-test.false) in record {
      value = unless-is _ (sym (ap (λ n. filled (build_all n (λ j. build_all b.l (matrix_at b.seed.now j)))) e) ∙ v.1);
      w_after =
          sym (take_all (b.k * 512) l.w (omega (arith, v.2))) ∙ ap (λ n. take (n * 512) l.w) (sym e) ∙ v.3
          ∙ ap (λ n. build n (adjusted_at b.l b.seed.now (words_of b.z.now) (words_of b.c.now) b.t.now b.hint.now)) e;
    }
