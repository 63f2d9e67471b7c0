use mathlib.Core.Path.{◌≡◌, sym, ap, subst, ◌∙◌}
use Prim.Native.Nat.{◌+◌, ◌-◌, ◌*◌, ◌≤◌, ◌<◌}
use native.Mathlib.Omega.{arith}
use lib.ListN.{length, take}
use lib.Seq.{take_all}
use Rattle.ring.specs.Words.{q, Residues}
use Rattle.ring.specs.Rns.{words_of}
use Rattle.ring.proofs.Sums.{length-zip}
use Rattle.sharing.specs.Blocks.{block, build}
use Rattle.sharing.specs.Region.{span}
use Rattle.sharing.proofs.Lists.{inside}
use Rattle.sharing.proofs.Built.{block-is, build-none}
use Rattle.sharing.proofs.Regions.{block-span, length-span}
use Rattle.signature.specs.Recover.{sub31, centred_all}
use Rattle.signature.specs.RecoverSteps.{recovered_by, hint_row, hint_rows}
use Rattle.signature.proofs.Adjusted.{span-residues, length-span_z}
use Rattle.signature.proofs.Centred.{length-centred}
use Rattle.signature.proofs.Hints.{part-below, hint-long, hint-turn}
use Rattle.signature.proofs.Rounded.{below_up}
use Rattle.signature.proofs.fields.hint_rows.Goals as goal

pub loop-i-init : goal.loop-i-init
unfolding centred_all
loop-i-init c = (omega arith, c.requires.t_len.2, sym (ap (centred_all 31) (build-none _)))

pub overflow_mul-l : goal.overflow_mul-l
overflow_mul-l c =
    let a = c in
    omega (arith, inside c.loop-i.i a.args.k (a.args.l * 512) c.loop-i-test.true, a.requires.l_in_bounds.0, a.requires.k_in_bounds.4)

pub overflow_mul-i : goal.overflow_mul-i
overflow_mul-i c =
    let a = c in
    omega (arith, inside c.loop-i.i a.args.k (a.args.l * 512) c.loop-i-test.true, a.requires.l_in_bounds.0, a.requires.k_in_bounds.4)

pub load-requires : goal.load-requires
load-requires c =
    let a = c in
    let t = a.requires.t_len in
    (omega (arith, inside c.loop-i.i a.args.k 512 c.loop-i-test.true, t.0), below_up 125 q a.args.t.now (omega arith) t.1)

pub recover_row-y-requires : goal.recover_row-y-requires
recover_row-y-requires c =
    let a = c in
    let l = c.loop-i in
    let h : l.i < a.args.k = c.loop-i-test.true in
    let m = inside l.i a.args.k 512 h in
    let n = inside l.i a.args.k (a.args.l * 512) h in
    let r = a.requires.l_in_bounds in
    let t = a.requires.t_len in record { l_in_bounds = (omega (arith, n, r.0), r.1, r.2, r.3, a.requires.k_in_bounds.4); residues = (r.4, subst (Residues 125 512) (sym c.load.ensures.0) (span-residues 125 a.args.t.now (l.i * 512) 512 (omega (arith, m, t.0)) t.1)) }

pub hint_row-requires : goal.hint_row-requires
hint_row-requires c =
    let a = c in
    let b = a.args in
    let l = c.loop-i in
    let h : l.i < b.k = c.loop-i-test.true in
    let m = inside l.i b.k 512 h in
    let n : l.i * 512 + 512 - l.i * 512 ≡ 512 = omega arith in
    rw n (omega (arith, m, a.requires.k_in_bounds.0), a.requires.k_in_bounds.1, part-below 31 b.work.now b.at b.k l.i h a.requires.k_in_bounds.2, c.recover_row-y.ensures.1, length-span_z l.hint (l.i * 512) 512 (omega (arith, m, l.invariant.1)))

pub loop-i-preserved : goal.loop-i-preserved
loop-i-preserved c =
    let a = c in
    let b = a.args in
    let l = c.loop-i in
    let v = l.invariant in
    let h : l.i < b.k = c.loop-i-test.true in
    let m = inside l.i b.k 512 h in
    let u = c.recover_row-y.ensures.0 in
    let M = words_of b.a.now in
    let Z = words_of b.z.now in
    let C = words_of b.c.now in
    let W = span b.work.now b.at (b.k * 512) in
    let X = c.hint_row.new.out in
    let x = c.hint_row.ensures in
    let t = c.load.ensures.0 in
    let k : l.i * 512 + 512 ≤ length l.hint = omega (arith, m, v.1) in
    let f = sym (block-span 512 b.k l.i b.work.now b.at h) in
    let g = u ∙ ap (recovered_by b.l (span M (l.i * (b.l * 512)) (b.l * 512)) Z C) (t ∙ sym (block-is 512 l.i b.t.now))
    ∙ ap (λ y. recovered_by b.l y Z C (block 512 l.i b.t.now)) (sym (block-is (b.l * 512) l.i M)) in
    let o : length X ≡ 512 = ap (λ y. length y) x ∙ length-centred 31 _ ∙ length-zip sub31 _ _ ∙ length-span b.work.now (b.at + l.i * 512) 512 (omega (arith, m, a.requires.k_in_bounds.0)) in
    (omega (arith, h), hint-long l.i l.hint X k o ∙ v.1, hint-turn l.i l.hint X k o b.l M Z C b.t.now W _ _ v.2 x f g)

pub returns : goal.returns
unfolding hint_rows
returns c =
    let b = c.args in
    let l = c.loop-i in
    let v = l.invariant in
    let e : l.i ≡ b.k = omega (arith, v.0, c.loop-i-test.false) in
    sym (take_all (b.k * 512) l.hint (omega (arith, v.1))) ∙ ap (λ n. take (n * 512) l.hint) (sym e) ∙ v.2
    ∙ ap (λ n. centred_all 31 (build n (hint_row b.l (words_of b.a.now) (words_of b.z.now) (words_of b.c.now) b.t.now (span b.work.now b.at (b.k * 512))))) e
