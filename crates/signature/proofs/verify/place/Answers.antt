use mathlib.Core.Path.{◌≡◌, sym, ap, ◌∙◌}
use Prim.Native.Nat.{ℕ, ◌+◌, ◌-◌, ◌*◌, ◌≤◌, ◌<◌}
use native.Mathlib.Omega.{arith}
use lib.ListN.{length, take, drop}
use Rattle.ring.specs.Words.{q}
use Rattle.ring.specs.Round.{residues}
use Rattle.ring.specs.Transform.{ntt}
use Rattle.sharing.specs.Blocks.{block}
use Rattle.sharing.proofs.Built.{block-residues}
use Rattle.sharing.proofs.Lists.{inside}
use Rattle.signature.specs.MaskedSteps.{transformed}
use Rattle.signature.proofs.Adjusted.{length-span_z, part_small}
use Rattle.signature.proofs.InResidues.{residues-start, residues-turn, residues-end, residues-all, part-residues}
use Rattle.signature.proofs.verify.place.Goals as goal

pub loop-i-init : goal.loop-i-init
loop-i-init c = (omega arith, residues-start 0 _ _ c.requires.z_len.2)

pub slice_bounds-place_poly-end : goal.slice_bounds-place_poly-end
slice_bounds-place_poly-end c = omega (arith, inside c.loop-i.i c.args.l 512 c.loop-i-test.true, c.requires.z_len.0)

pub slice_bounds-place_poly-end-in-loop-i : goal.slice_bounds-place_poly-end-in-loop-i
slice_bounds-place_poly-end-in-loop-i c = omega (arith, inside c.loop-i.i c.args.l 512 c.loop-i-test.true, c.requires.z_len.1, c.loop-i.invariant.1.long)

pub place_poly-requires : goal.place_poly-requires
place_poly-requires c =
    let a = c in
    let b = a.args in
    let l = c.loop-i in
    let h = inside l.i b.l 512 c.loop-i-test.true in
    let k : l.i * 512 + 512 ≤ length l.out = omega (arith, h, a.requires.z_len.1, l.invariant.1.long) in
    let g : l.i * 512 + 512 ≤ length b.z.now = omega (arith, h, a.requires.z_len.0) in
    let n : l.i * 512 + 512 - l.i * 512 ≡ 512 = omega arith in
    let x = length-span_z b.z.now (l.i * 512) 512 g in
    let r = (part-residues l.out (l.i * 512) k l.invariant.1.low).long in record { z_len = (ap (λ (m : ℕ). length (take m (drop (l.i * 512) b.z.now))) n ∙ x, r); by_index = rw n (λ (i : ℕ) (o : i < length (take 512 (drop (l.i * 512) b.z.now))). part_small q (l.i * 512) 512 b.z.now g a.requires.by_index i (omega (arith, o, x))) }

pub loop-i-preserved : goal.loop-i-preserved
loop-i-preserved c =
    let a = c in
    let b = a.args in
    let l = c.loop-i in
    let t = c.loop-i-test.true in
    let n : l.i * 512 + 512 - l.i * 512 ≡ 512 = omega arith in
    let e = c.place_poly.ensures in (
      omega (arith, t),
      residues-turn 0 l.i (λ (j : ℕ). ntt (block 512 j (residues q b.z.now))) (l.i * 512) _ l.out _ (omega arith)
          (omega (arith, inside l.i b.l 512 t, a.requires.z_len.1, l.invariant.1.long)) l.invariant.1 e.1
          (e.0 ∙ ap (λ (m : ℕ). ntt (residues q (take m (drop (l.i * 512) b.z.now)))) n ∙ ap ntt (sym (block-residues 512 l.i q b.z.now))),
    )

pub returns : goal.returns
unfolding transformed
returns c =
    let a = c in
    let b = a.args in
    let l = c.loop-i in
    let e : l.i ≡ b.l = omega (arith, l.invariant.0, c.loop-i-test.false) in
    let f : ℕ → _ = λ (j : ℕ). ntt (block 512 j (residues q b.z.now)) in
    let v = residues-end f e l.invariant.1 in
    (residues-all b.l f _ l.out a.requires.z_len.1 v, v.long, v.low)
