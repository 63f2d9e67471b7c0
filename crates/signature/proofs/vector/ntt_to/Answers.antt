use mathlib.Core.Path.{◌≡◌, sym, ap, ◌∙◌}
use Prim.Native.Nat.{ℕ, ◌+◌, ◌*◌, ◌≤◌}
use native.Mathlib.Omega.{arith}
use lib.ListN.{length}
use Rattle.ring.specs.Transform.{ntt}
use Rattle.sharing.specs.Blocks.{block}
use Rattle.sharing.specs.Region.{span}
use Rattle.sharing.proofs.Lists.{inside}
use Rattle.sharing.proofs.Regions.{block-span}
use Rattle.signature.specs.MaskedSteps.{transformed}
use Rattle.signature.proofs.InResidues.{residues-start, residues-turn, residues-end, residues-all, part-residues}
use Rattle.signature.proofs.vector.ntt_to.Goals as goal

pub loop-i-init : goal.loop-i-init
loop-i-init c = (omega arith, residues-start 0 _ _ c.requires.3)

pub overflow_add-at : goal.overflow_add-at
overflow_add-at c = omega (arith, inside c.loop-i.i c.args.n 512 c.loop-i-test.true, c.requires.0)

pub slice_bounds-ntt_poly_to-end : goal.slice_bounds-ntt_poly_to-end
slice_bounds-ntt_poly_to-end c = omega (arith, inside c.loop-i.i c.args.n 512 c.loop-i-test.true, c.requires.2, c.loop-i.invariant.1.long)

pub ntt_poly_to-requires : goal.ntt_poly_to-requires
ntt_poly_to-requires c =
    let a = c in
    let l = c.loop-i in
    let h = inside l.i a.args.n 512 c.loop-i-test.true in
    let k : l.i * 512 + 512 ≤ length l.out = omega (arith, h, a.requires.2, l.invariant.1.long) in
    (omega (arith, h, a.requires.0), a.requires.1, (part-residues l.out (l.i * 512) k l.invariant.1.low).long)

pub loop-i-preserved : goal.loop-i-preserved
loop-i-preserved c =
    let a = c in
    let b = a.args in
    let l = c.loop-i in
    let t = c.loop-i-test.true in
    let e = c.ntt_poly_to.ensures in (
      omega (arith, t),
      residues-turn 0 l.i (λ (j : ℕ). ntt (block 512 j (span b.s.now b.at (b.n * 512)))) (l.i * 512) _ l.out _ (omega arith)
          (omega (arith, inside l.i b.n 512 t, a.requires.2, l.invariant.1.long)) l.invariant.1 e.1 (e.0 ∙ ap ntt (sym (block-span 512 b.n l.i b.s.now b.at t))),
    )

pub returns : goal.returns
unfolding transformed
returns c =
    let a = c in
    let b = a.args in
    let l = c.loop-i in
    let e : l.i ≡ b.n = omega (arith, l.invariant.0, c.loop-i-test.false) in
    let f : ℕ → _ = λ (j : ℕ). ntt (block 512 j (span b.s.now b.at (b.n * 512))) in
    let v = residues-end f e l.invariant.1 in
    (residues-all b.n f _ l.out a.requires.2 v, v.long, v.low)
