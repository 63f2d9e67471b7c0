use mathlib.Core.Path.{◌≡◌, sym, ◌∙◌}
use Prim.Native.Nat.{◌+◌, ◌*◌, ◌^◌, ◌≤◌}
use native.Mathlib.Omega.{arith}
use Rattle.ring.specs.Rns.{words_of}
use Rattle.ring.proofs.Sums.{residues-wider}
use Rattle.sharing.specs.Region.{span}
use Rattle.sharing.proofs.Lists.{inside}
use Rattle.sharing.proofs.Built.{block-is}
use Rattle.sharing.proofs.Regions.{block-span}
use Rattle.signature.proofs.InResidues.{part-residues, part-words}
use Rattle.signature.proofs.Rows.{apply-start, apply-turn, apply-end}
use Rattle.signature.proofs.masked.apply_row.Goals as goal

pub loop-m-init : goal.loop-m-init
loop-m-init c = (omega arith, apply-start _ _ _ _ c.requires.hi_value.0 c.requires.hi_value.1)

pub overflow_add-b : goal.overflow_add-b
overflow_add-b c = omega (arith, inside c.loop-m.m c.args.l 512 c.loop-m-test.true, c.requires.l_in_bounds.0, c.requires.hi_value.2)

pub overflow_add-e : goal.overflow_add-e
overflow_add-e c = omega (arith, inside c.loop-m.m c.args.l 512 c.loop-m-test.true, c.requires.l_in_bounds.0)

pub slice_bounds-add_product-end : goal.slice_bounds-add_product-end
slice_bounds-add_product-end c = omega (arith, inside c.loop-m.m c.args.l 512 c.loop-m-test.true, c.requires.l_in_bounds.0)

pub slice_bounds-add_product-end-in-loop-m : goal.slice_bounds-add_product-end-in-loop-m
slice_bounds-add_product-end-in-loop-m c = omega (arith, inside c.loop-m.m c.args.l 512 c.loop-m-test.true, c.requires.l_in_bounds.2)

pub add_product-requires : goal.add_product-requires
add_product-requires c =
    let b = c.args in
    let l = c.loop-m in
    let h = inside l.m b.l 512 c.loop-m-test.true in
    let k : l.m * 2 ^ 60 + 1 ≤ 15 * 2 ^ 60 = omega (arith, c.loop-m-test.true, c.requires.hi_value.2) in record { residues = (residues-wider (15 * 2 ^ 60) k l.hi l.invariant.1.high, residues-wider (15 * 2 ^ 60) k l.lo l.invariant.1.low); residues_2 = (part-residues b.a.now (b.from + l.m * 512) (omega (arith, h, c.requires.l_in_bounds.0)) c.requires.l_in_bounds.1, part-residues b.z.now (l.m * 512) (omega (arith, h, c.requires.l_in_bounds.2)) c.requires.l_in_bounds.3) }

pub loop-m-preserved : goal.loop-m-preserved
loop-m-preserved c =
    let b = c.args in
    let l = c.loop-m in
    let t = c.loop-m-test.true in
    let h = inside l.m b.l 512 t in (
      omega (arith, t),
      apply-turn (span (words_of b.a.now) b.from (b.l * 512)) (words_of b.z.now) l.m _ _ l.hi l.lo _ _ l.invariant.1
          (part-words b.a.now (b.from + l.m * 512) (omega (arith, h, c.requires.l_in_bounds.0)) ∙ sym (block-span 512 b.l l.m (words_of b.a.now) b.from t))
          (part-words b.z.now (l.m * 512) (omega (arith, h, c.requires.l_in_bounds.2)) ∙ sym (block-is 512 l.m (words_of b.z.now)))
          c.add_product.ensures,
    )

pub returns : goal.returns
returns c =
    let b = c.args in
    let l = c.loop-m in
    let e : l.m ≡ b.l = omega (arith, l.invariant.0, c.loop-m-test.false) in
    apply-end _ _ b.l l.m l.hi l.lo e c.requires.hi_value.2 l.invariant.1
