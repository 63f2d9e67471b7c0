use mathlib.Core.Path.{◌≡◌, sym, ap, ◌∙◌}
use Prim.Native.Nat.{ℕ}
use native.Mathlib.Omega.{arith}
use lib.Dec.{lit<}
use lib.ListN.{length-replicate}
use Rattle.hash.proofs.Rows.{count_low}
use Rattle.ring.specs.Words.{q}
use Rattle.ring.proofs.Sums.{below-zeros}
use Rattle.sharing.specs.Encoding.{skip}
use Rattle.sharing.specs.Masks.{masks}
use Rattle.sharing.specs.declared.masks.MaskGen.{MaskGen}
use Rattle.sharing.proofs.Totals.{skip-none, skip-next}
use Rattle.signature.specs.Keys.{refresh_masks_fill}
use borrow.Author.Rules.{rules}
use Rattle.signature.proofs.keys.masks_fill.Goals as goal

pub loop-i-init : goal.loop-i-init
loop-i-init c =
    (search rules, sym (skip-none masks c.args.row.p.shares c.start-x.result), length-replicate {A = ℕ} 16384 0, below-zeros q (lit< tt) 16384)

pub zero_encoding_at-x-requires : goal.zero_encoding_at-x-requires
zero_encoding_at-x-requires c =
    let v = c.loop-i.invariant in
    (c.args.row.tabled.count, omega (arith, (count_low c.args.row.p.shares c.args.row.tabled.count).1, v.2), v.3)

pub loop-i-preserved : goal.loop-i-preserved
loop-i-preserved c =
    let z = c.zero_encoding_at-x.ensures in (
      omega arith,
      skip-next masks c.args.row.p.shares c.loop-i.i c.start-x.result c.loop-i.x _ c.loop-i.invariant.1 z.1,
      z.0.long ∙ c.loop-i.invariant.2,
      z.0.low,
    )

pub returns : goal.returns
unfolding refresh_masks_fill
returns c =
    let p = c.args.row.p in
    let e : c.loop-i.i ≡ p.l = omega arith in
    ap (λ (g : MaskGen). g.ok)
    (c.loop-i.invariant.1 ∙ ap (λ (n : ℕ). skip masks p.shares n c.start-x.result) e ∙ ap (skip masks p.shares p.l) c.start-x.ensures)
