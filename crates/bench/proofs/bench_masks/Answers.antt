use mathlib.Core.Path.{◌≡◌, sym, ap, ◌∙◌}
use Prim.Native.Nat.{ℕ, ◌+◌, ◌-◌}
use native.Mathlib.Omega.{arith}
use Rattle.sharing.specs.declared.masks.MaskGen.{MaskGen}
use Rattle.sharing.specs.Encoding.{later}
use Rattle.sharing.specs.Masks.{masks, mask_start, mask_poly, mask_next}
use Rattle.sharing.proofs.Totals.{later-none, later_more}
use borrow.Author.Rules.{rules}
use Rattle.bench.proofs.bench_masks.Goals as goal

pub loop-init : goal.loop-init
loop-init c = (search rules, sym (later-none masks _), λ h. absurd (omega arith))

pub loop-preserved : goal.loop-preserved
loop-preserved c =
    let l = c in
    let g = l.start-g.result in
    let e : l.loop.counter ≡ l.loop.counter + 1 - 1 = omega arith in (
      search rules,
      c.fill-g.ensures.1 ∙ ap mask_next l.loop.invariant.1 ∙ sym (later_more masks l.loop.counter g),
      λ h. c.fill-g.ensures.0 ∙ ap mask_poly l.loop.invariant.1 ∙ ap (λ (j : ℕ). mask_poly (later masks j g)) e,
    )

pub returns : goal.returns
returns c =
    let l = c in
    let a = l.args in
    let i : l.loop.counter ≡ a.n + 1 = omega arith in
    let j : l.loop.counter - 1 ≡ a.n = omega arith in
    let s = l.start-g.ensures in
    let u : l.loop.g ≡ later masks (a.n + 1) (mask_start a.seed.now) = l.loop.invariant.1 ∙ rw (i, s) in
    let v : later masks (l.loop.counter - 1) l.start-g.result ≡ later masks a.n (mask_start a.seed.now) = rw (j, s) in
    (ap (λ (g : MaskGen). g.ok) u, l.loop.invariant.2 (omega arith) ∙ ap mask_poly v)
