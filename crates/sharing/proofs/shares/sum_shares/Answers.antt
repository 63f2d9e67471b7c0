use mathlib.Core.Path.{◌≡◌, sym, ap, ◌∙◌}
use Prim.Native.Nat.{◌*◌}
use native.Mathlib.Omega.{arith}
use Rattle.sharing.specs.Blocks.{block, sum_of, total}
use Rattle.sharing.specs.Region.{span}
use Rattle.sharing.proofs.Regions.{block-span}
use Rattle.ring.proofs.Sums.{words-zeros, words-add}
use Rattle.sharing.proofs.Loops.{sum-start, sum-turn}
use borrow.Author.Rules.{rules}
use Rattle.sharing.proofs.shares.sum_shares.Goals as goal

pub loop-j-init : goal.loop-j-init
loop-j-init c = (search rules, sum-start 512 _, words-zeros 512)

pub loop-j-preserved : goal.loop-j-preserved
loop-j-preserved c =
    let s = c.args.s.now in
    let at = c.args.at in
    let d = c.args.p.shares in
    let acc = c.loop-j.acc in
    let e = c.add_into.ensures.0 in
    let x = c.load-x.ensures.0 ∙ sym (block-span 512 d c.loop-j.j s at (omega arith)) in (
      search rules,
      sum-turn 512 c.loop-j.j (λ i. block 512 i (span s at (d * 512))) acc _ c.load-x.result
          c.loop-j.invariant.1 x e,
      rw e (words-add acc c.load-x.result c.loop-j.invariant.2),
    )

pub returns : goal.returns
unfolding total
returns c =
    let e : c.loop-j.j ≡ c.args.p.shares = omega arith in
    (c.loop-j.invariant.1 ∙ ap (λ n. sum_of 512 n (λ i. block 512 i (span c.args.s.now c.args.at (c.args.p.shares * 512)))) e, c.loop-j.invariant.2)
