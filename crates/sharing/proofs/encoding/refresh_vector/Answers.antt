use mathlib.Core.Path.{◌≡◌, sym, ap, ◌∙◌}
use Prim.Native.Nat.{◌*◌}
use native.Mathlib.Omega.{arith}
use Rattle.sharing.specs.Region.{span}
use Rattle.sharing.proofs.Regions.{wrote-start}
use Rattle.sharing.specs.Encoding.{skip}
use Rattle.sharing.specs.EncodingSteps.{last_zero}
use Rattle.sharing.specs.Masks.{masks}
use Rattle.sharing.proofs.Scratch.{last_none, last-next}
use Rattle.sharing.proofs.Totals.{skip-none, skip-next}
use Rattle.sharing.proofs.Turns.{renewed, refresh-turn, refresh-end}
use borrow.Author.Rules.{rules}
use Rattle.sharing.proofs.encoding.refresh_vector.Goals as goal

pub loop-i-init : goal.loop-i-init
loop-i-init c =
    let d = c.args.p.shares in
    let s = c.args.s.now in (
      search rules,
      wrote-start (d * 512) (renewed masks d c.args.g (span s c.args.at (c.args.m * (d * 512)))) (d * 512)
          c.args.at s c.requires.3,
      sym (skip-none masks d c.args.g),
      last_none masks d c.args.g _,
    )

pub loop-i-preserved : goal.loop-i-preserved
loop-i-preserved c =
    let l = c.loop-i in
    let d = c.args.p.shares in
    let g = c.args.g in
    let z = c.refresh_at-x.ensures in (
      omega arith,
      refresh-turn masks d (d * 512) c.args.m c.args.at l.i g l.x c.args.s.now l.s c.requires.1 _
          (omega arith) l.invariant.2 l.invariant.1 z.0,
      skip-next masks d l.i g l.x _ l.invariant.2 z.1,
      last-next masks d l.i g l.x _ _ l.invariant.2 z.2,
    )

pub returns : goal.returns
returns c =
    let l = c.loop-i in
    let d = c.args.p.shares in
    let g = c.args.g in
    let e : l.i ≡ c.args.m = omega arith in (
      refresh-end masks d (d * 512) c.args.m c.args.at l.i g l.x c.args.s.now l.s c.requires.1 e l.invariant.1,
      l.invariant.2 ∙ ap (λ n. skip masks d n g) e,
      l.invariant.3 ∙ ap (λ n. last_zero masks d g n (span c.args.s.now 0 (d * 512))) e,
    )
