use mathlib.Core.Path.{◌≡◌, sym, ap, ◌∙◌}
use Prim.Native.Nat.{◌*◌}
use native.Mathlib.Omega.{arith}
use Rattle.sharing.proofs.Regions.{wrote-start}
use Rattle.sharing.specs.Encoding.{skip}
use Rattle.sharing.specs.Masks.{masks}
use Rattle.sharing.proofs.Totals.{skip-none, skip-next}
use Rattle.sharing.proofs.Turns.{encoded, encode-turn, encode-end}
use borrow.Author.Rules.{rules}
use Rattle.sharing.proofs.encoding.zero_vector.Goals as goal

pub loop-i-init : goal.loop-i-init
loop-i-init c =
    let d = c.args.p.shares in (
      search rules,
      wrote-start (d * 512) (encoded masks d c.args.g) 0 c.args.at c.args.s.now c.requires.2,
      sym (skip-none masks d c.args.g),
    )

pub loop-i-preserved : goal.loop-i-preserved
loop-i-preserved c =
    let l = c.loop-i in
    let d = c.args.p.shares in
    let g = c.args.g in
    let z = c.zero_encoding_at-x.ensures in (
      omega arith,
      encode-turn masks d 0 c.args.m c.args.at l.i g l.x c.args.s.now l.s (omega arith) _
          l.invariant.2 l.invariant.1 z.0,
      skip-next masks d l.i g l.x _ l.invariant.2 z.1,
    )

pub returns : goal.returns
returns c =
    let l = c.loop-i in
    let d = c.args.p.shares in
    let g = c.args.g in
    let e : l.i ≡ c.args.m = omega arith in (
      encode-end masks d 0 c.args.m c.args.at l.i g l.x c.args.s.now l.s (omega arith) e l.invariant.1,
      l.invariant.2 ∙ ap (λ n. skip masks d n g) e,
    )
