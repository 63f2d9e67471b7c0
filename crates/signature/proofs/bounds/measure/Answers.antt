use mathlib.Core.Path.{sym, ◌∙◌}
use native.Mathlib.Omega.{arith}
use lib.IntN.{pos}
use lib.ListN.{get_or, drop}
use mir.Syntax.{w64}
use mir.Val.{SFits}
use mir.ValLaws.{to_z-of_z}
use borrow.Author.Rules.{rules}
use borrow.Author.Tests.{not-true, not-false}
use Rattle.signature.proofs.Measured.{count-sum-low, count-one, measured-stays, measured-on-at, measured-end}
use Rattle.signature.proofs.bounds.measure.Goals as goal

pub returns-then-not-r : goal.returns-then-not-r
returns-then-not-r c =
    let l = c.loop-c in
    let a = c.args in
    sym (l.invariant.2 ∙ measured-stays a.limit a.s a.v a.all l.r (drop l.c-index a.cs.now) (not-true _ c.if-not-r.true))

pub loop-c-preserved : goal.loop-c-preserved
loop-c-preserved c =
    let l = c.loop-c in
    let a = c.args in
    let z = get_or a.cs.now l.c-index (pos 0) in
    let s : SFits w64 z = search rules in
    let e = simp to_z-of_z at c.count_in-r.ensures in
    let k = count-one a.limit a.s a.v a.all l.r z in (
      rw e (count-sum-low a.limit a.s a.v a.all l.r z l.invariant.0),
      rw e (omega (arith, k, l.invariant.1)),
      rw e (l.invariant.2 ∙ measured-on-at a.limit a.s a.v a.all l.r a.cs.now l.c-index c.loop-c-test.true (not-false _ c.if-not-r.false)),
    )

pub returns : goal.returns
returns c =
    let l = c.loop-c in
    let a = c.args in
    sym (l.invariant.2 ∙ measured-end a.limit a.s a.v a.all l.r a.cs.now l.c-index (omega arith))
