use mathlib.Core.Path.{refl, sym, ap, ◌∙◌}
use native.Mathlib.Omega.{arith}
use lib.ListN.{length}
use Rattle.hash.specs.Lists.{zeros}
use Rattle.hash.proofs.Table.{length-table}
use Rattle.hash.proofs.Output.{after_none}
use Rattle.ring.proofs.Draws.{gathered_none, gathered-room, refill-next, refilled, held-some, held_none}
use Rattle.ring.proofs.uniform.sample_q_into.Goals as goal

pub loop-i-init : goal.loop-i-init
loop-i-init c = (refl, sym (after_none _), omega arith, gathered_none _ _ c.requires)

pub returns-then-k-eq512 : goal.returns-then-k-eq512
returns-then-k-eq512 c =
    let l = c.loop-i in
    held-some _ _ _ _ _ _ c.begin-s.ensures
    (refilled _ l.s l.i _ l.invariant.1 l.invariant.0 _ l.out _ _ l.k _ c.squeeze-last.ensures.0 c.loop-i-test.true (omega (arith, c.min.ensures))
    l.invariant.2 l.invariant.3 c.gather-k.ensures)
    (omega arith)
    c.if-k-eq512.true

pub loop-i-preserved : goal.loop-i-preserved
loop-i-preserved c =
    let l = c.loop-i in
    let v = l.invariant in
    let w =
    refilled _ l.s l.i _ v.1 v.0 _ l.out _ _ l.k _ c.squeeze-last.ensures.0 c.loop-i-test.true (omega (arith, c.min.ensures)) v.2 v.3
    c.gather-k.ensures in (
      ap length c.squeeze-last.ensures.0 ∙ length-table _ _ ∙ v.0,
      refill-next _ l.s l.i _ v.1 v.0 _ _ c.squeeze-last.ensures.1 c.permute-next.ensures,
      omega (arith, gathered-room _ _ _ _ _ _ w, c.if-k-eq512.false),
      w,
    )

pub returns : goal.returns
returns c =
    let z = c.fill.ensures.after (λ y h. h) ∙ ap zeros (c.loop-i.auto.out ∙ c.requires) in
    held_none _ _ _ _ _ _ c.begin-s.ensures c.loop-i.invariant.3 _ z (omega arith) (omega arith)
