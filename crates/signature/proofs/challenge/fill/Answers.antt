use Prim.Native.Nat.{ℕ, min, ◌+◌, ◌*◌, ◌≤◌}
use mathlib.Core.Path.{◌≡◌, sym, ap, ◌∙◌}
use mathlib.Core.Logic.{◌⊎◌, inl, inr}
use native.Mathlib.Omega.{arith}
use lib.ListN.{length, length-set}
use Rattle.signature.specs.Challenge.{chal_draws}
use Rattle.signature.specs.ChallengeSteps.{ones_of, bytes_of, next_of}
use Rattle.signature.proofs.ChalRun.{Held, run-start, carried_drop, carried-put, through, stored-sign, full, gone}
use Rattle.signature.proofs.ChalBytes.{source-first, source-next, draws-are, draws-low}
use Rattle.signature.proofs.challenge.fill.Goals.{else-blocks-2-test, then-blocks-2-test+then-loop-j-test+then-count-omega}
use Rattle.signature.proofs.challenge.fill.Goals as goal

pub blocks-2-init : goal.blocks-2-init
blocks-2-init c =
    let a = c.args in
    (omega (arith, c.draws_of-n.ensures, draws-low a.source), source-first a.source, run-start _ _ _ _ (omega arith))

pub loop-j-preserved-then-taken-ne0 : goal.loop-j-preserved-then-taken-ne0
loop-j-preserved-then-taken-ne0 c =
    let v = c.loop-j.invariant in (
      v.0,
      carried_drop v.1 c.loop-j-test.true _ c.count.ensures c.if-count-omega.false _ _ _ c.draw_at-d.ensures
          c.position-p.ensures.value c.taken.ensures c.if-taken-ne0.true,
    )

pub loop-j-preserved : goal.loop-j-preserved
loop-j-preserved c =
    let v = c.loop-j.invariant in (
      length-set c.loop-j.c _ _ ∙ v.0,
      carried-put v.1 c.loop-j-test.true _ c.count.ensures c.if-count-omega.false _ _ _ c.draw_at-d.ensures
          c.position-p.ensures.value c.taken.ensures c.if-taken-ne0.false _ c.mark-next.ensures _
          (stored-sign c.args.edition c.draw_at-d.result _ c.sign_of.ensures),
    )

pub blocks-2-preserved : goal.blocks-2-preserved
blocks-2-preserved c =
    let a = c.args in
    let l = c.blocks-2 in
    let v = l.invariant in
    let x : l.block * 68 + c.loop-j.j ≡ min c.draws_of-n.result ((l.block + 1) * 68) = omega arith in
    let h =
    through a.source _ _ l.block v.2 v.1 c.block_of-b.ensures (omega arith) v.0 (omega arith) c.loop-j.invariant.1 in
    (v.0, c.next_of-t.ensures ∙ ap next_of v.1 ∙ source-next l.block a.source, rw x at h)

pub returns-then-count-omega-2 : goal.returns-then-count-omega-2
returns-then-count-omega-2 c =
    let a = c.args in
    let t = bytes_of a.source in
    let l = c.blocks-2 in
    let v = l.invariant in
    let d = draws-are a.source in
    let n : (at : ℕ) × (at ≤ chal_draws (length t)) × Held a.edition t a.omega c.blocks-2-test.map c.blocks-2-test.c at
    × ((ones_of c.blocks-2-test.map ≡ a.omega) ⊎ (at ≡ chal_draws (length t))) =
    elim c.blocks-2-test.branch [
      | else-blocks-2-test w ↦ (min c.draws_of-n.result (l.block * 68), omega arith, rw (w.map-is, w.c-is) v.2, inr (omega arith))
      | then-blocks-2-test+then-loop-j-test+then-count-omega w ↦
          let h =
          through a.source _ _ l.block v.2 v.1 w.block_of-b.ensures (omega arith) v.0 (omega arith) w.loop-j.invariant.1 in (
            l.block * 68 + w.loop-j.j,
            omega arith,
            rw (w.map-is, w.c-is) h,
            inl (ap ones_of w.map-is ∙ sym w.count.ensures ∙ w.if-count-omega.true),
          )
    ] in
    gone n.2 _ c.count-2.ensures n.3 c.if-count-omega-2.true

pub returns : goal.returns
returns c =
    let a = c.args in
    let t = bytes_of a.source in
    let l = c.blocks-2 in
    let v = l.invariant in
    let d = draws-are a.source in
    let n : (at : ℕ) × (at ≤ chal_draws (length t)) × Held a.edition t a.omega c.blocks-2-test.map c.blocks-2-test.c at =
    elim c.blocks-2-test.branch [
      | else-blocks-2-test w ↦ (min c.draws_of-n.result (l.block * 68), omega arith, rw (w.map-is, w.c-is) v.2)
      | then-blocks-2-test+then-loop-j-test+then-count-omega w ↦
          let h =
          through a.source _ _ l.block v.2 v.1 w.block_of-b.ensures (omega arith) v.0 (omega arith) w.loop-j.invariant.1 in
          (l.block * 68 + w.loop-j.j, omega arith, rw (w.map-is, w.c-is) h)
    ] in
    full n.2 _ c.count-2.ensures n.1 c.if-count-omega-2.false
