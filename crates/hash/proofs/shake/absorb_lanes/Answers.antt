use mathlib.Core.Path.{◌∙◌}
use Prim.Native.Nat.{ℕ, ◌+◌, ◌*◌, ◌≤◌, ◌<◌}
use native.Mathlib.Omega.{arith}
use lib.ListN.{length, get_or}
use Rattle.hash.specs.ShakeSteps.{xor_lane}
use Rattle.hash.proofs.Lanes.{last_turn, next-turn}
use borrow.Author.Rules.{rules}
use Rattle.hash.proofs.shake.absorb_lanes.Goals.{else-k-eq17, then-k-eq17}
use Rattle.hash.proofs.shake.absorb_lanes.Goals as goal

pub loop-i-preserved : goal.loop-i-preserved
unfolding xor_lane
loop-i-preserved c =
    let m = c.args.m.now in
    let h : 8 * c.loop-i.i + 8 ≤ length c.args.m.now = omega arith in
    let e = c.load-v.ensures in
    let g : (j : ℕ) → get_or c.args.m.now j 0 < 256 = λ j. (c.type_inv.m j).fits in (
      search rules,
      elim c.if-k-eq17.branch [ then-k-eq17 u ↦ omega arith | else-k-eq17 u ↦ omega arith ],
      elim c.if-k-eq17.branch [ then-k-eq17 u ↦ last_turn c.loop-i.s c.if-k-eq17.s _ c.args.n c.loop-i.i c.loop-i.k _ m c.requires.0 h g c.loop-i.invariant.1 e c.loop-i.invariant.2 (omega arith) (u.s-is ∙ u.permute-s.ensures) | else-k-eq17 u ↦ next-turn c.loop-i.s c.if-k-eq17.s _ c.args.n c.loop-i.i c.loop-i.k _ m c.requires.0 h g c.loop-i.invariant.1 e c.loop-i.invariant.2 (omega arith) u.s-is ],
    )
