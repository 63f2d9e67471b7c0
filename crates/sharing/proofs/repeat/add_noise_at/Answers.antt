use mathlib.Core.Path.{◌≡◌, sym, ap, ◌∙◌}
use Prim.Native.Nat.{◌*◌}
use native.Mathlib.Omega.{arith}
use Rattle.hash.proofs.Rows.{count_low}
use Rattle.sharing.specs.Region.{span}
use Rattle.sharing.specs.Encoding.{skip, add_rep}
use Rattle.sharing.specs.EncodingSteps.{last_zero}
use Rattle.sharing.specs.Masks.{masks}
use Rattle.sharing.specs.NoiseSteps.{noise_reps, lent_noise}
use Rattle.sharing.proofs.Regions.{wrote_value, wrote-wide}
use Rattle.sharing.proofs.Scratch.{last_none, last-next}
use Rattle.sharing.proofs.Totals.{skip-none, skip-next}
use Rattle.sharing.proofs.Turns.{rep-start, rep_turn}
use borrow.Author.Rules.{rules}
use Rattle.sharing.proofs.repeat.add_noise_at.Goals as goal

pub loop-t-init : goal.loop-t-init
loop-t-init c =
    let b = c.args in (
      search rules,
      rep-start masks b.p.shares b.g (b.p.shares * 512) b.at (lent_noise b.p b.noise b.i) b.s.now c.requires.share_count.3,
      sym (skip-none masks b.p.shares b.g),
      last_none masks b.p.shares b.g _,
    )

pub add_once_at-requires : goal.add_once_at-requires
add_once_at-requires c =
    let v = c.loop-t.invariant.1 in
    let n = v.long in
    let d = (count_low c.args.p.shares c.requires.share_count.0).1 in
    record { shares_in_bounds = (omega arith, v.low, omega (arith, d)); t_lt_reps = (c.requires.noise_in_bounds, omega arith) }

pub refresh_at-x-requires : goal.refresh_at-x-requires
refresh_at-x-requires c =
    let v = c.add_once_at.ensures in
    let n = v.long ∙ c.loop-t.invariant.1.long in
    (c.requires.share_count.0, c.requires.share_count.1, omega arith, v.low)

pub loop-t-preserved : goal.loop-t-preserved
loop-t-preserved c =
    let l = c.loop-t in
    let b = c.args in
    let w = c.refresh_at-x.ensures in (
      omega arith,
      rep_turn masks b.p.shares b.g l.x (b.p.shares * 512) b.at l.t (lent_noise b.p b.noise b.i) b.s.now l.s _ _ l.invariant.2 l.invariant.1
          (wrote-wide (omega arith) c.add_once_at.ensures) w.0,
      skip-next masks b.p.shares l.t b.g l.x _ l.invariant.2 w.1,
      last-next masks b.p.shares l.t b.g l.x _ _ l.invariant.2 w.2,
    )

pub returns : goal.returns
returns c =
    let l = c.loop-t in
    let b = c.args in
    let e : l.t ≡ noise_reps b.p b.noise = omega arith in (
      wrote_value (ap (λ k. add_rep masks b.p.shares b.g k (lent_noise b.p b.noise b.i) (span b.s.now b.at (b.p.shares * 512))) e) l.invariant.1,
      l.invariant.2 ∙ ap (λ k. skip masks b.p.shares k b.g) e,
      l.invariant.3 ∙ ap (λ k. last_zero masks b.p.shares b.g k (span b.s.now 0 (b.p.shares * 512))) e,
    )
