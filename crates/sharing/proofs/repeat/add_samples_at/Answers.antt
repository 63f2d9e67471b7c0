use Prim.Native.Nat.{◌*◌, ◌/◌}
use native.Mathlib.Omega.{arith}
use Rattle.sharing.specs.Region.{span}
use Rattle.sharing.proofs.Regions.{wrote-start}
use Rattle.sharing.specs.Noise.{seed_noise, noise_header}
use Rattle.sharing.proofs.Samples.{sample_u-words}
use Rattle.sharing.proofs.Added.{added, added-turn, added-end, seeded}
use borrow.Author.Rules.{rules}
use Rattle.sharing.proofs.repeat.add_samples_at.Goals as goal

pub loop-j-init : goal.loop-j-init
loop-j-init c =
    let b = c.args in (
      search rules,
      wrote-start 512 (added (seeded b.p.shares b.p.rep b.u (b.p.kappa / 8) b.seeds.now b.i b.t)
          (span b.s.now b.at (b.p.shares * 512))) 0 b.at b.s.now c.requires.shares_in_bounds.1,
    )

pub add_sample_at-requires : goal.add_sample_at-requires
add_sample_at-requires c =
    let b = c.args in
    let p = c.requires in
    let l = c.loop-j in
    let v = l.invariant.1 in
    let n = v.long in
    let r = p.t_lt_rep in record { at_in_bounds = (omega arith, v.low, p.shares_in_bounds.2); t_lt_rep = (r.0, c.loop-j-test.true, r.1, r.2, r.3, r.4, r.5) }

pub loop-j-preserved : goal.loop-j-preserved
loop-j-preserved c =
    let b = c.args in
    let l = c.loop-j in (
      search rules,
      added-turn (seeded b.p.shares b.p.rep b.u (b.p.kappa / 8) b.seeds.now b.i b.t) b.p.shares b.at l.j b.s.now l.s
          l.invariant.1 _ c.loop-j-test.true c.add_sample_at.ensures,
    )

pub returns : goal.returns
unfolding seed_noise
returns c =
    let b = c.args in
    let p = c.requires in
    let l = c.loop-j in
    let f = seeded b.p.shares b.p.rep b.u (b.p.kappa / 8) b.seeds.now b.i b.t in
    let o = p.t_lt_rep.5 in
    added-end f b.p.shares b.at l.j b.s.now l.s l.invariant.1
    (λ j h. (sample_u-words (noise_header b.t b.i j) _ b.u (omega arith)).long) p.shares_in_bounds.0 p.shares_in_bounds.1 (omega arith)
