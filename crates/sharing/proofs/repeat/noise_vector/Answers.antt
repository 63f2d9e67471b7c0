use mathlib.Core.Path.{◌≡◌, ap, ◌∙◌}
use Prim.Native.Nat.{◌*◌, ◌<◌}
use native.Mathlib.Omega.{arith}
use Rattle.sharing.specs.Region.{span}
use Rattle.sharing.specs.Encoding.{skip}
use Rattle.sharing.specs.EncodingSteps.{last_zero}
use Rattle.sharing.specs.Masks.{masks}
use Rattle.sharing.specs.NoiseSteps.{noise_reps, lent_noise}
use Rattle.sharing.proofs.Added.{skip-start, noise-inside}
use Rattle.sharing.proofs.Lists.{inside}
use Rattle.sharing.proofs.Regions.{wrote-start}
use Rattle.sharing.proofs.Scratch.{last-start, last_turn}
use Rattle.sharing.proofs.Turns.{noised, noise-turn, noise-end, skip-turn}
use borrow.Author.Rules.{rules}
use Rattle.sharing.proofs.repeat.noise_vector.Goals as goal

pub loop-i-init : goal.loop-i-init
loop-i-init c =
    let b = c.args in
    let d = b.p.shares in
    let r = noise_reps b.p b.noise in (
      search rules,
      wrote-start (d * 512) (noised masks d b.g r (lent_noise b.p b.noise) (span b.s.now b.at (b.m * (d * 512)))) (d * 512) b.at b.s.now
          c.requires.share_count.3,
      skip-start masks d r b.g,
      last-start masks d r b.g _,
    )

pub overflow_mul-a : goal.overflow_mul-a
overflow_mul-a c = omega (arith, inside c.loop-i.i c.args.m (c.args.p.shares * 512) (omega arith))

pub overflow_mul-a-in-loop-i : goal.overflow_mul-a-in-loop-i
overflow_mul-a-in-loop-i c = omega (arith, inside c.loop-i.i c.args.m (c.args.p.shares * 512) (omega arith))

pub overflow_add-a : goal.overflow_add-a
overflow_add-a c = omega (arith, inside c.loop-i.i c.args.m (c.args.p.shares * 512) (omega arith))

pub add_noise_at-x-requires : goal.add_noise_at-x-requires
add_noise_at-x-requires c =
    let b = c.args in
    let l = c.loop-i in
    let v = l.invariant.1 in
    let n = v.long in
    let t : l.i < b.m = c.loop-i-test.true in
    let h = inside l.i b.m (b.p.shares * 512) t in
    let o = c.requires.share_count in record {
      share_count = (o.0, omega arith, omega arith, v.low);
      noise_in_bounds = noise-inside b.p l.i b.m t b.noise c.requires.noise_in_bounds;
    }

pub loop-i-preserved : goal.loop-i-preserved
loop-i-preserved c =
    let l = c.loop-i in
    let b = c.args in
    let d = b.p.shares in
    let r = noise_reps b.p b.noise in
    let z = c.add_noise_at-x.ensures in (
      omega arith,
      noise-turn masks d (d * 512) b.m b.at l.i b.g l.x b.s.now l.s c.requires.share_count.1 r (lent_noise b.p b.noise) _ c.loop-i-test.true
          l.invariant.2 l.invariant.1 z.0,
      skip-turn masks d l.i r b.g l.x _ l.invariant.2 z.1,
      last_turn masks d l.i r b.g l.x _ _ _ l.invariant.2 l.invariant.3 z.2,
    )

pub returns : goal.returns
returns c =
    let l = c.loop-i in
    let b = c.args in
    let d = b.p.shares in
    let r = noise_reps b.p b.noise in
    let e : l.i ≡ b.m = omega arith in (
      noise-end masks d (d * 512) b.m b.at l.i b.g l.x b.s.now l.s c.requires.share_count.1 e r (lent_noise b.p b.noise) l.invariant.1,
      l.invariant.2 ∙ ap (λ k. skip masks d (k * r) b.g) e,
      l.invariant.3 ∙ ap (λ k. last_zero masks d b.g (k * r) (span b.s.now 0 (d * 512))) e,
    )
