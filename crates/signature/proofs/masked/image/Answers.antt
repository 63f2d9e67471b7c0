use mathlib.Core.Path.{◌≡◌, ap, ◌∙◌}
use Prim.Native.Nat.{◌+◌, ◌*◌, ◌<◌}
use native.Mathlib.Omega.{arith}
use Rattle.hash.proofs.Rows.{count-power}
use Rattle.ring.specs.Rns.{words_of}
use Rattle.ring.proofs.Recombined.{length-words}
use Rattle.sharing.specs.Encoding.{skip}
use Rattle.sharing.specs.Masks.{masks}
use Rattle.sharing.specs.NoiseSteps.{noise_reps, lent_noise}
use Rattle.sharing.specs.Region.{span}
use Rattle.sharing.proofs.Added.{skip-start, noise-inside}
use Rattle.sharing.proofs.Lists.{inside}
use Rattle.sharing.proofs.Regions.{wrote-start}
use Rattle.sharing.proofs.Turns.{skip-turn}
use Rattle.signature.proofs.Images.{imaged, rows_none, rows-turn, image-turn, image-end}
use Rattle.signature.proofs.masked.image.Goals as goal

pub loop-i-init : goal.loop-i-init
loop-i-init c =
    let b = c.args in
    let r = b.a.row.p in
    let t = noise_reps r b.noise in
    let f = lent_noise r b.noise in
    let X = span b.s.now b.at (r.l * (r.shares * 512)) in (
      omega arith,
      wrote-start 512 (imaged r.shares r.l t f b.g (words_of b.a.words.now) X) (b.shares_at + r.shares * 512) b.to b.s.now c.requires.shares_bound.4,
      skip-start masks r.shares t b.g,
      rows_none r.shares r.l t f b.g (words_of b.a.words.now) X b.shares_at b.s.now,
    )

pub overflow_mul-b : goal.overflow_mul-b
overflow_mul-b c = omega arith

pub overflow_add-b : goal.overflow_add-b
overflow_add-b c = omega arith

pub image_row-x-requires : goal.image_row-x-requires
image_row-x-requires c =
    let b = c.args in
    let p = c.requires.shares_bound in
    let l = c.loop-i in
    let t : l.i < b.a.row.p.k = c.loop-i-test.true in
    let v = l.invariant.1 in
    let n = v.long in
    let m = inside l.i b.a.row.p.k (b.a.row.p.l * 512) t in record {
      noise_at = (omega (arith, t, c.args.a.row.tabled.rows-low), noise-inside b.a.row.p l.i b.a.row.p.k t b.noise c.requires.noise_for, omega (arith, m, c.args.a.held.0.0, length-words b.a.words.now), c.args.a.held.1);
      shares_bound = (p.0, p.1, omega (arith, p.2), omega (arith, n, t, p.3), v.low);
    }

pub loop-i-preserved : goal.loop-i-preserved
loop-i-preserved c =
    let b = c.args in
    let r = b.a.row.p in
    let p = c.requires.shares_bound in
    let l = c.loop-i in
    let v = l.invariant in
    let z = c.image_row-x.ensures in
    let t = noise_reps r b.noise in
    let f = lent_noise r b.noise in (
      omega (arith, c.loop-i-test.true),
      image-turn r.shares r.l t b.shares_at b.at b.to f b.g (words_of b.a.words.now) b.s.now p.1 p.2 l.i l.x l.s _ v.2 v.1 z.0,
      skip-turn masks r.shares l.i t b.g l.x _ v.2 z.1,
      rows-turn r.shares r.l t b.shares_at b.at b.to f b.g (words_of b.a.words.now) b.s.now p.1 p.2 l.i l.x l.s _ v.2 v.1 z.0,
    )

pub returns : goal.returns
returns c =
    let b = c.args in
    let r = b.a.row.p in
    let l = c.loop-i in
    let v = l.invariant in
    let e : l.i ≡ r.k = omega (arith, v.0, c.loop-i-test.false) in
    let t = noise_reps r b.noise in
    let f = lent_noise r b.noise in
    let X = span b.s.now b.at (r.l * (r.shares * 512)) in
    (image-end r.shares r.k r.l t f b.g (words_of b.a.words.now) X (count-power r.shares c.args.a.row.tabled.count) b.shares_at b.to l.i b.s.now l.s e v.1 v.3, v.2 ∙ ap (λ n. skip masks r.shares (n * t) b.g) e)
