use mathlib.Core.Path.{◌∙◌}
use native.Mathlib.Omega.{arith}
use lib.ListN.{length}
use Rattle.hash.proofs.Rows.{count-power}
use Rattle.ring.specs.Rns.{words_of}
use Rattle.sharing.specs.NoiseSteps.{lent_noise}
use Rattle.signature.specs.AttemptSteps.{coins_lent}
use Rattle.signature.specs.MaskedSteps.{noise_lent, matrix_in}
use Rattle.signature.proofs.Coins.{mask-taken, committed-at}
use Rattle.signature.proofs.Commits.{commit-made, noise-first}
use Rattle.signature.proofs.Sizes.{room}
use Rattle.signature.proofs.commit.commit.Goals as goal

pub masked_noise-x-requires : goal.masked_noise-x-requires
masked_noise-x-requires c =
    let b = c.args in
    let r = (room b.a.row.p c.args.a.row.tabled (length b.work.now) c.requires.work_len.0).1 in
    let e = c.at_r-at.ensures in record {
      noise_for = noise-first b.a.row.p c.args.a.row.tabled c.attempt_noise-noise.result c.attempt_noise-noise.ensures.0;
      shares_bound = (omega (arith, e), omega (arith, e, r), c.requires.work_len.1);
    }

pub image-requires : goal.image-requires
image-requires c =
    let b = c.args in
    let r = (room b.a.row.p c.args.a.row.tabled (length b.work.now) c.requires.work_len.0).1 in
    let u = c.masked_noise-x.ensures.0 in
    let n = u.long in
    let e = c.at_r-at.ensures in
    let f = c.at_t-to.ensures in record {
      noise_for = c.noise_behind.ensures.0;
      shares_bound = (omega arith, omega (arith, e), omega (arith, e, f), omega (arith, f, r, n), u.low);
    }

pub returns : goal.returns
returns c =
    let b = c.args in
    let p = b.a.row.p in
    let T = coins_lent b.coins in
    let N = c.attempt_noise-noise in
    let u = c.masked_noise-x.ensures in
    let o = c.noise_behind.ensures in
    let z = rw o.1 at c.image.ensures in
    let d = count-power p.shares c.args.a.row.tabled.count in (
      z.0.sums.long ∙ u.0.long,
      z.0.sums.low,
      committed-at p (matrix_in p (words_of b.a.words.now)) N.ensures.1 (c.start.ensures ∙ mask-taken T b.i)
          (commit-made p (noise_lent p N.result) _ _ (words_of b.a.words.now) b.work.now _ _ d c.args.a.held.0 (rw c.at_r-at.ensures at u.0) u.1
          (lent_noise p c.noise_behind.result) o.2 _ (rw (c.at_r-at.ensures, c.at_t-to.ensures) at z.0) z.1),
    )
