use mathlib.Core.Path.{◌∙◌}
use Prim.Native.Nat.{◌*◌}
use native.Mathlib.Omega.{arith}
use Rattle.ring.specs.Rns.{words_of}
use Rattle.sharing.specs.NoiseSteps.{noise_reps, lent_noise}
use Rattle.sharing.specs.Region.{span}
use Rattle.sharing.proofs.Built.{block-is}
use Rattle.signature.proofs.Images.{image-made}
use Rattle.signature.proofs.masked.image_row.Goals as goal

pub overflow_mul-l : goal.overflow_mul-l
overflow_mul-l c = omega (arith, c.requires.noise_at.2, c.args.row.tabled.columns-low, c.requires.noise_at.0)

pub overflow_mul-i : goal.overflow_mul-i
overflow_mul-i c = omega (arith, c.requires.noise_at.2, c.args.row.tabled.columns-low, c.requires.noise_at.0)

pub row_at-requires : goal.row_at-requires
row_at-requires c =
    let p = c.requires.shares_bound in
    (p.1, omega (arith, p.2, p.3), p.4, c.requires.noise_at.2, c.requires.noise_at.3, c.args.row.tabled.columns-low)

pub add_noise_at-x-requires : goal.add_noise_at-x-requires
add_noise_at-x-requires c =
    let p = c.requires.shares_bound in
    let w = c.row_at.ensures in
    let n = w.long in
    record { share_count = (c.args.row.tabled.count, p.0, omega (arith, n, p.1, p.2, p.3), w.low); noise_in_bounds = c.requires.noise_at.1 }

pub decode_at-requires : goal.decode_at-requires
decode_at-requires c =
    let p = c.requires.shares_bound in
    let v = c.add_noise_at-x.ensures.0 in
    let n = v.long ∙ c.row_at.ensures.long in
    (omega (arith, n, p.1, p.2, p.3), omega (arith, n, p.3), v.low)

pub returns : goal.returns
returns c =
    let b = c.args in
    let r = b.row.p in
    let p = c.requires.shares_bound in
    let v = c.add_noise_at-x.ensures in
    let T = span (words_of b.a.now) (b.i * (r.l * 512)) (r.l * 512) in
    let w = image-made r.shares r.l (noise_reps r b.noise) b.shares_at b.at b.to b.g (lent_noise r b.noise b.i) T b.s.now _ _ _ p.0 (omega (arith, p.1, p.2)) c.row_at.ensures v.0 c.decode_at.ensures in
    (rw (block-is (r.l * 512) b.i (words_of b.a.now)) w, v.1)
