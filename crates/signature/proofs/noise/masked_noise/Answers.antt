use mathlib.Core.Path.{◌∙◌}
use native.Mathlib.Omega.{arith}
use Rattle.ring.specs.Transform.{ntt}
use Rattle.signature.specs.MaskedSteps.{noise_lent, transformed}
use Rattle.signature.proofs.Masking.{lent-first, noise-made, noise-next}
use Rattle.signature.proofs.noise.masked_noise.Goals as goal

pub zero_vector-x-requires : goal.zero_vector-x-requires
zero_vector-x-requires c = (c.args.row.tabled.count, c.requires.shares_bound.1, c.requires.shares_bound.2)

pub noise_vector-y-requires : goal.noise_vector-y-requires
noise_vector-y-requires c =
    let p = c.requires.shares_bound in
    let u = c.zero_vector-x.ensures.0 in
    let n = u.long in
    record { share_count = (c.args.row.tabled.count, p.0, omega (arith, n, p.1), u.low); noise_in_bounds = c.requires.noise_for }

pub overflow_mul-l : goal.overflow_mul-l
overflow_mul-l c = omega (arith, c.requires.shares_bound.1)

pub map_vector-requires-clause-bounds : goal.map_vector-requires-clause-bounds
map_vector-requires-clause-bounds c =
    let p = c.requires.shares_bound in
    let v = c.noise_vector-y.ensures.0 in
    let n = v.long ∙ c.zero_vector-x.ensures.0.long in
    (omega (arith, n, p.1), v.low)

pub returns : goal.returns
unfolding transformed
returns c =
    let b = c.args in
    let N = noise_lent b.row.p b.noise in
    let e = lent-first b.row.p b.noise in
    let x = c.zero_vector-x.ensures in
    let y = rw (e.0, e.1) at c.noise_vector-y.ensures in
    (noise-made b.row.p b.at N b.g _ b.s.now _ _ _ x.1 x.0 y.0 (c.map_vector.ensures ntt (λ x y w h. h.1.0)), noise-next b.row.p N b.g _ _ x.1 y.1)
