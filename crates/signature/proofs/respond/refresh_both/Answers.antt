use mathlib.Core.Path.{◌∙◌}
use native.Mathlib.Omega.{arith}
use Rattle.ring.specs.Transform.{intt}
use Rattle.signature.specs.MaskedSteps.{untransformed}
use Rattle.signature.proofs.Responses.{renew-made}
use Rattle.signature.proofs.respond.refresh_both.Goals as goal

pub refresh_vector-requires : goal.refresh_vector-requires
refresh_vector-requires c =
    let v = c.map_vector.ensures intt (λ x y w h. h.1.0) in
    let n = v.long ∙ c.refresh_vector-x.ensures.0.long in
    (c.args.row.tabled.count, omega (arith, c.requires.0, c.requires.1), omega (arith, n, c.requires.2), v.low)

pub returns : goal.returns
unfolding untransformed
returns c =
    let b = c.args in
    let r = b.row.p in
    let x = c.refresh_vector-x.ensures in
    let z = c.refresh_vector.ensures in
    renew-made r.l r.shares b.a b.b b.g _ _ b.s.now _ _ _ c.requires.0 c.requires.1 x.1 z.1 x.0 (c.map_vector.ensures intt (λ x y w h. h.1.0)) z.0
