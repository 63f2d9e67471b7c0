use mathlib.Core.Path.{◌≡◌, ◌∙◌}
use Rattle.ring.specs.Words.{add_w}
use Rattle.ring.specs.Transform.{intt, pointwise}
use Rattle.sharing.specs.Region.{span}
use Rattle.signature.proofs.respond.respond_share.Goals as goal

pub returns : goal.returns
returns c =
    let b = c.args in
    let e : c.add.result ≡ add_w (intt (pointwise b.c (span b.s.now b.a 512))) (span b.s.now b.b 512) =
    c.add.ensures.0 ∙ cc (c.intt-p.ensures.0, c.pointwise-m.ensures.0, c.load-y.ensures.0, c.load-x.ensures.0) in
    (e, c.add.ensures.1)
