use mathlib.Core.Path.{ap, ◌∙◌}
use Rattle.ring.specs.Words.{add_w, sub_w}
use Rattle.signature.proofs.compress.exchange.Goals as goal

pub returns : goal.returns
returns c =
    (c.add.ensures.0 ∙ ap (λ t. add_w t c.load-y.result) c.sub-z.ensures.0 ∙ ap (λ t. add_w (sub_w c.args.x c.args.r) t) c.load-y.ensures.0, c.add.ensures.1)
