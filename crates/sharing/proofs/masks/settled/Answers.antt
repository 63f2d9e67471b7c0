use mathlib.Core.Path.{◌∙◌}
use Rattle.sharing.proofs.Held.{settles}
use Rattle.sharing.proofs.masks.settled.Goals as goal

pub returns : goal.returns
returns c =
    let g = c.args.g in
    (λ i. record { lanes = g.lanes; at = c.min.ensures i; ok = g.ok }) ∙ settles g _ c.well_formed.0.1.1.0
