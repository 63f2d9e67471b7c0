use mathlib.Core.Path.{◌∙◌}
use Rattle.ring.proofs.Recombined.{intt-recombined}
use Rattle.ring.proofs.rns.intt_sums.Goals as goal

pub returns : goal.returns
returns c =
    let both = c.backward_both.ensures in
    (both.0 ∙ intt-recombined c.args.hi c.args.lo c.well_formed.0.1.0.1 c.well_formed.1.0.1.0.1, both.1)
