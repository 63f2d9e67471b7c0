use mathlib.Core.Path.{◌∙◌}
use Rattle.ring.specs.Residue.{crt_of}
use Rattle.ring.proofs.Places.{maps}
use Rattle.ring.proofs.residue.backward_both.Goals as goal

pub returns : goal.returns
returns c = (c.combined.ensures.0 ∙ maps crt_of c.backward.ensures.same c.backward-2.ensures.same, c.combined.ensures.1)
