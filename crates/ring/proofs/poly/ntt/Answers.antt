use mathlib.Core.Path.{◌∙◌}
use Rattle.ring.specs.Residue.{crt_of}
use Rattle.ring.proofs.Places.{maps}
use Rattle.ring.proofs.Theorems.{ntt-by-rests}
use Rattle.ring.proofs.poly.ntt.Goals as goal

pub returns : goal.returns
returns c = (
  c.combined.ensures.0 ∙ maps crt_of c.forward.ensures.same c.forward-2.ensures.same ∙ ntt-by-rests c.args.f c.well_formed.0.1.0.1,
  c.combined.ensures.1,
)
