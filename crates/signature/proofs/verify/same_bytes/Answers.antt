use mathlib.Core.Path.{◌∙◌}
use Rattle.signature.proofs.SameBytes.{same-pointwise}
use Rattle.signature.proofs.verify.same_bytes.Goals as goal

pub returns : goal.returns
returns c = c.eq.ensures ∙ same-pointwise c.args.a.now c.args.b.now
