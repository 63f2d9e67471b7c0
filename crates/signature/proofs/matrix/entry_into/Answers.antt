use mathlib.Core.Path.{ap, ◌∙◌}
use Rattle.ring.specs.Transform.{ntt}
use Rattle.signature.specs.Matrix.{matrix_at}
use Rattle.signature.proofs.matrix.entry_into.Goals as goal

pub returns : goal.returns
unfolding matrix_at
returns c =
    let e = c.sample_q_into-entry.ensures in
    let n = c.ntt_residues.ensures in
    (e.0, n.0 ∙ ap ntt e.1, n.1)
