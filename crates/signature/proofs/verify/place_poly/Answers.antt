use mathlib.Core.Path.{sym, ap, subst, ◌∙◌}
use Rattle.ring.specs.Words.{q, Words}
use Rattle.ring.specs.Transform.{ntt}
use Rattle.ring.proofs.Reduced.{length-residues}
use Rattle.ring.proofs.Signs.{below-residues}
use Rattle.signature.proofs.verify.place_poly.Goals as goal

pub ntt_residues-requires : goal.ntt_residues-requires
ntt_residues-requires c =
    let a = c in
    subst (Words 512) (sym c.residues_into.ensures) (record { long = length-residues q a.args.z.now ∙ a.requires.z_len.0; low = below-residues a.args.z.now })

pub returns : goal.returns
returns c = let r = c.ntt_residues.ensures in (r.0 ∙ ap ntt c.residues_into.ensures, r.1)
