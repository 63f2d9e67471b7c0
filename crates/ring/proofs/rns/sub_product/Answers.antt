use Rattle.ring.proofs.Recombined.{sub-accrued}
use Rattle.ring.proofs.rns.sub_product.Goals as goal

pub returns : goal.returns
returns c =
    sub-accrued _ _ c.args.hi.now c.args.lo.now _ _ c.requires.residues_2.0 c.requires.residues_2.1 c.requires.residues.0.long c.requires.residues.1.long c.sub_times.ensures c.sub_times-2.ensures
