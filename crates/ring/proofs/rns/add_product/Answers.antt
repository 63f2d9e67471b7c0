use Rattle.ring.proofs.Recombined.{add-accrued}
use Rattle.ring.proofs.rns.add_product.Goals as goal

pub returns : goal.returns
returns c =
    add-accrued _ _ c.args.hi.now c.args.lo.now _ _ c.requires.residues_2.0 c.requires.residues_2.1 c.requires.residues.0.long c.requires.residues.1.long c.add_times.ensures c.add_times-2.ensures
