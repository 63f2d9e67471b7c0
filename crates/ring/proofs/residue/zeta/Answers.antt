use Rattle.ring.proofs.Tables.{powers-at}
use Rattle.ring.proofs.residue.zeta.Goals as goal

pub returns : goal.returns
returns c = rw c.requires.0 (powers-at c.args.which c.args.k c.requires.1)
