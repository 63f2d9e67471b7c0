use Rattle.sharing.specs.Blocks.{block}
use Rattle.sharing.specs.Noise.{explicit_noise}
use Rattle.sharing.proofs.repeat.add_once_at.Goals as goal

pub returns-in-Words : goal.returns-in-Words
unfolding explicit_noise block
returns-in-Words c = rw c.in-Words.is c.add_shares_at.ensures
