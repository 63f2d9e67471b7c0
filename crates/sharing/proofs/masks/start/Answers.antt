use Rattle.hash.proofs.Sponge.{finish-absorbed}
use Rattle.sharing.specs.Masks.{mask_start}
use Rattle.sharing.proofs.masks.start.Goals as goal

pub returns : goal.returns
unfolding mask_start
returns c =
    rw (c.hold.ensures, c.finish.ensures, c.absorb-s.ensures, c.start.ensures, finish-absorbed)
