use Rattle.hash.proofs.Sponge.{finish-absorbed}
use Rattle.hash.proofs.shake.shake256.Goals as goal

pub returns : goal.returns
returns c =
    rw (c.squeeze.ensures.0, c.finish.ensures, c.absorb.ensures, c.start.ensures, finish-absorbed)
