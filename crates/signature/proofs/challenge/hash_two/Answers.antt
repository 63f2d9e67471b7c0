use Rattle.signature.proofs.ChalBytes.{two-parts}
use Rattle.signature.proofs.challenge.hash_two.Goals as goal

pub returns : goal.returns
returns c = two-parts _ _ _ _ _ c.start.ensures c.hash_behind.ensures
