use Rattle.ring.specs.Words.{subq}
use Rattle.ring.proofs.poly.sub_word.Goals as goal

pub returns : goal.returns
unfolding subq
returns c = c.narrow_word.ensures
