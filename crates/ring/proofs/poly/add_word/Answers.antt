use Rattle.ring.specs.Words.{addq}
use Rattle.ring.proofs.poly.add_word.Goals as goal

pub returns : goal.returns
unfolding addq
returns c = c.narrow_word.ensures
