use borrow.Author.Rules.{rules}
use Rattle.ring.specs.Round.{rounded}
use Rattle.ring.proofs.poly.rounded.Goals as goal

pub returns : goal.returns
unfolding rounded
returns g c = search rules
