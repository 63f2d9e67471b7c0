use mathlib.Core.Path.{ap, sym}
use Rattle.hash.specs.Lists.{table}
use Rattle.ring.specs.Residue.{rev, power, powers}
use Rattle.ring.proofs.powers.powers.Goals as goal

pub returns-in-Second : goal.returns-in-Second
unfolding rev power powers table
returns-in-Second c = ap powers (sym c.in-Second.is)

pub returns-in-First : goal.returns-in-First
unfolding rev power powers table
returns-in-First c = ap powers (sym c.in-First.is)
