use lib.Dec.{lit<, lit≤}
use Rattle.ring.specs.declared.prime.Prime.{Prime}
use Rattle.ring.proofs.Barrett.{serves, not-above, near-enough}
use Rattle.ring.proofs.residue.quotient.Goals as goal

pub returns-in-First : goal.returns-in-First
returns-in-First c =
    let s = serves c.args.which Prime.First _ c.in-First.is (lit< tt) (lit≤ tt) (lit≤ tt) in
    (not-above _ _ c.args.t _ s c.low32.ensures, near-enough _ _ c.args.t _ s c.low32.ensures c.requires)

pub returns-in-Second : goal.returns-in-Second
returns-in-Second c =
    let s = serves c.args.which Prime.Second _ c.in-Second.is (lit< tt) (lit≤ tt) (lit≤ tt) in
    (not-above _ _ c.args.t _ s c.low32-in-Second.ensures, near-enough _ _ c.args.t _ s c.low32-in-Second.ensures c.requires)
