use mathlib.Core.Path.{sym}
use Rattle.signature.proofs.Listing.{tabled}
use Rattle.signature.proofs.row.find.Goals as goal

pub invariant_of-result : goal.invariant_of-result
invariant_of-result c = record { tabled = tabled c.args.set c.args.shares c.args.edition c.in_ok-p.p (sym c.in_ok-p.ensures) }
