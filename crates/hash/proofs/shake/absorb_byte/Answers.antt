use borrow.Author.Tests.{eq-eqb, ne_eqb}
use Rattle.hash.specs.Shake.{absorb_byte}
use Rattle.hash.proofs.shake.absorb_byte.Goals as goal

pub returns-then-n-eq135 : goal.returns-then-n-eq135
unfolding absorb_byte
returns-then-n-eq135 c = rw (eq-eqb _ _ c.if-n-eq135.true, c.permute.ensures, c.xor_byte-s.ensures)

pub returns-else-n-eq135 : goal.returns-else-n-eq135
unfolding absorb_byte
returns-else-n-eq135 c = rw (ne_eqb _ _ c.if-n-eq135.false, c.xor_byte-s.ensures)
