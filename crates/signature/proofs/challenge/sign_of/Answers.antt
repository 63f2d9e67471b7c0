use mathlib.Core.Path.{sym, ◌∙◌}
use borrow.Author.Tests.{eq-eqb, ne_eqb}
use Rattle.signature.proofs.challenge.sign_of.Goals as goal

pub returns-then-d-minus_bit : goal.returns-then-d-minus_bit
returns-then-d-minus_bit c = simp (eq-eqb _ _ (c.if-d-minus_bit.true ∙ c.minus_bit.ensures))

pub returns-else-d-minus_bit : goal.returns-else-d-minus_bit
returns-else-d-minus_bit c = simp (ne_eqb _ _ (λ e. c.if-d-minus_bit.false (e ∙ sym c.minus_bit.ensures)))
