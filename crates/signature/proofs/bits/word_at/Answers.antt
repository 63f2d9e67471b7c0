use mathlib.Core.Path.{refl, ◌∙◌}
use native.Mathlib.Omega.{arith}
use Rattle.signature.proofs.Words.{word-whole, word-rest}
use Rattle.signature.proofs.bits.word_at.Goals as goal

pub returns-then-n-lt8 : goal.returns-then-n-lt8
returns-then-n-lt8 c = c.load.ensures ∙ word-rest c.args.buf.now c.args.i (λ j. (c.type_inv.buf j).fits) _ refl c.requires (omega arith)

pub returns : goal.returns
returns c = c.load-2.ensures ∙ word-whole c.args.buf.now c.args.i (λ j. (c.type_inv.buf j).fits) (omega arith)
