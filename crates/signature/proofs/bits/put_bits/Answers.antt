use mathlib.Core.Path.{◌∙◌}
use borrow.Author.Rules.{rules}
use Rattle.signature.proofs.Words.{word-whole, spliced-in}
use Rattle.signature.proofs.bits.put_bits.Goals as goal

pub returns-then-i-buf : goal.returns-then-i-buf
returns-then-i-buf c =
    let a = c.args in
    let h = c.if-i-buf.true in
    let x = c.load-x.ensures ∙ word-whole a.buf.now _ (λ j. search rules) h in
    spliced-in a.buf.now _ a.at a.v a.w _ _ h c.requires.w_bound x c.spliced.ensures c.put_word.ensures
