use mathlib.Core.Path.{◌∙◌}
use native.Mathlib.Nat.{mod-lt}
use lib.Pow.{pow_pos}
use Rattle.signature.proofs.Words.{get-is}
use Rattle.signature.proofs.bits.get_bits.Goals as goal

pub returns : goal.returns
returns c = record {
  value = c.low.ensures ∙ get-is c.args.buf.now c.args.at c.args.w _ c.requires.w_in_bounds c.requires.w_bound c.word_at.ensures;
  upper_bound = rw c.low.ensures (mod-lt _ (pow_pos c.args.w));
}
