use Prim.Native.Nat.{ℕ, ◌/◌, ◌%◌, ◌^◌}
use mathlib.Core.Path.{ap, ◌∙◌}
use native.Mathlib.Nat.{mod-lt}
use lib.Dec.{lit<}
use Rattle.signature.proofs.Strings.{bit_at_lem}
use Rattle.signature.proofs.bits.get_bit.Goals as goal

pub returns : goal.returns
returns c = record {
  value = ap (λ (x : ℕ). x / 2 ^ (c.args.at % 8) % 2) c.from.ensures ∙ bit_at_lem c.args.buf.now c.args.at c.requires;
  upper_bound = mod-lt _ (lit< tt);
}
