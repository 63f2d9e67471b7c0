use mathlib.Core.Path.{ap, ◌∙◌}
use native.Mathlib.Nat.{one-mul}
use lib.ListN.{set, get_or}
use lib.Bits.{bit_or}
use Prim.Native.Nat.{ℕ, ◌/◌, ◌%◌}
use native.Mathlib.Omega.{arith}
use lib.Pow.{shl_exact}
use lib.Dec.{lit<}
use Rattle.signature.proofs.challenge.mark.Goals as goal

pub returns : goal.returns
returns c =
    ap (λ (n : ℕ). set c.args.map (c.args.p / 64) (bit_or (get_or c.args.map (c.args.p / 64) 0) n))
    (shl_exact {a = 1} 1 (c.args.p % 64) 64 (lit< tt) (omega arith) ∙ one-mul _)
