use Prim.Native.Nat.{ℕ, ◌*◌, ◌-◌, ◌%◌, ◌^◌}
use mathlib.Core.Path.{◌≡◌, ap, ◌∙◌}
use native.Mathlib.Omega.{arith}
use lib.Dec.{lit<}
use lib.Bits.{bit_and, and_mask}
use lib.Pow.{shl_exact, pow_pos}
use native.Mathlib.Nat.{one-mul}
use Rattle.signature.proofs.bits.low.Goals as goal

pub overflow_sub-result : goal.overflow_sub-result
overflow_sub-result c =
    let one : 1 * 2 ^ c.args.w % 2 ^ 64 ≡ 2 ^ c.args.w = shl_exact {a = 1} 1 c.args.w 64 (lit< tt) (omega arith) ∙ one-mul _ in
    omega (arith, one, pow_pos c.args.w)

pub returns : goal.returns
returns c =
    let one : 1 * 2 ^ c.args.w % 2 ^ 64 ≡ 2 ^ c.args.w = shl_exact {a = 1} 1 c.args.w 64 (lit< tt) (omega arith) ∙ one-mul _ in
    ap (λ (n : ℕ). bit_and c.args.x (n - 1)) one ∙ and_mask c.args.x c.args.w
