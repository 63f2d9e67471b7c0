use mathlib.Core.Path.{◌≡◌, ◌∙◌}
use Prim.Native.Nat.{ℕ, zero, suc, ◌-◌, ◌*◌, ◌/◌, ◌%◌, ◌^◌, ◌<◌}
use native.Mathlib.Nat.{mul-one, mod-eq_of_lt, div-one}
use native.Mathlib.Omega.{arith}
use lib.Bits.{bit_or}
use Rattle.std.specs.Int.Bits.{or_self}
use Rattle.hash.specs.Keccak.{turned, rotl}
use Rattle.hash.proofs.keccak.rotl.Goals as goal

by-shifts : (x k : ℕ) → x < 2 ^ 64 → k < 64 → bit_or (x * 2 ^ k % 2 ^ 64) (x / 2 ^ ((64 - k) % 64)) ≡ turned x k
unfolding turned
by-shifts x zero hx hk = rw (mul-one, mod-eq_of_lt hx, div-one, or_self)
by-shifts x (suc k) hx hk = let e : (64 - suc k) % 64 ≡ 63 - k = omega arith in rw e

pub returns : goal.returns
unfolding rotl
returns c = c.rotate_left.ensures ∙ by-shifts c.args.x (c.args.n % 64) c.ranges.x.fits (omega arith)
