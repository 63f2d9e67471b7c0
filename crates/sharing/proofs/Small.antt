-- Samples cut from a buffer: where they lie, and 2 ^ u for u bits, u from 1 to 48 (000, Algorithm 7).
use mathlib.Core.Path.{◌≡◌, ap, ◌∙◌}
use mathlib.Core.List.{List}
use Prim.Native.Nat.{ℕ, suc, ◌+◌, ◌-◌, ◌*◌, ◌/◌, ◌%◌, ◌^◌, ◌≤◌, ◌<◌}
use native.Mathlib.Nat.{mod-lt, one-mul}
use native.Mathlib.Numerals.{add-one}
use native.Mathlib.Omega.{arith}
use lib.Dec.{lit<}
use lib.ListN.{length, take, set}
use lib.Seq.{take_at, take-suc-set, length-take-le}
use lib.Pow.{pow_pos, pow_mono, shl_exact}
use borrow.Rule.Slice.PartMut.{mid_of, post_of, put_mid}
use Rattle.hash.specs.Keccak.{State}
use Rattle.hash.specs.Lists.{table}
use Rattle.hash.specs.Shake.{stream}
use Rattle.hash.proofs.Table.{table-next, length-table}

-- ---- numbers of w bytes, 512 of them

-- one number more
pub sample-more : (f : ℕ → ℕ) (p : List ℕ) (i v : ℕ) → i < length p → take i p ≡ table f i → v ≡ f i
    → take (i + 1) (set p i v) ≡ table f (i + 1)
sample-more f p i v h e d = rw (add-one, take-suc-set p i v h, e, d, table-next f i)

-- the first n bytes of a buffer xs, written with a stream and read back
module _ (xs ys : List ℕ) (n : ℕ) (A : State) (h : n ≤ length xs) (e : ys ≡ table (stream A) (length (mid_of 0 n xs))) where
  mid-long : length (mid_of 0 n xs) ≡ n
  mid-long = length-take-le n xs h

  long : length ys ≡ n
  long = ap length e ∙ length-table (stream A) (length (mid_of 0 n xs)) ∙ mid-long

  pub stream-is : take n (put_mid 0 n xs ys) ≡ table (stream A) n
  stream-is = take_at ys (post_of 0 n xs) n long ∙ e ∙ ap (table (stream A)) mid-long

-- ---- 2 ^ u

module _ (u : ℕ) (pos : 1 ≤ u) (low : u ≤ 48) where
  -- 1 << u, its half, and its bound
  pub shifted : (1 * 2 ^ u) % 2 ^ 64 ≡ 2 ^ u
  shifted = shl_exact 1 u 64 (lit< tt) (omega arith) ∙ one-mul (2 ^ u)

  pub half-power : 2 ^ u / 2 ≡ 2 ^ (u - 1)
  half-power =
      let e : u ≡ suc (u - 1) = omega arith in
      let d : 2 ^ suc (u - 1) / 2 ≡ 2 ^ (u - 1) = omega arith in
      ap (λ k. 2 ^ k / 2) e ∙ d

  pub power_le : 2 ^ u ≤ 2 ^ 48
  power_le = pow_mono low

  pub rest_lt : (x : ℕ) → x % 2 ^ u < 2 ^ u
  rest_lt x = mod-lt x (pow_pos u)
