-- How many bits the codes take.
use Prim.Native.Nat.{ℕ, zero, suc, ◌+◌, ◌*◌, ◌/◌, ◌^◌, ◌≤◌, ◌<◌}
use mathlib.Core.Path.{◌≡◌, refl, ◌∙◌}
use mathlib.Core.List.{List, [], ◌∷◌}
use native.Mathlib.Omega.{arith}
use native.Mathlib.Nat.{not-suc-le-zero, le_of_suc-le-suc, zero-div}
use native.Mathlib.Numerals.{add-one}
use lib.Pow.{shr_le}
use lib.IntN.{ℤ, pos, negsuc, nat_abs}
use lib.ListN.{length, get_or, take, replicate, length-append}
use Rattle.signature.specs.Code.{code, codes, code_bits, codes_bits}
use Rattle.signature.proofs.Codes.{code-length}

module _ (w : ℕ) where
  pub zero-takes : (z : ℤ) → nat_abs z ≡ 0 → w + 1 ≡ code_bits w z
  unfolding code_bits
  zero-takes (pos zero) e = refl
  zero-takes (pos (suc n)) e = let x : ⊥ = omega arith in absurd x
  zero-takes (negsuc n) e = let x : ⊥ = omega arith in absurd x

  pub some-takes : (z : ℤ) → (nat_abs z ≡ 0 → ⊥) → w + nat_abs z / 2 ^ w + 2 ≡ code_bits w z
  unfolding code_bits
  some-takes (pos zero) h = absurd (h refl)
  some-takes (pos (suc n)) h = refl
  some-takes (negsuc n) h = refl

  pub one-length : (z : ℤ) → length (code w z) ≡ code_bits w z
  unfolding code_bits
  one-length (pos zero) = code-length w 0 0 ∙ omega (arith, zero-div (2 ^ w))
  one-length (pos (suc n)) = code-length w (suc n) 0 ∙ omega arith
  one-length (negsuc n) = code-length w (suc n) 1 ∙ omega arith

  pub code-low : (z : ℤ) → code_bits w z ≤ w + nat_abs z / 2 ^ w + 2
  unfolding code_bits
  code-low (pos zero) = omega (arith, zero-div (2 ^ w))
  code-low (pos (suc n)) = omega arith
  code-low (negsuc n) = omega arith

  pub code-few : (z : ℤ) → w ≤ 40 → nat_abs z < 2 ^ 50 → code_bits w z ≤ 2 ^ 50 + 64
  code-few z h l = omega (arith, code-low z, shr_le (nat_abs z) w)

  pub code-short : (z : ℤ) → w ≤ 54 → code_bits w z ≤ 56 → w + nat_abs z / 2 ^ w + 2 ≤ 56
  unfolding code_bits
  code-short (pos zero) h l = omega (arith, zero-div (2 ^ w))
  code-short (pos (suc n)) h l = l
  code-short (negsuc n) h l = l

  pub codes-length : (zs : List ℤ) → length (codes w zs) ≡ codes_bits w zs
  unfolding codes codes_bits
  codes-length [] = refl
  codes-length (z ∷ zs) = length-append (code w z) (codes w zs) ∙ omega (arith, one-length z, codes-length zs)

  pub codes_same : (n : ℕ) (z : ℤ) → codes_bits w (replicate n z) ≡ n * code_bits w z
  unfolding codes_bits
  codes_same zero z = omega arith
  codes_same (suc n) z = omega (arith, codes_same n z)

  count-suc : (zs : List ℤ) (i : ℕ) → i < length zs → codes_bits w (take (suc i) zs) ≡ codes_bits w (take i zs) + code_bits w (get_or zs i (pos 0))
  unfolding codes_bits
  count-suc [] i h = absurd (not-suc-le-zero h)
  count-suc (z ∷ zs) zero h = omega arith
  count-suc (z ∷ zs) (suc i) h = omega (arith, count-suc zs i (le_of_suc-le-suc h))

  pub count-more : (zs : List ℤ) (i : ℕ) → i < length zs → codes_bits w (take (i + 1) zs) ≡ codes_bits w (take i zs) + code_bits w (get_or zs i (pos 0))
  count-more zs i h = rw add-one (count-suc zs i h)
