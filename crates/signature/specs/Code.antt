-- The code of a signature's coefficients (000, 2.5.1): w low bits of the absolute value, the rest of it in ones, a stop bit, and a sign that 0 has not.
-- Hint: w is 0. Response: w is 40.
use Rattle.std.specs.Prelude.{List, [], ◌∷◌, ◌++◌, ℕ, zero, suc, ◌+◌, ◌*◌, ◌/◌, ◌^◌, ltb, eqb, ℤ, pos, negsuc, nat_abs, length, get_or, take, drop, replicate}
use Rattle.std.proofs.Math.Option.{Option, some, none}
use Rattle.hash.specs.Lists.{pick}
use Rattle.signature.specs.Bits.{bits_of, val_of}

-- 1 where z is negative; the number with absolute value m, below 0 where s is not 0
abbrev pub neg_of : ℤ → ℕ
neg_of (pos n) = 0
neg_of (negsuc n) = 1

abbrev pub signed_of : ℕ → ℕ → ℤ
signed_of m zero = pos m
signed_of zero (suc s) = pos zero
signed_of (suc m) (suc s) = negsuc m

-- ---- writing

abbrev pub signs : ℕ → ℕ → List ℕ
signs zero s = []
signs (suc m) s = s ∷ []

unfoldable pub code_of : ℕ → ℕ → ℕ → List ℕ
code_of w m s = bits_of w m ++ (replicate (m / 2 ^ w) 1 ++ (0 ∷ signs m s))

abbrev pub code : ℕ → ℤ → List ℕ
code w z = code_of w (nat_abs z) (neg_of z)

unfoldable pub codes : ℕ → List ℤ → List ℕ
codes w [] = []
codes w (z ∷ zs) = code w z ++ codes w zs

-- how many bits these take
unfoldable pub code_bits : ℕ → ℤ → ℕ
code_bits w (pos zero) = w + 1
code_bits w (pos (suc n)) = w + suc n / 2 ^ w + 2
code_bits w (negsuc n) = w + suc n / 2 ^ w + 2

unfoldable pub codes_bits : ℕ → List ℤ → ℕ
codes_bits w [] = 0
codes_bits w (z ∷ zs) = code_bits w z + codes_bits w zs

-- ---- reading

-- how many ones a bit string begins with
unfoldable pub run_of : List ℕ → ℕ
run_of [] = 0
run_of (zero ∷ l) = 0
run_of (suc b ∷ l) = suc (run_of l)

-- the absolute value that the bits t begin with: w low bits and a run of ones
abbrev pub mag_of : ℕ → List ℕ → ℕ
mag_of w t = val_of (take w t) + run_of (drop w t) * 2 ^ w

-- the number that the bits t begin with, and how many bits it takes; none where t is too short. Its absolute value is m, its stop bit is at
-- k; the sign is behind it, where m is not 0
abbrev read_sign : ℕ → List ℕ → ℕ → Option (ℤ × ℕ)
read_sign m t k =
    pick (eqb m 0) (some (pos 0, k + 1)) (pick (ltb (k + 1) (length t)) (some (signed_of m (get_or t (k + 1) 0), k + 2)) none)

-- .. with a run of n ones behind the w low bits
abbrev read_stop : ℕ → List ℕ → ℕ → Option (ℤ × ℕ)
read_stop w t n = pick (ltb (w + n) (length t)) (read_sign (mag_of w t) t (w + n)) none

unfoldable pub read_code : ℕ → List ℕ → Option (ℤ × ℕ)
read_code w t = read_stop w t (run_of (drop w t))

-- one number more, behind those that were read
abbrev pub one_more : List ℤ × ℕ → Option (ℤ × ℕ) → Option (List ℤ × ℕ)
one_more r none = none
one_more r (some s) = some (r.0 ++ (s.0 ∷ []), r.1 + s.1)

abbrev pub then_one : ℕ → List ℕ → Option (List ℤ × ℕ) → Option (List ℤ × ℕ)
then_one w t none = none
then_one w t (some r) = one_more r (read_code w (drop r.1 t))

-- the first n numbers of the bits t, and how many bits they take
unfoldable pub read_codes : ℕ → ℕ → List ℕ → Option (List ℤ × ℕ)
read_codes w zero t = some ([], 0)
read_codes w (suc n) t = then_one w t (read_codes w n t)
