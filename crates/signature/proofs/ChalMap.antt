-- Laws of the map of taken positions: a bit that was clear, set, is one more one; and every other bit is as it was.
use Prim.Native.Nat.{ℕ, zero, suc, ◌+◌, ◌*◌, ◌-◌, ◌/◌, ◌%◌, ◌^◌, ◌<◌, ◌≤◌}
use mathlib.Core.Path.{◌≡◌, refl, sym, ap, ◌∙◌}
use mathlib.Core.List.{List, [], ◌∷◌}
use native.Mathlib.Omega.{arith}
use native.Mathlib.Nat.{add-zero, one-mul, div-eq_of_lt, mul-mod_left, mod-lt, not-suc-le-zero, le_of_suc-le-suc}
use native.Mathlib.Decide.{dec_lt, ℕ_discrete}
use lib.Dec.{lit<}
use lib.ListN.{length, get_or, set}
use lib.Seq.{get_or-set_same, get_or-set_other}
use lib.Pow.{pow_pos, pow-add, split, pow-lt, shl-shr}
use lib.Bits.{bit_or, or_block, or_zero_r, or_shr, or_mod}
use lib.Count.{ones, ones-le, ones_cat}
use Rattle.std.specs.List.{sum_by}
use Rattle.std.proofs.lemmas.List.Sums.{sum_by-cons}
use Rattle.signature.specs.ChallengeSteps.{bit_at, ones_of}

-- ---- one word

module _ (x k : ℕ) where
  mod-pow : x % 2 ^ k < 2 ^ k
  mod-pow = mod-lt x (pow_pos k)

  module _ (clear : x / 2 ^ k % 2 ≡ 0) where
    -- the digits above bit k, the bit, and those below
    parts : x ≡ x / 2 ^ k / 2 * 2 * 2 ^ k + x % 2 ^ k
    parts =
        let e : x / 2 ^ k ≡ x / 2 ^ k / 2 * 2 = omega arith in
        sym (split x k) ∙ ap (λ (n : ℕ). n * 2 ^ k + x % 2 ^ k) e

    or_parts : bit_or x (2 ^ k) ≡ (x / 2 ^ k / 2 * 2 + 1) * 2 ^ k + x % 2 ^ k
    or_parts =
        ap (λ (n : ℕ). bit_or n (2 ^ k)) parts
        ∙ ap (λ (n : ℕ). bit_or (x / 2 ^ k / 2 * 2 * 2 ^ k + x % 2 ^ k) n) (sym (add-zero (1 * 2 ^ k) ∙ one-mul (2 ^ k)))
        ∙ or_block k (x / 2 ^ k / 2 * 2) 1 (x % 2 ^ k) 0 mod-pow (pow_pos k)
        ∙ ap (λ (n : ℕ). bit_or (x / 2 ^ k / 2 * 2) 1 * 2 ^ k + n) (or_zero_r (x % 2 ^ k))
        ∙ ap (λ (n : ℕ). n * 2 ^ k + x % 2 ^ k) (or-even (x / 2 ^ k / 2))
      where
        or-even : (b : ℕ) → bit_or (b * 2) 1 ≡ b * 2 + 1
        or-even b = ap (λ (n : ℕ). bit_or n 1) (sym (add-zero (b * 2))) ∙ or_block 1 b 0 0 1 (lit< tt) (lit< tt) ∙ ap (λ (n : ℕ). n * 2 + 1) (or_zero_r b)

    pub or-ones : ones (bit_or x (2 ^ k)) ≡ ones x + 1
    unfolding ones
    or-ones =
        let b = x / 2 ^ k / 2 in
        let odd : ones (b * 2 + 1) ≡ ones b + 1 = ones_cat 1 b 1 (lit< tt) in
        let even : ones (b * 2) ≡ ones b = ap ones (sym (add-zero (b * 2))) ∙ ones_cat 1 b 0 (lit< tt) ∙ add-zero (ones b) in
        let l : ones (bit_or x (2 ^ k)) ≡ ones (b * 2 + 1) + ones (x % 2 ^ k) = ap ones or_parts ∙ ones_cat k (b * 2 + 1) (x % 2 ^ k) mod-pow in
        let r : ones x ≡ ones (b * 2) + ones (x % 2 ^ k) = ap ones parts ∙ ones_cat k (b * 2) (x % 2 ^ k) mod-pow in
        omega arith

    pub or_same : bit_or x (2 ^ k) / 2 ^ k % 2 ≡ 1
    or_same =
        ap (λ (n : ℕ). n % 2) (or_shr x (2 ^ k) k) ∙ or_mod (x / 2 ^ k) (2 ^ k / 2 ^ k) 1
        ∙ ap (λ (n : ℕ). bit_or n (2 ^ k / 2 ^ k % 2)) clear
        ∙ ap (λ (n : ℕ). n / 2 ^ k % 2) (sym (one-mul (2 ^ k))) ∙ ap (λ (n : ℕ). n % 2) (shl-shr 1 k)

  pow-bit : (j : ℕ) → (j ≡ k → ⊥) → 2 ^ k / 2 ^ j % 2 ≡ 0
  pow-bit j h = go (dec_lt j k)
    where
      go : Dec (j < k) → 2 ^ k / 2 ^ j % 2 ≡ 0
      go (yes l) =
          let e : k ≡ k - j - 1 + 1 + j = omega arith in
          ap (λ (n : ℕ). 2 ^ n / 2 ^ j % 2) e
          ∙ ap (λ (n : ℕ). n / 2 ^ j % 2) (pow-add 2 (k - j - 1 + 1) j)
          ∙ ap (λ (n : ℕ). n % 2) (shl-shr (2 ^ (k - j - 1 + 1)) j ∙ pow-add 2 (k - j - 1) 1)
          ∙ mul-mod_left (2 ^ (k - j - 1)) 2
      go (no n) = ap (λ (m : ℕ). m % 2) (div-eq_of_lt (pow-lt (omega (arith, n))))

  pub or-other : (j : ℕ) → (j ≡ k → ⊥) → bit_or x (2 ^ k) / 2 ^ j % 2 ≡ x / 2 ^ j % 2
  or-other j h =
      ap (λ (n : ℕ). n % 2) (or_shr x (2 ^ k) j) ∙ or_mod (x / 2 ^ j) (2 ^ k / 2 ^ j) 1
      ∙ ap (bit_or (x / 2 ^ j % 2)) (pow-bit j h) ∙ or_zero_r (x / 2 ^ j % 2)

-- ---- the words

pub ones-sum : (m : List ℕ) → sum_by ones m ≡ ones_of m
unfolding ones_of
ones-sum [] = refl
ones-sum (x ∷ m) = sum_by-cons ones x m ∙ ap (λ (n : ℕ). ones x + n) (ones-sum m)

pub ones-few : (m : List ℕ) → ((i : ℕ) → get_or m i 0 < 2 ^ 64) → sum_by ones m ≤ 64 * length m
ones-few [] h = omega arith
ones-few (x ∷ m) h = omega (arith, sum_by-cons ones x m, ones-le 64 x (h 0), ones-few m (λ i. h (suc i)))

pub ones-set : (m : List ℕ) (i v : ℕ) → i < length m → ones v ≡ ones (get_or m i 0) + 1 → ones_of (set m i v) ≡ ones_of m + 1
unfolding ones_of
ones-set [] i v h e = absurd (not-suc-le-zero h)
ones-set (x ∷ m) zero v h e = omega arith
ones-set (x ∷ m) (suc i) v h e = omega (arith, ones-set m i v (le_of_suc-le-suc h) e)

-- the map m with bit p set
abbrev pub marked : List ℕ → ℕ → List ℕ
marked m p = set m (p / 64) (bit_or (get_or m (p / 64) 0) (2 ^ (p % 64)))

module _ (m : List ℕ) (p : ℕ) (words : length m ≡ 8) (low : p < 512) where
  inside : p / 64 < length m
  inside = omega arith

  pub mark-ones : bit_at m p ≡ 0 → ones_of (marked m p) ≡ ones_of m + 1
  mark-ones h = ones-set m (p / 64) _ inside (or-ones _ (p % 64) h)

  pub mark-same : bit_at m p ≡ 0 → bit_at (marked m p) p ≡ 1
  mark-same h = ap (λ (x : ℕ). x / 2 ^ (p % 64) % 2) (get_or-set_same m (p / 64) _ 0 inside) ∙ or_same _ (p % 64) h

  pub mark-other : (j : ℕ) → (j ≡ p → ⊥) → bit_at (marked m p) j ≡ bit_at m j
  mark-other j h = go (ℕ_discrete (j / 64) (p / 64))
    where
      go : Dec (j / 64 ≡ p / 64) → bit_at (marked m p) j ≡ bit_at m j
      go (yes e) =
          ap (λ (i : ℕ). get_or (marked m p) i 0 / 2 ^ (j % 64) % 2) e
          ∙ ap (λ (x : ℕ). x / 2 ^ (j % 64) % 2) (get_or-set_same m (p / 64) _ 0 inside)
          ∙ or-other _ (p % 64) (j % 64) (λ k. h (omega arith))
          ∙ ap (λ (i : ℕ). get_or m i 0 / 2 ^ (j % 64) % 2) (sym e)
      go (no n) = ap (λ (x : ℕ). x / 2 ^ (j % 64) % 2) (get_or-set_other m (p / 64) (j / 64) _ 0 n)
