-- Signed numbers in 64 bits: 0 - k for a number k below 2^63, and a small signed number, widened and turned.
use mathlib.Core.Path.{◌≡◌, ap, sym, ◌∙◌, subst}
use mathlib.Core.Bool.{true, false}
use mathlib.Core.List.{List, [], ◌∷◌}
use Prim.Native.Nat.{ℕ, zero, suc, ◌-◌, ◌%◌, ◌^◌, ◌<◌, ◌≤◌}
use native.Mathlib.Nat.{mod-lt, mod-eq_of_lt}
use native.Mathlib.Omega.{arith}
use lib.Dec.{T, lit<}
use lib.Signed.{mag, non_neg, le_z}
use lib.IntN.{ℤ, pos, negsuc, neg_ℤ, nat_abs, ◌-ℤ◌, +ℤ_idl}
use mir.Syntax.{w8, w64}
use mir.Val.{Fits, SFits, to_z, of_z}
use mir.Facts.{to_z_pos, to_z-of_z}
use borrow.Author.Tests.{le-leb}
use Rattle.ring.specs.Words.{q, Below}
use Rattle.ring.specs.Round.{residue, residues}

minus : (k : ℕ) → k < 2 ^ 63 → SFits w64 (neg_ℤ (pos k))
minus zero h = record { sfits = h }
minus (suc k) h = record { sfits = omega arith }

pub zero_minus : (k : ℕ) → k < 2 ^ 63 → pos 0 -ℤ to_z w64 k ≡ neg_ℤ (pos k)
zero_minus k h = ap (λ (z : ℤ). pos 0 -ℤ z) (to_z_pos w64 h) ∙ +ℤ_idl (neg_ℤ (pos k))

pub minus-fits : (k : ℕ) → k < 2 ^ 63 → SFits w64 (pos 0 -ℤ to_z w64 k)
minus-fits k h = subst (SFits w64) (sym (zero_minus k h)) (minus k h)

pub minus-value : (k : ℕ) → k < 2 ^ 63 → to_z w64 (of_z w64 (pos 0 -ℤ to_z w64 k)) ≡ neg_ℤ (pos k)
minus-value k h = to_z-of_z (minus-fits k h) ∙ zero_minus k h

-- ---- a number of 8 bits

wide : (z : ℤ) → mag z < 128 → SFits w64 z
wide z h = record { sfits = omega arith }

turned : (z : ℤ) → mag z < 128 → SFits w64 (neg_ℤ z)
turned (pos zero) h = record { sfits = omega arith }
turned (pos (suc n)) h = record { sfits = omega arith }
turned (negsuc n) h = record { sfits = omega arith }

module _ (z : ℤ) (h : SFits w8 z) where
  small : mag z < 128
  small = h.sfits

  pub byte-is : to_z w8 (of_z w8 z) ≡ z
  byte-is = to_z-of_z h

  pub byte-wide : SFits w64 (to_z w8 (of_z w8 z))
  byte-wide = subst (SFits w64) (sym byte-is) (wide z small)

  minus-byte : pos 0 -ℤ to_z w64 (of_z w64 (to_z w8 (of_z w8 z))) ≡ neg_ℤ z
  minus-byte = ap (λ (y : ℤ). pos 0 -ℤ y) (to_z-of_z byte-wide ∙ byte-is) ∙ +ℤ_idl (neg_ℤ z)

  pub byte-turns : SFits w64 (pos 0 -ℤ to_z w64 (of_z w64 (to_z w8 (of_z w8 z))))
  byte-turns = subst (SFits w64) (sym minus-byte) (turned z small)

  pub byte-turned : to_z w64 (of_z w64 (pos 0 -ℤ to_z w64 (of_z w64 (to_z w8 (of_z w8 z))))) ≡ neg_ℤ z
  byte-turned = to_z-of_z byte-turns ∙ minus-byte

-- where it is not negative
pub nonneg-yes : (z : ℤ) → le_z (pos 0) z ≡ true → T (non_neg z)
nonneg-yes (pos n) e = tt
nonneg-yes (negsuc n) e = subst T (sym e) tt

pub nonneg-fits : (z : ℤ) → mag z < 128 → le_z (pos 0) z ≡ true → Fits w64 (nat_abs z)
nonneg-fits (pos n) h e = record { fits = omega arith }
nonneg-fits (negsuc n) h e = record { fits = omega arith }

pub nonneg-is : (z : ℤ) → mag z < 128 → le_z (pos 0) z ≡ true → nat_abs z ≡ residue q z
unfolding residue
nonneg-is (pos n) h e =
    let l : n < q = omega arith in sym (mod-eq_of_lt l)
nonneg-is (negsuc n) h e = absurd (subst T (sym e) tt)

-- where it is negative
pub neg-yes : (z : ℤ) → le_z (pos 0) z ≡ false → T (non_neg (neg_ℤ z))
neg-yes (pos n) e = absurd (subst T (sym (le-leb 0 n (omega arith)) ∙ e) tt)
neg-yes (negsuc n) e = tt

pub neg_low : (z : ℤ) → mag z < 128 → nat_abs (neg_ℤ z) ≤ 128
neg_low (pos zero) h = omega arith
neg_low (pos (suc n)) h = omega arith
neg_low (negsuc n) h = omega arith

pub neg-residue : (z : ℤ) → mag z < 128 → le_z (pos 0) z ≡ false → 549824583172097 - nat_abs (neg_ℤ z) ≡ residue q z
unfolding residue
neg-residue (pos n) h e = absurd (subst T (sym (le-leb 0 n (omega arith)) ∙ e) tt)
neg-residue (negsuc n) h e =
    let m : suc n % q ≡ suc n = mod-eq_of_lt (omega arith) in
    let l : q - suc n < q = omega arith in
    sym (ap (λ (x : ℕ). (q - x) % q) m ∙ mod-eq_of_lt l)

-- ---- lists of them

pub residue-low : (z : ℤ) → residue q z < q
unfolding residue
residue-low (pos n) = mod-lt n (lit< tt)
residue-low (negsuc n) = mod-lt (q - suc n % q) (lit< tt)

pub below-residues : (zs : List ℤ) → Below q (residues q zs)
unfolding residues
below-residues [] = tt
below-residues (z ∷ zs) = (residue-low z, below-residues zs)
