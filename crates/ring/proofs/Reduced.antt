-- Residues of signed numbers modulo any m, one by one and in lists, and centred values: each undoes the other.
use mathlib.Core.Path.{◌≡◌, refl, ap, ◌∙◌}
use mathlib.Core.Bool.{Bool, true, false}
use mathlib.Core.List.{List, [], ◌∷◌}
use Prim.Native.Nat.{ℕ, zero, suc, ◌+◌, ◌-◌, ◌/◌, ◌%◌, ◌≤◌, ◌<◌}
use native.Mathlib.Decide.{dec_lt}
use native.Mathlib.Nat.{mod-lt, mod-eq_of_lt, not-suc-le-zero}
use native.Mathlib.Omega.{arith}
use borrow.Author.Tests.{leb-false, le-leb, lt-leb}
use lib.Dec.{leb}
use lib.IntN.{ℤ, pos, negsuc, neg_ℤ, nat_abs}
use lib.ListN.{length, get_or, take, drop}
use Rattle.ring.specs.Round.{centred, residue, residues}

-- ---- one number, of an absolute value below m

module _ (m : ℕ) where
  pub residue-nat : (n : ℕ) → n < m → residue m (pos n) ≡ n
  unfolding residue
  residue-nat n h = mod-eq_of_lt h

  pub residue-negsuc : (n : ℕ) → suc n < m → residue m (negsuc n) ≡ m - suc n
  unfolding residue
  residue-negsuc n h =
      let a : suc n % m ≡ suc n = mod-eq_of_lt h in
      let l : m - suc n < m = omega arith in
      ap (λ (x : ℕ). (m - x) % m) a ∙ mod-eq_of_lt l

  pub residue-lt : (z : ℤ) → nat_abs z < m → residue m z < m
  unfolding residue
  residue-lt (pos n) h = mod-lt n (omega arith)
  residue-lt (negsuc n) h = mod-lt (m - suc n % m) (omega arith)

  -- ---- lists of them

  pub residues-none : residues m [] ≡ []
  unfolding residues
  residues-none = refl

  pub residues-next : (z : ℤ) (zs : List ℤ) → residues m (z ∷ zs) ≡ residue m z ∷ residues m zs
  unfolding residues
  residues-next z zs = refl

  pub length-residues : (zs : List ℤ) → length (residues m zs) ≡ length zs
  unfolding residues
  length-residues [] = refl
  length-residues (z ∷ zs) = ap suc (length-residues zs)

  pub residues-at : (zs : List ℤ) (d : ℤ) (i : ℕ) → i < length zs → get_or (residues m zs) i 0 ≡ residue m (get_or zs i d)
  unfolding residues
  residues-at [] d i h = absurd (not-suc-le-zero h)
  residues-at (z ∷ zs) d zero h = refl
  residues-at (z ∷ zs) d (suc i) h = residues-at zs d i (omega arith)

  pub take-residues : (n : ℕ) (zs : List ℤ) → take n (residues m zs) ≡ residues m (take n zs)
  unfolding residues
  take-residues zero zs = refl
  take-residues (suc n) [] = refl
  take-residues (suc n) (z ∷ zs) = ap (λ (l : List ℕ). residue m z ∷ l) (take-residues n zs)

  pub drop-residues : (n : ℕ) (zs : List ℤ) → drop n (residues m zs) ≡ residues m (drop n zs)
  unfolding residues
  drop-residues zero zs = refl
  drop-residues (suc n) [] = refl
  drop-residues (suc n) (z ∷ zs) = drop-residues n zs

-- ---- centred values

abs_neg : (k : ℕ) → nat_abs (neg_ℤ (pos k)) ≡ k
abs_neg zero = refl
abs_neg (suc k) = refl

-- none is above the modulus
pub centred-le : (m x : ℕ) → x < m → nat_abs (centred m x) ≤ m
unfolding centred
centred-le m x h = go (dec_lt (m / 2) x)
  where
    go : Dec (m / 2 < x) → nat_abs (centred m x) ≤ m
    go (yes l) = rw (lt-leb _ _ l) (omega (arith, abs_neg (m - x)))
    go (no l) = let o : x ≤ m / 2 = omega (arith, l) in rw (le-leb _ _ o) (omega arith)

minus-back : (m x k : ℕ) → k + x ≡ m → 0 < x → 0 < k → residue m (neg_ℤ (pos k)) ≡ x
minus-back m x zero e hx hk = absurd (omega arith)
minus-back m x (suc n) e hx hk = residue-negsuc m n (omega arith) ∙ omega arith

-- the residue of a centred value
pub residue-centred : (m x : ℕ) → x < m → residue m (centred m x) ≡ x
unfolding centred
residue-centred m x h = go (leb x (m / 2)) refl
  where
    go : (b : Bool) → leb x (m / 2) ≡ b → residue m (centred m x) ≡ x
    go true e = rw e (residue-nat m x h)
    go false e = rw e (minus-back m x (m - x) (omega arith) (omega (arith, leb-false x (m / 2) e)) (omega arith))
