-- Centred values of a list: place by place, in parts, and how large they are. Lists of signed numbers filled from the front.
use mathlib.Core.Path.{◌≡◌, refl, sym, ap, ◌∙◌}
use mathlib.Core.List.{List, [], ◌∷◌, ◌++◌}
use Prim.Native.Nat.{ℕ, zero, suc, ◌+◌, ◌≤◌, ◌<◌}
use native.Mathlib.Nat.{not-suc-le-zero}
use native.Mathlib.Numerals.{add-one}
use native.Mathlib.Omega.{arith}
use lib.IntN.{ℤ, pos, nat_abs}
use lib.ListN.{length, get_or, set, take}
use lib.Seq.{take_all, take-suc, take-suc-set}
use Rattle.ring.specs.Words.{Below}
use Rattle.ring.specs.Round.{centred}
use Rattle.ring.proofs.Reduced.{centred-le}
use Rattle.signature.specs.Recover.{centred_all}

pub length-centred : (m : ℕ) (xs : List ℕ) → length (centred_all m xs) ≡ length xs
unfolding centred_all
length-centred m [] = refl
length-centred m (x ∷ xs) = ap suc (length-centred m xs)

pub centred-at : (m : ℕ) (xs : List ℕ) (i : ℕ) → i < length xs → get_or (centred_all m xs) i (pos 0) ≡ centred m (get_or xs i 0)
unfolding centred_all
centred-at m [] i h = absurd (not-suc-le-zero h)
centred-at m (x ∷ xs) zero h = refl
centred-at m (x ∷ xs) (suc i) h = centred-at m xs i (omega arith)

pub centred-append : (m : ℕ) (xs ys : List ℕ) → centred_all m (xs ++ ys) ≡ centred_all m xs ++ centred_all m ys
unfolding centred_all
centred-append m [] ys = refl
centred-append m (x ∷ xs) ys = ap (λ (t : List ℤ). centred m x ∷ t) (centred-append m xs ys)

-- none is above the modulus
pub centred-low : (m : ℕ) (xs : List ℕ) → Below m xs → (i : ℕ) → nat_abs (get_or (centred_all m xs) i (pos 0)) ≤ m
unfolding centred_all
centred-low m [] b i = omega arith
centred-low m (x ∷ xs) b zero = centred-le m x b.0
centred-low m (x ∷ xs) b (suc i) = centred-low m xs b.1 i

-- ---- a list filled from the front: one more place, and all of them

module _ (s X : List ℤ) (i : ℕ) where
  pub signed-turn : (v : ℤ) → i < length s → i < length X → take i s ≡ take i X → v ≡ get_or X i (pos 0) → take (i + 1) (set s i v) ≡ take (i + 1) X
  signed-turn v h g e w =
      ap (λ k. take k (set s i v)) (add-one i) ∙ take-suc-set s i v h ∙ ap (λ l. l ++ (v ∷ [])) e ∙ ap (λ n. take i X ++ (n ∷ [])) w
      ∙ sym (ap (λ k. take k X) (add-one i) ∙ take-suc X i (pos 0) g)

  pub signed-end : length s ≤ i → length X ≤ i → take i s ≡ take i X → s ≡ X
  signed-end h g e = sym (take_all i s h) ∙ e ∙ take_all i X g
