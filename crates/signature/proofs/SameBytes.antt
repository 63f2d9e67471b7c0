-- The comparison of byte strings: of slices, and as equality.
use mathlib.Core.Path.{◌≡◌, refl, sym, ap, ◌∙◌}
use mathlib.Core.Bool.{Bool, true, false, ◌&&◌}
use mathlib.Core.List.{List, [], ◌∷◌}
use Prim.Native.Nat.{ℕ, zero, suc, ◌-◌, min}
use native.Mathlib.Omega.{arith}
use borrow.Author.Tests.{eqb-true, eq-eqb}
use lib.Dec.{eqb}
use lib.Pointwise.{pointwise}
use lib.ListN.{length, take, drop}
use lib.Seq.{take_all}
use Rattle.ring.proofs.Checks.{absurd-bool}
use Rattle.signature.specs.Checks.{both, same_bytes}

pub same_refl : (a : List ℕ) → same_bytes a a ≡ true
unfolding same_bytes
same_refl [] = refl
same_refl (x ∷ a) = ap (λ (b : Bool). both b (same_bytes a a)) (eq-eqb x x refl) ∙ same_refl a

pub same-eq : (a b : List ℕ) → same_bytes a b ≡ true → a ≡ b
unfolding same_bytes
same-eq [] [] e = refl
same-eq [] (y ∷ b) e = absurd-bool (sym e)
same-eq (x ∷ a) [] e = absurd-bool (sym e)
same-eq (x ∷ a) (y ∷ b) e = go (eqb x y) refl e (same-eq a b)
  where
    go : (t : Bool) → eqb x y ≡ t → both t (same_bytes a b) ≡ true → (same_bytes a b ≡ true → a ≡ b) → x ∷ a ≡ y ∷ b
    go true h f r = cc (eqb-true x y h, r f)
    go false h f r = absurd-bool (sym f)

pub same-not-long : (a b : List ℕ) → (length a ≡ length b → ⊥) → same_bytes a b ≡ false
same-not-long a b h = go (same_bytes a b) refl
  where
    go : (t : Bool) → same_bytes a b ≡ t → same_bytes a b ≡ false
    go true e = absurd (h (ap length (same-eq a b e)))
    go false e = e

-- the comparison of slices is this one
pub same-pointwise : (a b : List ℕ) → pointwise eqb a b ≡ same_bytes a b
unfolding same_bytes
same-pointwise [] [] = refl
same-pointwise [] (y ∷ b) = refl
same-pointwise (x ∷ a) [] = refl
same-pointwise (x ∷ a) (y ∷ b) = go (eqb x y) (same-pointwise a b)
  where
    go : (t : Bool) → pointwise eqb a b ≡ same_bytes a b → (t && pointwise eqb a b) ≡ both t (same_bytes a b)
    go true e = e
    go false e = refl

-- .. of all that is behind no byte: must-fail/hash_byte_not_compared.edit leaves one out
whole : (a : List ℕ) (i : ℕ) → i ≡ 0 → take (length a - i) (drop i a) ≡ a
whole a zero x = take_all (length a - 0) a (omega arith)
whole a (suc i) x = absurd (omega arith)

pub same-behind : (a b : List ℕ) {i j : ℕ} → i ≡ min (length a) 0 → j ≡ min (length b) 0 → same_bytes (take (length a - i) (drop i a)) (take (length b - j) (drop j b)) ≡ same_bytes a b
same-behind a b {i} {j} x y = rw (whole a i (omega (arith, x)), whole b j (omega (arith, y))) refl
