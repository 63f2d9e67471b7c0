-- Laws of CheckBounds by full sums (000, Algorithm 4).
use Prim.Native.Nat.{ℕ, zero, suc, ◌+◌, ◌*◌, ◌^◌, ◌≤◌, ◌<◌}
use mathlib.Core.Path.{◌≡◌, refl}
use mathlib.Core.Bool.{Bool, true, false}
use mathlib.Core.List.{List, [], ◌∷◌}
use native.Mathlib.Omega.{arith}
use native.Mathlib.Nat.{not-suc-le-zero}
use lib.Dec.{leb}
use lib.IntN.{ℤ, pos, nat_abs}
use lib.ListN.{length, get_or, take}
use borrow.Author.Tests.{le-leb, leb-true}
use Rattle.ring.proofs.Checks.{both_true, both_yes}
use Rattle.signature.specs.Bounds.{within, squares, bounds_of}

-- ---- one list

within-at : (most : ℕ) (zs : List ℤ) → within most zs ≡ true → (i : ℕ) → i < length zs → nat_abs (get_or zs i (pos 0)) ≤ most
unfolding within
within-at most [] e i h = absurd (not-suc-le-zero h)
within-at most (z ∷ zs) e zero h = leb-true _ _ (both_true (leb (nat_abs z) most) (within most zs) e).0
within-at most (z ∷ zs) e (suc i) h = within-at most zs (both_true (leb (nat_abs z) most) (within most zs) e).1 i (omega arith)

-- a prefix of what is within the limit is, and its sum is not more
within-take : (most : ℕ) (cs : List ℤ) (m : ℕ) → within most cs ≡ true → within most (take m cs) ≡ true
unfolding within
within-take most cs zero e = refl
within-take most [] (suc m) e = refl
within-take most (c ∷ cs) (suc m) e = let b = both_true (leb (nat_abs c) most) (within most cs) e in
    both_yes b.0 (within-take most cs m b.1)

pub squares-take : (v : ℕ) (cs : List ℤ) (m : ℕ) → squares v (take m cs) ≤ squares v cs
unfolding squares
squares-take v cs zero = omega arith
squares-take v [] (suc m) = omega arith
squares-take v (c ∷ cs) (suc m) = omega (arith, squares-take v cs m)

is-no : (b : Bool) → (b ≡ true → ⊥) → b ≡ false
is-no true f = absurd (f refl)
is-no false f = refl

-- ---- hint and response

module _ (limit most all : ℕ) where
  -- lines 3, 4 and 7 do not fail
  abbrev pub InBounds : List ℤ → List ℤ → Type 0
  InBounds h z = (within limit h ≡ true) × (within most z ≡ true) × (2 ^ 24 * squares 0 h + squares 32 z ≤ all)

  pub bounds-yes : (h z : List ℤ) → InBounds h z → bounds_of limit most all h z ≡ true
  unfolding bounds_of
  bounds-yes h z b = both_yes b.0 (both_yes b.1 (le-leb _ _ b.2))

  bounds-in : (h z : List ℤ) → bounds_of limit most all h z ≡ true → InBounds h z
  unfolding bounds_of
  bounds-in h z e =
      let a = both_true (within limit h) _ e in
      let b = both_true (within most z) _ a.1 in
      (a.0, b.0, leb-true _ _ b.1)

  pub bounds-no : (h z : List ℤ) → (InBounds h z → ⊥) → bounds_of limit most all h z ≡ false
  bounds-no h z f = is-no (bounds_of limit most all h z) (λ e. f (bounds-in h z e))

  pub in-bounds-take : (h z : List ℤ) (m n : ℕ) → InBounds h z → InBounds (take m h) (take n z)
  in-bounds-take h z m n b = (within-take limit h m b.0, within-take most z n b.1, omega (arith, b.2, squares-take 0 h m, squares-take 32 z n))

  -- no number is above its limit
  pub bounds-small : (h z : List ℤ) → bounds_of limit most all h z ≡ true
      → ((i : ℕ) → i < length h → nat_abs (get_or h i (pos 0)) ≤ limit) × ((i : ℕ) → i < length z → nat_abs (get_or z i (pos 0)) ≤ most)
  bounds-small h z e = let b = bounds-in h z e in (within-at limit h b.0, within-at most z b.1)
