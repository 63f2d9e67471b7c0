-- What is done to each element of a list (map_n), and rounding (000, 2.2): step by step, in parts, lengths and bounds.
use mathlib.Core.Path.{◌≡◌, refl, sym, ap, ap₂, ◌∙◌}
use mathlib.Core.List.{List, [], ◌∷◌, ◌++◌}
use Prim.Native.Nat.{ℕ, zero, suc, ◌+◌, ◌-◌, ◌*◌, ◌/◌, ◌%◌, ◌^◌, ◌<◌}
use native.Mathlib.Nat.{mod-lt}
use lib.Dec.{lit<}
use lib.ListN.{length, take, drop, get_or, set}
use Rattle.hash.specs.Lists.{table}
use Rattle.hash.proofs.Table.{table_none, table-next}
use Rattle.ring.specs.Words.{q, zip_to, Residues, Words}
use Rattle.ring.specs.Poly.{map_n}
use Rattle.ring.specs.Round.{rounded, scaled_t}
use Rattle.ring.proofs.Pairs.{below-map_n}

-- ---- one list, and two

pub map-none : (f : ℕ → ℕ) → map_n f [] ≡ []
unfolding map_n
map-none f = refl

pub map_next : (f : ℕ → ℕ) (x : ℕ) (xs : List ℕ) → map_n f (x ∷ xs) ≡ f x ∷ map_n f xs
unfolding map_n
map_next f x xs = refl

pub zip_empty : (f : ℕ → ℕ → ℕ) (ys : List ℕ) → zip_to f [] ys ≡ []
unfolding zip_to
zip_empty f ys = refl

pub zip-next : (f : ℕ → ℕ → ℕ) (x y : ℕ) (xs ys : List ℕ) → zip_to f (x ∷ xs) (y ∷ ys) ≡ f x y ∷ zip_to f xs ys
unfolding zip_to
zip-next f x y xs ys = refl

-- ---- in parts

module _ (f : ℕ → ℕ) where
  pub length-map : (xs : List ℕ) → length (map_n f xs) ≡ length xs
  unfolding map_n
  length-map [] = refl
  length-map (x ∷ xs) = ap suc (length-map xs)

  pub map-append : (xs ys : List ℕ) → map_n f (xs ++ ys) ≡ map_n f xs ++ map_n f ys
  unfolding map_n
  map-append [] ys = refl
  map-append (x ∷ xs) ys = ap (λ (t : List ℕ). f x ∷ t) (map-append xs ys)

  pub map-take : (n : ℕ) (xs : List ℕ) → take n (map_n f xs) ≡ map_n f (take n xs)
  unfolding map_n
  map-take zero xs = refl
  map-take (suc n) [] = refl
  map-take (suc n) (x ∷ xs) = ap (λ (t : List ℕ). f x ∷ t) (map-take n xs)

  pub map-drop : (n : ℕ) (xs : List ℕ) → drop n (map_n f xs) ≡ map_n f (drop n xs)
  unfolding map_n
  map-drop zero xs = refl
  map-drop (suc n) [] = refl
  map-drop (suc n) (x ∷ xs) = map-drop n xs

  pub map-set : (xs : List ℕ) (i v : ℕ) → map_n f (set xs i v) ≡ set (map_n f xs) i (f v)
  unfolding map_n
  map-set [] i v = refl
  map-set (x ∷ xs) zero v = refl
  map-set (x ∷ xs) (suc i) v = ap (λ (t : List ℕ). f x ∷ t) (map-set xs i v)

  pub map_at : f 0 ≡ 0 → (xs : List ℕ) (i : ℕ) → get_or (map_n f xs) i 0 ≡ f (get_or xs i 0)
  unfolding map_n
  map_at e [] i = sym e
  map_at e (x ∷ xs) zero = refl
  map_at e (x ∷ xs) (suc i) = map_at e xs i

  pub map-table : (g : ℕ → ℕ) (n : ℕ) → map_n f (table g n) ≡ table (λ (i : ℕ). f (g i)) n
  map-table g zero = ap (map_n f) (table_none g) ∙ map-none f ∙ sym (table_none (λ (i : ℕ). f (g i)))
  map-table g (suc n) =
      ap (map_n f) (table-next g n)
      ∙ map-append (table g n) (g n ∷ [])
      ∙ ap₂ ◌++◌ (map-table g n) (map_next f (g n) [] ∙ ap (λ (t : List ℕ). f (g n) ∷ t) (map-none f))
      ∙ sym (table-next (λ (i : ℕ). f (g i)) n)

  -- .. after another
  pub map-map : (g h : ℕ → ℕ) → ((x : ℕ) → f (g x) ≡ h x) → (xs : List ℕ) → map_n f (map_n g xs) ≡ map_n h xs
  unfolding map_n
  map-map g h e [] = refl
  map-map g h e (x ∷ xs) = cc (e x, map-map g h e xs)

-- ---- rounding and scaling

pub rounded-lt : (v m : ℕ) → 0 < m → (x : ℕ) → rounded v m x < m
unfolding rounded
rounded-lt v m h x = mod-lt ((x + 2 ^ (v - 1)) / 2 ^ v) h

pub rounded-residues : (v m n : ℕ) → 0 < m → (xs : List ℕ) → length xs ≡ n → Residues m n (map_n (rounded v m) xs)
rounded-residues v m n h xs e =
    record { long = length-map (rounded v m) xs ∙ e; low = below-map_n m (rounded v m) (rounded-lt v m h) xs }

pub scaled-words : (f : List ℕ) → length f ≡ 512 → Words 512 (scaled_t f)
scaled-words f e =
    let h : ℕ → ℕ = λ (x : ℕ). x * 2 ^ 42 % q in
    record { long = length-map h f ∙ e; low = below-map_n q h (λ (x : ℕ). mod-lt (x * 2 ^ 42) (lit< tt)) f }
