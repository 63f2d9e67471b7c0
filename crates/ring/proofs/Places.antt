-- Lists made place by place: by a rule for two lists, by rests, by a factor.
use mathlib.Core.Path.{◌≡◌, refl, ap, sym, ◌∙◌}
use mathlib.Core.List.{List, [], ◌∷◌, ◌++◌}
use Prim.Native.Nat.{ℕ, zero, suc, ◌*◌, ◌%◌, ◌<◌}
use native.Mathlib.Nat.{mod-lt, mod-mod, mod-eq_of_lt, not-suc-le-zero}
use native.Mathlib.Omega.{arith}
use lib.ListN.{length, take, drop, get_or, set}
use Rattle.hash.specs.Lists.{table}
use Rattle.hash.proofs.Table.{table_none, table-next, length-table}
use Rattle.ring.specs.Words.{Below, Residues}
use Rattle.ring.specs.Poly.{map_n, map2}
use Rattle.ring.specs.Residue.{mods, scale}
use Rattle.ring.proofs.Cong.{Eqv, ≈refl, ≈trans, ≈eq, ≈mod, ≈same, ≈kit}
use Rattle.ring.proofs.Sums.{below-append}
use Rattle.ring.proofs.Pairs.{below-map_n}
use Rattle.ring.proofs.Mapped.{length-map, map-append, map-take, map-drop, map-set, map_at, map-map}

-- ---- a rule for two lists

pub length-map2 : (h : ℕ → ℕ → ℕ) (xs ys : List ℕ) → length xs ≡ length ys → length (map2 h xs ys) ≡ length xs
length-map2 h [] ys e = refl
length-map2 h (x ∷ xs) [] e = sym e
length-map2 h (x ∷ xs) (y ∷ ys) e = ap suc (length-map2 h xs ys (omega arith))

pub below-map2 : (p : ℕ) (h : ℕ → ℕ → ℕ) → ((a b : ℕ) → h a b < p) → (xs ys : List ℕ) → Below p (map2 h xs ys)
below-map2 p h l [] ys = tt
below-map2 p h l (x ∷ xs) [] = tt
below-map2 p h l (x ∷ xs) (y ∷ ys) = (l x y, below-map2 p h l xs ys)

-- .. by bounds of the lists
pub map2-low : (p m n : ℕ) (h : ℕ → ℕ → ℕ) → ((a b : ℕ) → a < m → b < n → h a b < p) → (xs ys : List ℕ) → Below m xs → Below n ys → Below p (map2 h xs ys)
map2-low p m n h l [] ys bx by = tt
map2-low p m n h l (x ∷ xs) [] bx by = tt
map2-low p m n h l (x ∷ xs) (y ∷ ys) bx by = (l x y bx.0 by.0, map2-low p m n h l xs ys bx.1 by.1)

pub map2_at : (h : ℕ → ℕ → ℕ) (xs ys : List ℕ) (i : ℕ) → i < length xs → i < length ys → get_or (map2 h xs ys) i 0 ≡ h (get_or xs i 0) (get_or ys i 0)
map2_at h [] ys i l g = absurd (not-suc-le-zero l)
map2_at h (x ∷ xs) [] i l g = absurd (not-suc-le-zero g)
map2_at h (x ∷ xs) (y ∷ ys) zero l g = refl
map2_at h (x ∷ xs) (y ∷ ys) (suc i) l g = map2_at h xs ys i (omega arith) (omega arith)

pub residues-map2 : {p n : ℕ} (h : ℕ → ℕ → ℕ) → ((a b : ℕ) → h a b < p) → (xs ys : List ℕ)
    → length xs ≡ n → length ys ≡ n → Residues p n (map2 h xs ys)
residues-map2 {p} h l xs ys e g =
    record { long = length-map2 h xs ys (e ∙ sym g) ∙ e; low = below-map2 p h l xs ys }

pub maps : (h : ℕ → ℕ → ℕ) {a b c d : List ℕ} → a ≡ b → c ≡ d → map2 h a c ≡ map2 h b d
maps h e k = cc

-- ---- rests

pub length-mods : (p : ℕ) (xs : List ℕ) → length (mods p xs) ≡ length xs
length-mods p xs = length-map (λ (x : ℕ). x % p) xs

pub below-mods : {p : ℕ} → 0 < p → (xs : List ℕ) → Below p (mods p xs)
below-mods {p} pos xs = below-map_n p (λ (x : ℕ). x % p) (λ x. mod-lt x pos) xs

pub residues-mods : {p n : ℕ} → 0 < p → (xs : List ℕ) → length xs ≡ n → Residues p n (mods p xs)
residues-mods {p} pos xs e = record { long = length-mods p xs ∙ e; low = below-mods pos xs }

module _ (p : ℕ) where
  pub mods-append : (xs ys : List ℕ) → mods p (xs ++ ys) ≡ mods p xs ++ mods p ys
  mods-append xs ys = map-append (λ (x : ℕ). x % p) xs ys

  pub mods-mods : (xs : List ℕ) → mods p (mods p xs) ≡ mods p xs
  mods-mods xs = map-map (λ (x : ℕ). x % p) (λ (x : ℕ). x % p) (λ (x : ℕ). x % p) (λ x. mod-mod x p) xs

  pub mods-take : (n : ℕ) (xs : List ℕ) → mods p (take n xs) ≡ take n (mods p xs)
  mods-take n xs = sym (map-take (λ (x : ℕ). x % p) n xs)

  pub mods-drop : (n : ℕ) (xs : List ℕ) → mods p (drop n xs) ≡ drop n (mods p xs)
  mods-drop n xs = sym (map-drop (λ (x : ℕ). x % p) n xs)

  pub mods-set : (xs : List ℕ) (i v : ℕ) → mods p (set xs i v) ≡ set (mods p xs) i (v % p)
  mods-set xs i v = map-set (λ (x : ℕ). x % p) xs i v

  pub mods-at : 0 < p → (xs : List ℕ) (i : ℕ) → get_or (mods p xs) i 0 ≡ get_or xs i 0 % p
  mods-at pos xs i = map_at (λ (x : ℕ). x % p) (mod-eq_of_lt pos) xs i

-- ---- a table of residues

below-table : (p : ℕ) (f : ℕ → ℕ) → ((i : ℕ) → f i < p) → (n : ℕ) → Below p (table f n)
below-table p f l zero = rw table_none tt
below-table p f l (suc n) = rw table-next (below-append p (table f n) (f n ∷ []) (below-table p f l n) (l n, tt))

pub residues-table : {p : ℕ} (f : ℕ → ℕ) → ((i : ℕ) → f i < p) → (n : ℕ) → Residues p n (table f n)
residues-table {p} f l n = record { long = length-table f n; low = below-table p f l n }

-- ---- a factor

module _ {p : ℕ} (pos : 0 < p) where
  pub residues-scale : {n : ℕ} (s : ℕ) (f : List ℕ) → length f ≡ n → Residues p n (scale p s f)
  residues-scale s f e =
      record {
        long = length-map (λ (a : ℕ). (s * a) % p) f ∙ e;
        low = below-map_n p (λ (a : ℕ). (s * a) % p) (λ a. mod-lt (s * a) pos) f;
      }

  pub scale-append : (s : ℕ) (xs ys : List ℕ) → scale p s (xs ++ ys) ≡ scale p s xs ++ scale p s ys
  scale-append s xs ys = map-append (λ (a : ℕ). (s * a) % p) xs ys

  pub scale-take : (s k : ℕ) (f : List ℕ) → take k (scale p s f) ≡ scale p s (take k f)
  scale-take s k f = map-take (λ (a : ℕ). (s * a) % p) k f

  pub scale-drop : (s k : ℕ) (f : List ℕ) → drop k (scale p s f) ≡ scale p s (drop k f)
  scale-drop s k f = map-drop (λ (a : ℕ). (s * a) % p) k f

  pub scale-map2 : (s : ℕ) (h : ℕ → ℕ → ℕ) → ((a b : ℕ) → h ((s * a) % p) ((s * b) % p) ≡ (s * h a b) % p)
      → (xs ys : List ℕ) → map2 h (scale p s xs) (scale p s ys) ≡ scale p s (map2 h xs ys)
  unfolding map_n
  scale-map2 s h l [] ys = refl
  scale-map2 s h l (x ∷ xs) [] = refl
  scale-map2 s h l (x ∷ xs) (y ∷ ys) = cc (l x y, scale-map2 s h l xs ys)

  pub scale_one : (s : ℕ) → Eqv p s 1 → (f : List ℕ) → Below p f → scale p s f ≡ f
  unfolding map_n
  scale_one s h [] g = refl
  scale_one s h (a ∷ f) g =
      cc (
        ≈same (mod-lt (s * a) pos) g.0 (≈trans (≈mod _) (≈trans {b = 1 * a} (grw (≈kit, h)) (≈eq (omega arith)))),
        scale_one s h f g.1,
      )

  -- rests times 1
  pub scale-rests : (xs : List ℕ) → scale p 1 (mods p xs) ≡ mods p xs
  scale-rests xs = scale_one 1 ≈refl (mods p xs) (below-mods pos xs)

  pub scale-scale : (s t : ℕ) (f : List ℕ) → scale p s (scale p t f) ≡ scale p (s * t) f
  scale-scale s t f = map-map (λ (a : ℕ). (s * a) % p) (λ (a : ℕ). (t * a) % p) (λ (a : ℕ). (s * t * a) % p) one f
    where
      one : (a : ℕ) → (s * ((t * a) % p)) % p ≡ (s * t * a) % p
      one a =
          let h : Eqv p (s * ((t * a) % p)) (s * t * a) = grw (≈kit, ≈mod {p = p} (t * a)) (≈eq (omega arith)) in
          h.same
