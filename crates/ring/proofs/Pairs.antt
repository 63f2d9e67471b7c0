-- Loops over lists in place: over two halves side by side, with h1 x y and h2 x y for the entries x and y at each place; and over one list.
use mathlib.Core.Path.{◌≡◌, refl, ap, sym, ◌∙◌, subst}
use mathlib.Core.List.{List, [], ◌∷◌, ◌++◌}
use Prim.Native.Nat.{ℕ, zero, suc, ◌+◌, ◌*◌, ◌<◌, ◌≤◌}
use native.Mathlib.Nat.{not-suc-le-zero, zero-add, suc-add}
use native.Mathlib.Numerals.{add-one}
use native.Mathlib.Omega.{arith}
use lib.ListN.{length, take, drop, get_or, set, length-set, length-drop, get_or-append, take-append-drop}
use lib.Seq.{set-append_left, get_or-append-add, length-take-le, take_all, take-suc, take-suc-set}
use Rattle.ring.specs.Words.{Below, zip_to}
use Rattle.ring.specs.Poly.{map_n, map2}
use Rattle.ring.specs.Residue.{halves}
use Rattle.ring.proofs.Sums.{below_at}

-- h at the first i places, and zs after
abbrev pub done : (ℕ → ℕ → ℕ) → ℕ → List ℕ → List ℕ → List ℕ → List ℕ
done h zero xs ys zs = zs
done h (suc i) [] ys zs = zs
done h (suc i) (x ∷ xs) [] zs = zs
done h (suc i) (x ∷ xs) (y ∷ ys) [] = []
done h (suc i) (x ∷ xs) (y ∷ ys) (z ∷ zs) = h x y ∷ done h i xs ys zs

length-done : (h : ℕ → ℕ → ℕ) (i : ℕ) (xs ys zs : List ℕ) → length (done h i xs ys zs) ≡ length zs
length-done h zero xs ys zs = refl
length-done h (suc i) [] ys zs = refl
length-done h (suc i) (x ∷ xs) [] zs = refl
length-done h (suc i) (x ∷ xs) (y ∷ ys) [] = refl
length-done h (suc i) (x ∷ xs) (y ∷ ys) (z ∷ zs) = ap suc (length-done h i xs ys zs)

done-here : (h : ℕ → ℕ → ℕ) (i : ℕ) (xs ys zs : List ℕ) → get_or (done h i xs ys zs) i 0 ≡ get_or zs i 0
done-here h zero xs ys zs = refl
done-here h (suc i) [] ys zs = refl
done-here h (suc i) (x ∷ xs) [] zs = refl
done-here h (suc i) (x ∷ xs) (y ∷ ys) [] = refl
done-here h (suc i) (x ∷ xs) (y ∷ ys) (z ∷ zs) = done-here h i xs ys zs

done_more : (h : ℕ → ℕ → ℕ) (i : ℕ) (xs ys zs : List ℕ) → i < length xs → length xs ≡ length ys → length xs ≡ length zs
    → set (done h i xs ys zs) i (h (get_or xs i 0) (get_or ys i 0)) ≡ done h (suc i) xs ys zs
done_more h i [] ys zs l e g = absurd (not-suc-le-zero l)
done_more h i (x ∷ xs) [] zs l e g = absurd (omega arith)
done_more h i (x ∷ xs) (y ∷ ys) [] l e g = absurd (omega arith)
done_more h zero (x ∷ xs) (y ∷ ys) (z ∷ zs) l e g = refl
done_more h (suc i) (x ∷ xs) (y ∷ ys) (z ∷ zs) l e g =
    ap (λ (t : List ℕ). h x y ∷ t) (done_more h i xs ys zs (omega arith) (omega arith) (omega arith))

done_all : (h : ℕ → ℕ → ℕ) (xs ys zs : List ℕ) → length xs ≡ length ys → length xs ≡ length zs
    → done h (length xs) xs ys zs ≡ map2 h xs ys
done_all h [] ys [] e g = refl
done_all h [] ys (z ∷ zs) e g = absurd (omega arith)
done_all h (x ∷ xs) [] zs e g = absurd (omega arith)
done_all h (x ∷ xs) (y ∷ ys) [] e g = absurd (omega arith)
done_all h (x ∷ xs) (y ∷ ys) (z ∷ zs) e g = ap (λ (t : List ℕ). h x y ∷ t) (done_all h xs ys zs (omega arith) (omega arith))

pub set_append_right : (xs ys : List ℕ) (i v : ℕ) → set (xs ++ ys) (length xs + i) v ≡ xs ++ set ys i v
set_append_right [] ys i v = rw zero-add
set_append_right (x ∷ xs) ys i v =
    ap (λ (n : ℕ). set (x ∷ (xs ++ ys)) n v) (suc-add (length xs) i) ∙ ap (λ (t : List ℕ). x ∷ t) (set_append_right xs ys i v)

abbrev mixed : (ℕ → ℕ → ℕ) → (ℕ → ℕ → ℕ) → ℕ → List ℕ → List ℕ → List ℕ
mixed h1 h2 i xs ys = done h1 i xs ys xs ++ done h2 i xs ys ys

module _ (h1 h2 : ℕ → ℕ → ℕ) (xs ys : List ℕ) (n : ℕ) (ex : length xs ≡ n) (ey : length ys ≡ n) where
  mixed-lo : (i : ℕ) → i < n → get_or (mixed h1 h2 i xs ys) i 0 ≡ get_or xs i 0
  mixed-lo i l =
      get_or-append (done h1 i xs ys xs) (done h2 i xs ys ys) 0 i (omega (arith, length-done h1 i xs ys xs))
      ∙ done-here h1 i xs ys xs

  mixed-hi : (i : ℕ) → get_or (mixed h1 h2 i xs ys) (n + i) 0 ≡ get_or ys i 0
  mixed-hi i =
      ap (λ (m : ℕ). get_or (mixed h1 h2 i xs ys) (m + i) 0) (sym (length-done h1 i xs ys xs ∙ ex))
      ∙ get_or-append-add (done h1 i xs ys xs) (done h2 i xs ys ys) i 0
      ∙ done-here h2 i xs ys ys

  mixed-more : (i v w : ℕ) → i < n → v ≡ h1 (get_or xs i 0) (get_or ys i 0) → w ≡ h2 (get_or xs i 0) (get_or ys i 0)
      → set (set (mixed h1 h2 i xs ys) i v) (n + i) w ≡ mixed h1 h2 (i + 1) xs ys
  mixed-more i v w l ev ew =
      let A : List ℕ = done h1 i xs ys xs in
      let B : List ℕ = done h2 i xs ys ys in
      let la : length (set A i v) ≡ n = length-set A i v ∙ length-done h1 i xs ys xs ∙ ex in
      ap (λ (t : List ℕ). set t (n + i) w) (set-append_left A B i v (omega (arith, length-done h1 i xs ys xs)))
      ∙ ap (λ (m : ℕ). set (set A i v ++ B) (m + i) w) (sym la)
      ∙ set_append_right (set A i v) B i w
      ∙ cc (
        ev,
        ew,
        add-one i,
        done_more h1 i xs ys xs (omega arith) (omega arith) refl,
        done_more h2 i xs ys ys (omega arith) (omega arith) (omega arith),
      )

  mixed-all : mixed h1 h2 n xs ys ≡ map2 h1 xs ys ++ map2 h2 xs ys
  mixed-all =
      cc (ex, done_all h1 xs ys xs (omega arith) refl, done_all h2 xs ys ys (omega arith) (omega arith))

-- the loop's state: i places done, of n, over the list A
pub record Paired (h1 h2 : ℕ → ℕ → ℕ) (n : ℕ) (A : List ℕ) (i : ℕ) (a : List ℕ) : Type 0 where
  pub upto : i ≤ n
  pub long : length a ≡ 2 * n
  pub is : a ≡ mixed h1 h2 i (take n A) (drop n A)

module _ (h1 h2 : ℕ → ℕ → ℕ) (n : ℕ) (A : List ℕ) (e : length A ≡ 2 * n) where
  lo : length (take n A) ≡ n
  lo = length-take-le n A (omega arith)

  hi : length (drop n A) ≡ n
  hi = simp length-drop (omega arith)

  pub paired-start : Paired h1 h2 n A 0 A
  paired-start = record { upto = omega arith; long = e; is = sym (take-append-drop n A) }

  module _ (i : ℕ) (a : List ℕ) (s : Paired h1 h2 n A i a) (l : i < n) where
    at-lo : get_or a i 0 ≡ get_or (take n A) i 0
    at-lo = ap (λ (t : List ℕ). get_or t i 0) s.is ∙ mixed-lo h1 h2 (take n A) (drop n A) n lo hi i l

    at-hi : get_or a (n + i) 0 ≡ get_or (drop n A) i 0
    at-hi = ap (λ (t : List ℕ). get_or t (n + i) 0) s.is ∙ mixed-hi h1 h2 (take n A) (drop n A) n lo hi i

    pub paired-more : (v w : ℕ) → v ≡ h1 (get_or a i 0) (get_or a (n + i) 0) → w ≡ h2 (get_or a i 0) (get_or a (n + i) 0)
        → Paired h1 h2 n A (i + 1) (set (set a i v) (n + i) w)
    paired-more v w ev ew =
        record {
          upto = omega arith;
          long = simp length-set s.long;
          is =
              ap (λ (t : List ℕ). set (set t i v) (n + i) w) s.is
              ∙ mixed-more h1 h2 (take n A) (drop n A) n lo hi i v w l (cc (ev, at-lo, at-hi)) (cc (ew, at-lo, at-hi));
        }

  pub paired-end : (i : ℕ) (a : List ℕ) → Paired h1 h2 n A i a → n ≤ i → a ≡ halves h1 h2 n A
  paired-end i a s g =
      let q : i ≡ n = omega arith in
      s.is ∙ ap (λ (k : ℕ). mixed h1 h2 k (take n A) (drop n A)) q ∙ mixed-all h1 h2 (take n A) (drop n A) n lo hi

-- a loop over one list: h x y at each place, y read from another list
pub record Each (h : ℕ → ℕ → ℕ) (A B : List ℕ) (i : ℕ) (a : List ℕ) : Type 0 where
  pub upto : i ≤ length A
  pub long : length a ≡ length A
  pub is : a ≡ done h i A B A

pub each_start : (h : ℕ → ℕ → ℕ) (A B : List ℕ) → Each h A B 0 A
each_start h A B = record { upto = omega arith; long = refl; is = refl }

module _ (h : ℕ → ℕ → ℕ) (A B : List ℕ) (i : ℕ) (a : List ℕ) (s : Each h A B i a) where
  each_at : get_or a i 0 ≡ get_or A i 0
  each_at = ap (λ (t : List ℕ). get_or t i 0) s.is ∙ done-here h i A B A

  pub each-low : (p : ℕ) → 0 < p → Below p A → get_or a i 0 < p
  each-low p pos g = subst (λ (x : ℕ). x < p) (sym each_at) (below_at p pos A g i)

  pub each_more : (v : ℕ) → i < length a → length A ≡ length B → v ≡ h (get_or a i 0) (get_or B i 0) → Each h A B (i + 1) (set a i v)
  each_more v l e ev =
      record {
        upto = omega (arith, s.long);
        long = simp length-set s.long;
        is = cc (s.is, ev, each_at, add-one i, done_more h i A B A (omega (arith, s.long)) e refl);
      }

  pub each-end : length a ≤ i → length A ≡ length B → a ≡ map2 h A B
  each-end l e =
      let q : i ≡ length A = omega (arith, s.long, s.upto) in
      s.is ∙ ap (λ (k : ℕ). done h k A B A) q ∙ done_all h A B A e refl

-- what such a loop makes, in the words of the definitions
pub map2-map_n : (f : ℕ → ℕ) (A : List ℕ) → map2 (λ (x : ℕ) (y : ℕ). f x) A A ≡ map_n f A
unfolding map_n
map2-map_n f [] = refl
map2-map_n f (x ∷ A) = ap (λ (t : List ℕ). f x ∷ t) (map2-map_n f A)

pub map2-zip : (f : ℕ → ℕ → ℕ) (A B : List ℕ) → length A ≡ length B → map2 f A B ≡ zip_to f A B
unfolding zip_to
map2-zip f [] B e = refl
map2-zip f (x ∷ A) [] e = absurd (omega arith)
map2-zip f (x ∷ A) (y ∷ B) e = ap (λ (t : List ℕ). f x y ∷ t) (map2-zip f A B (omega arith))

pub below-map_n : (p : ℕ) (f : ℕ → ℕ) → ((x : ℕ) → f x < p) → (A : List ℕ) → Below p (map_n f A)
unfolding map_n
below-map_n p f h [] = tt
below-map_n p f h (x ∷ A) = (h x, below-map_n p f h A)

-- a list that is filled from the front
pub take-turn : (s X : List ℕ) (i v : ℕ) → i < length s → i < length X → take i s ≡ take i X → v ≡ get_or X i 0
    → take (i + 1) (set s i v) ≡ take (i + 1) X
take-turn s X i v h g e w =
    ap (λ k. take k (set s i v)) (add-one i) ∙ take-suc-set s i v h ∙ ap (λ l. l ++ (v ∷ [])) e ∙ ap (λ n. take i X ++ (n ∷ [])) w
    ∙ sym (ap (λ k. take k X) (add-one i) ∙ take-suc X i 0 g)

pub take-end : (s X : List ℕ) (i : ℕ) → length s ≤ i → length X ≤ i → take i s ≡ take i X → s ≡ X
take-end s X i h g e = sym (take_all i s h) ∙ e ∙ take_all i X g
