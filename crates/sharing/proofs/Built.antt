-- Blocks and lists built of them, by steps and by parts: what the layers above know of `block`, `build`, `each`, `sum_of` and the sums of shares.
use mathlib.Core.Path.{◌≡◌, refl, sym, ap, subst, ◌∙◌}
use mathlib.Core.List.{List, [], ◌++◌}
use Prim.Native.Nat.{ℕ, zero, suc, ◌+◌, ◌-◌, ◌*◌, ◌≤◌, ◌<◌}
use native.Mathlib.Nat.{zero-add}
use native.Mathlib.Omega.{arith}
use lib.IntN.{ℤ}
use lib.ListN.{length, get_or, take, drop, get_or-replicate}
use lib.Seq.{drop-drop}
use Rattle.ring.specs.Words.{add_w, zip_to, Words}
use Rattle.ring.specs.Poly.{map_n}
use Rattle.ring.specs.Round.{residues}
use Rattle.ring.proofs.Mapped.{map-none, map-append, map-take, map-drop}
use Rattle.ring.proofs.Reduced.{take-residues, drop-residues}
use Rattle.ring.proofs.Sums.{zip-take, zip-drop}
use Rattle.hash.specs.Lists.{zeros}
use Rattle.sharing.specs.Blocks.{block, build, sum_of, sum_n, total, totals, each}
use Rattle.sharing.specs.Region.{span}
use Rattle.sharing.proofs.Lists.{words-build, blocks-all}
use Rattle.sharing.proofs.Regions.{length-span, block-span}

-- zeros at a place
pub zeros-at : (n i : ℕ) → i < n → get_or (zeros n) i 0 ≡ 0
zeros-at n i h = get_or-replicate {A = ℕ} n i 0 0 h

-- ---- a block as a part, and blocks of blocks

pub block-is : (w i : ℕ) (xs : List ℕ) → block w i xs ≡ span xs (i * w) w
unfolding block
block-is w i xs = refl

-- a part of w words from i w on, as code lends it
pub part-block : (w i : ℕ) (xs : List ℕ) → take (i * w + w - i * w) (drop (i * w) xs) ≡ block w i xs
part-block w i xs = let e : i * w + w - i * w ≡ w = omega arith in ap (λ (m : ℕ). take m (drop (i * w) xs)) e ∙ sym (block-is w i xs)

pub length-block : (w i : ℕ) (xs : List ℕ) → i * w + w ≤ length xs → length (block w i xs) ≡ w
length-block w i xs h = ap (λ (l : List ℕ). length l) (block-is w i xs) ∙ length-span xs (i * w) w h

-- block j of the d that block i is; block i behind the first m
pub block-block : (w d i j : ℕ) (xs : List ℕ) → j < d → block w j (block (d * w) i xs) ≡ block w (i * d + j) xs
block-block w d i j xs h =
    let e : i * (d * w) + j * w ≡ (i * d + j) * w = omega arith in
    ap (block w j) (block-is (d * w) i xs) ∙ block-span w d j xs (i * (d * w)) h ∙ ap (λ (n : ℕ). span xs n w) e ∙ sym (block-is w (i * d + j) xs)

pub block-behind : (w m i : ℕ) (xs : List ℕ) → block w i (drop (m * w) xs) ≡ block w (m + i) xs
block-behind w m i xs =
    let e : m * w + i * w ≡ (m + i) * w = omega arith in
    block-is w i (drop (m * w) xs) ∙ ap (take w) (drop-drop (i * w) (m * w) xs ∙ ap (λ (n : ℕ). drop n xs) e) ∙ sym (block-is w (m + i) xs)

-- a block of what is made place by place
module _ (w i : ℕ) where
  pub block-map : (f : ℕ → ℕ) (xs : List ℕ) → block w i (map_n f xs) ≡ map_n f (block w i xs)
  unfolding block
  block-map f xs = ap (take w) (map-drop f (i * w) xs) ∙ map-take f w (drop (i * w) xs)

  pub block-zip : (f : ℕ → ℕ → ℕ) (xs ys : List ℕ) → block w i (zip_to f xs ys) ≡ zip_to f (block w i xs) (block w i ys)
  unfolding block
  block-zip f xs ys = ap (take w) (zip-drop f (i * w) xs ys) ∙ zip-take f w (drop (i * w) xs) (drop (i * w) ys)

  pub block-residues : (m : ℕ) (zs : List ℤ) → block w i (residues m zs) ≡ residues m (take w (drop (i * w) zs))
  unfolding block
  block-residues m zs = ap (take w) (drop-residues m (i * w) zs) ∙ take-residues m w (drop (i * w) zs)

-- ---- lists built: none, one, one more

pub build-none : (f : ℕ → List ℕ) → build 0 f ≡ []
unfolding build
build-none f = refl

pub build-next : (n : ℕ) (f : ℕ → List ℕ) → build (suc n) f ≡ build n f ++ f n
unfolding build
build-next n f = refl

-- done to each element of each, and of the whole
map-build : (f : ℕ → ℕ) (n : ℕ) (g : ℕ → List ℕ) → build n (λ (i : ℕ). map_n f (g i)) ≡ map_n f (build n g)
unfolding build
map-build f zero g = sym (map-none f)
map-build f (suc n) g = ap (λ (t : List ℕ). t ++ map_n f (g n)) (map-build f n g) ∙ sym (map-append f (build n g) (g n))

pub map-blocks : (f : ℕ → ℕ) (w n : ℕ) (xs : List ℕ) → length xs ≡ n * w → build n (λ (i : ℕ). map_n f (block w i xs)) ≡ map_n f xs
map-blocks f w n xs e = map-build f n (λ (i : ℕ). block w i xs) ∙ ap (map_n f) (blocks-all w n xs e)

-- F at each share
pub each-is : (d : ℕ) (F : List ℕ → List ℕ) (xs : List ℕ) → each d F xs ≡ build d (λ (j : ℕ). F (block 512 j xs))
unfolding each
each-is d F xs = refl

pub each-made : (d : ℕ) (F : List ℕ → List ℕ) → ((x : List ℕ) → Words 512 (F x)) → (xs : List ℕ) → Words (d * 512) (each d F xs)
each-made d F h xs =
    subst (Words (d * 512)) (sym (each-is d F xs)) (words-build d (λ (j : ℕ). F (block 512 j xs)) (λ (j : ℕ) (l : j < d). h (block 512 j xs)))

-- ---- sums: one, one more; of numbers; of shares

pub sum_one : (w : ℕ) (f : ℕ → List ℕ) → sum_of w 1 f ≡ add_w (zeros w) (f 0)
unfolding sum_of
sum_one w f = refl

pub sum-next : (w n : ℕ) (f : ℕ → List ℕ) → sum_of w (suc n) f ≡ add_w (sum_of w n f) (f n)
unfolding sum_of
sum-next w n f = refl

pub sum_n-next : (n : ℕ) (f : ℕ → ℕ) → sum_n (suc n) f ≡ sum_n n f + f n
unfolding sum_n
sum_n-next n f = refl

pub sum_n-one : (f : ℕ → ℕ) → sum_n 1 f ≡ f 0
unfolding sum_n
sum_n-one f = zero-add (f 0)

pub total-is : (d : ℕ) (xs : List ℕ) → total d xs ≡ sum_of 512 d (λ (j : ℕ). block 512 j xs)
unfolding total
total-is d xs = refl

pub totals-are : (n d : ℕ) (xs : List ℕ) → totals n d xs ≡ build n (λ (i : ℕ). total d (block (d * 512) i xs))
unfolding totals
totals-are n d xs = refl
