-- Lists of words by blocks: blocks of a list, and lists built block by block.
use mathlib.Core.Path.{◌≡◌, refl, sym, ap, ◌∙◌}
use mathlib.Core.List.{List, [], ◌++◌, append-nil, append_assoc}
use Prim.Native.Nat.{ℕ, zero, suc, ◌+◌, ◌*◌, ◌≤◌, ◌<◌}
use native.Mathlib.Nat.{not-suc-le-zero, mul-le-mul_right, suc-mul, zero-mul, add-zero, add-suc}
use native.Mathlib.Decide.{dec_lt}
use native.Mathlib.Omega.{arith}
use lib.ListN.{length, take, drop, get_or, replicate, length-append, length-drop, replicate-append-replicate}
use lib.Seq.{take-append-le, drop-append-le, take-add, take_all, drop_at, drop-append-add, get_or-take, get_or-drop, length-take-le}
use Rattle.ring.specs.Words.{q, addq, add_w, Words}
use Rattle.ring.proofs.Sums.{below-take, below-drop, residues-append, zip-drop, zip-take, zip-append, zip-none, length-zip}
use Rattle.hash.specs.Lists.{zeros}
use Rattle.sharing.specs.Blocks.{block, build}

-- ---- blocks

-- block i of n ends before they all end
pub inside : (i n w : ℕ) → i < n → i * w + w ≤ n * w
inside i n w h = omega (arith, suc-mul i w, mul-le-mul_right w h)

pub block_words : {w : ℕ} (n i : ℕ) (xs : List ℕ) → Words (n * w) xs → i < n → Words w (block w i xs)
unfolding block
block_words {w} n i xs h l =
    let g : i * w + w ≤ n * w = inside i n w l in
    let k = h.long in
    record {
      long = length-take-le w (drop (i * w) xs) (rw length-drop (omega arith));
      low = below-take q w (drop (i * w) xs) (below-drop q (i * w) xs h.low);
    }

pub block_at : (w i : ℕ) (xs : List ℕ) (x : ℕ) → x < w → get_or (block w i xs) x 0 ≡ get_or xs (i * w + x) 0
unfolding block
block_at w i xs x l = get_or-take w (drop (i * w) xs) x 0 l ∙ get_or-drop (i * w) xs x 0

pub block-add : (w i : ℕ) (xs ys : List ℕ) → block w i (add_w xs ys) ≡ add_w (block w i xs) (block w i ys)
unfolding block
block-add w i xs ys = ap (take w) (zip-drop addq (i * w) xs ys) ∙ zip-take addq w (drop (i * w) xs) (drop (i * w) ys)

-- of two lists, the first of a blocks
pub block-left : (w a j : ℕ) (xs ys : List ℕ) → length xs ≡ a * w → j < a → block w j (xs ++ ys) ≡ block w j xs
unfolding block
block-left w a j xs ys e h =
    let g : j * w + w ≤ a * w = inside j a w h in
    let l : w ≤ length (drop (j * w) xs) = rw length-drop (omega arith) in
    ap (take w) (drop-append-le (j * w) xs ys (omega arith)) ∙ take-append-le w (drop (j * w) xs) ys l

pub block-right : (w a j : ℕ) (xs ys : List ℕ) → length xs ≡ a * w → block w (a + j) (xs ++ ys) ≡ block w j ys
unfolding block
block-right w a j xs ys e =
    let k : (a + j) * w ≡ length xs + j * w = omega arith in
    ap (λ (m : ℕ). take w (drop m (xs ++ ys))) k ∙ ap (take w) (drop-append-add xs ys (j * w))

-- ---- lists built block by block

pub build-ext : (n : ℕ) (f g : ℕ → List ℕ) → ((i : ℕ) → i < n → f i ≡ g i) → build n f ≡ build n g
unfolding build
build-ext zero f g h = refl
build-ext (suc n) f g h = cc (build-ext n f g (λ (i : ℕ) (l : i < n). h i (omega arith)), h n (omega arith))

pub length-build : (w n : ℕ) (f : ℕ → List ℕ) → ((i : ℕ) → i < n → length (f i) ≡ w) → length (build n f) ≡ n * w
unfolding build
length-build w zero f h = omega arith
length-build w (suc n) f h =
    let a : length (build n f) ≡ n * w = length-build w n f (λ (i : ℕ) (l : i < n). h i (omega arith)) in
    let b : length (f n) ≡ w = h n (omega arith) in
    length-append (build n f) (f n) ∙ omega (arith, suc-mul n w)

pub words-build : {w : ℕ} (n : ℕ) (f : ℕ → List ℕ) → ((i : ℕ) → i < n → Words w (f i)) → Words (n * w) (build n f)
unfolding build
words-build zero f h = record { long = omega arith; low = tt }
words-build {w} (suc n) f h =
    let a : Words (n * w) (build n f) = words-build n f (λ (i : ℕ) (l : i < n). h i (omega arith)) in
    let b : Words (n * w + w) (build n f ++ f n) = residues-append (build n f) (f n) a (h n (omega arith)) in
    record { long = b.long ∙ sym (suc-mul n w); low = b.low }

pub block-build : (w n i : ℕ) (f : ℕ → List ℕ) → ((j : ℕ) → j < n → length (f j) ≡ w) → i < n → block w i (build n f) ≡ f i
unfolding build block
block-build w zero i f h l = absurd (not-suc-le-zero l)
block-build w (suc n) i f h l = go (dec_lt i n) (λ (k : i < n). block-build w n i f (λ (j : ℕ) (m : j < n). h j (omega arith)) k)
  where
    e : length (build n f) ≡ n * w
    e = length-build w n f (λ (j : ℕ) (m : j < n). h j (omega arith))

    go : Dec (i < n) → ((i < n) → block w i (build n f) ≡ f i) → block w i (build n f ++ f n) ≡ f i
    go (yes k) r = block-left w n i (build n f) (f n) e k ∙ r k
    go (no k) r =
        let s : i ≡ n = omega arith in
        ap (λ (j : ℕ). take w (drop (j * w) (build n f ++ f n))) s
        ∙ ap (take w) (drop_at (build n f) (f n) (n * w) e)
        ∙ take_all w (f n) (omega (arith, h n (omega arith)))
        ∙ ap f (sym s)

-- a list is its blocks
pub build-blocks : (w n : ℕ) (xs : List ℕ) → n * w ≤ length xs → build n (λ (i : ℕ). block w i xs) ≡ take (n * w) xs
unfolding build block
build-blocks w zero xs h = sym (ap (λ (k : ℕ). take k xs) (zero-mul w))
build-blocks w (suc n) xs h =
    let m : suc n * w ≡ n * w + w = suc-mul n w in
    ap (λ (t : List ℕ). t ++ take w (drop (n * w) xs)) (build-blocks w n xs (omega arith)) ∙ sym (take-add (n * w) w xs)
    ∙ ap (λ (k : ℕ). take k xs) (sym m)

pub blocks-all : (w n : ℕ) (xs : List ℕ) → length xs ≡ n * w → build n (λ (i : ℕ). block w i xs) ≡ xs
blocks-all w n xs h = build-blocks w n xs (omega arith) ∙ take_all (n * w) xs (omega arith)

-- sums block by block
pub build-add : (w n : ℕ) (f g : ℕ → List ℕ) → ((j : ℕ) → j < n → length (f j) ≡ w) → ((j : ℕ) → j < n → length (g j) ≡ w)
    → build n (λ (j : ℕ). add_w (f j) (g j)) ≡ add_w (build n f) (build n g)
unfolding build
build-add w zero f g a b = sym (zip-none addq [])
build-add w (suc n) f g a b =
    let a' : (j : ℕ) → j < n → length (f j) ≡ w = λ (j : ℕ) (l : j < n). a j (omega arith) in
    let b' : (j : ℕ) → j < n → length (g j) ≡ w = λ (j : ℕ) (l : j < n). b j (omega arith) in
    ap (λ (t : List ℕ). t ++ add_w (f n) (g n)) (build-add w n f g a' b')
    ∙ sym (zip-append addq (build n f) (f n) (build n g) (g n) (length-build w n f a' ∙ sym (length-build w n g b')))

pub add-blocks : (w n : ℕ) (xs ys : List ℕ) → length xs ≡ n * w → build n (λ (j : ℕ). add_w (block w j xs) (block w j ys)) ≡ add_w xs ys
add-blocks w n xs ys h =
    build-ext n (λ (j : ℕ). add_w (block w j xs) (block w j ys)) (λ (j : ℕ). block w j (add_w xs ys))
    (λ (j : ℕ) (l : j < n). sym (block-add w j xs ys))
    ∙ blocks-all w n (add_w xs ys) (length-zip addq xs ys ∙ h)

pub build-zeros : (w n : ℕ) → build n (λ (j : ℕ). zeros w) ≡ zeros (n * w)
unfolding build
build-zeros w zero = sym (ap (λ (k : ℕ). replicate {A = ℕ} k 0) (zero-mul w))
build-zeros w (suc n) =
    ap (λ (t : List ℕ). t ++ replicate w 0) (build-zeros w n) ∙ replicate-append-replicate {A = ℕ} (n * w) w 0
    ∙ ap (λ (k : ℕ). replicate {A = ℕ} k 0) (sym (suc-mul n w))

-- ---- built in two parts, and built of built lists

pub build-more : (n m : ℕ) (f : ℕ → List ℕ) → build (n + m) f ≡ build n f ++ build m (λ (j : ℕ). f (n + j))
unfolding build
build-more n zero f = ap (λ (k : ℕ). build k f) (add-zero n) ∙ sym (append-nil (build n f))
build-more n (suc m) f =
    ap (λ (k : ℕ). build k f) (add-suc n m)
    ∙ ap (λ (l : List ℕ). l ++ f (n + m)) (build-more n m f)
    ∙ append_assoc (build n f) (build m (λ (j : ℕ). f (n + j))) (f (n + m))

pub build-nest : (l d : ℕ) (f : ℕ → List ℕ) → build (l * d) f ≡ build l (λ (i : ℕ). build d (λ (j : ℕ). f (i * d + j)))
unfolding build
build-nest zero d f = ap (λ (k : ℕ). build k f) (zero-mul d)
build-nest (suc l) d f =
    let e : suc l * d ≡ l * d + d = omega arith in
    ap (λ (k : ℕ). build k f) e ∙ build-more (l * d) d f ∙ ap (λ (x : List ℕ). x ++ build d (λ (j : ℕ). f (l * d + j))) (build-nest l d f)
