-- Sums of lists of words, maps that keep them, and the sum of the shares (Algorithm 13, Decode): it keeps sums, and place by place it is
-- the sum of the share words modulo q.
use mathlib.Core.Path.{◌≡◌, refl, sym, ap, ◌∙◌}
use mathlib.Core.List.{List, ◌++◌}
use Prim.Native.Nat.{ℕ, zero, suc, ◌+◌, ◌*◌, ◌%◌, ◌<◌}
use native.Mathlib.Nat.{add-zero, add-suc}
use native.Mathlib.Omega.{arith}
use lib.ListN.{length, get_or, get_or-replicate, length-replicate}
use Rattle.ring.specs.Words.{q, addq, add_w, Words, Linear}
use Rattle.ring.proofs.Sums.{addq-rest, residues-append, length-zip, zip-at, words-add, add_assoc, add-swap, words-zeros, add-zero-left, add-zero-right, linear-zero}
use Rattle.hash.specs.Lists.{zeros}
use Rattle.sharing.specs.Blocks.{block, build, sum_of, sum_n, total, totals}
use Rattle.sharing.proofs.Lists.{block_words, block-add, block-left, block-right, build-ext, words-build, block-build, build-add, build-zeros}

-- ---- sums

pub length-sum : (w n : ℕ) (f : ℕ → List ℕ) → length (sum_of w n f) ≡ w
unfolding sum_of
length-sum w zero f = length-replicate {A = ℕ} w 0
length-sum w (suc n) f = length-zip addq (sum_of w n f) (f n) ∙ length-sum w n f

pub words-sum : (w n : ℕ) (f : ℕ → List ℕ) → Words w (sum_of w n f)
unfolding sum_of
words-sum w zero f = words-zeros w
words-sum w (suc n) f = words-add (sum_of w n f) (f n) (words-sum w n f)

pub sum-ext : (w n : ℕ) (f g : ℕ → List ℕ) → ((i : ℕ) → i < n → f i ≡ g i) → sum_of w n f ≡ sum_of w n g
unfolding sum_of
sum-ext w zero f g h = refl
sum-ext w (suc n) f g h = cc (sum-ext w n f g (λ (i : ℕ) (l : i < n). h i (omega arith)), h n (omega arith))

pub sum-add : {w : ℕ} (n : ℕ) (f g : ℕ → List ℕ) → ((i : ℕ) → i < n → Words w (f i)) → ((i : ℕ) → i < n → Words w (g i))
    → sum_of w n (λ (i : ℕ). add_w (f i) (g i)) ≡ add_w (sum_of w n f) (sum_of w n g)
unfolding sum_of
sum-add {w} zero f g h k = sym (add-zero-left (zeros w) (words-zeros w))
sum-add {w} (suc n) f g h k =
    let h' : (i : ℕ) → i < n → Words w (f i) = λ (i : ℕ) (l : i < n). h i (omega arith) in
    let k' : (i : ℕ) → i < n → Words w (g i) = λ (i : ℕ) (l : i < n). k i (omega arith) in
    ap (λ (t : List ℕ). add_w t (add_w (f n) (g n))) (sum-add n f g h' k')
    ∙ add-swap (sum_of w n f) (sum_of w n g) (f n) (g n) (words-sum w n f) (words-sum w n g) (h n (omega arith)) (k n (omega arith))

-- a sum in two parts
pub sum-split : {w : ℕ} (a b : ℕ) (f : ℕ → List ℕ) → ((i : ℕ) → i < a + b → Words w (f i))
    → sum_of w (a + b) f ≡ add_w (sum_of w a f) (sum_of w b (λ (j : ℕ). f (a + j)))
unfolding sum_of
sum-split {w} a zero f h =
    ap (λ (m : ℕ). sum_of w m f) (add-zero a) ∙ sym (add-zero-right (sum_of w a f) (words-sum w a f))
sum-split {w} a (suc b) f h =
    ap (λ (m : ℕ). sum_of w m f) (add-suc a b)
    ∙ ap (λ (t : List ℕ). add_w t (f (a + b))) (sum-split a b f (λ (i : ℕ) (l : i < a + b). h i (omega arith)))
    ∙ add_assoc (sum_of w a f) (sum_of w b (λ (j : ℕ). f (a + j))) (f (a + b)) (words-sum w a f)
    (words-sum w b (λ (j : ℕ). f (a + j))) (h (a + b) (omega arith))

-- a sum of built lists is built of sums
pub sum_rows : (w d l : ℕ) (F : ℕ → ℕ → List ℕ) → ((m j : ℕ) → m < l → j < d → length (F m j) ≡ w)
    → sum_of (d * w) l (λ (m : ℕ). build d (F m)) ≡ build d (λ (j : ℕ). sum_of w l (λ (m : ℕ). F m j))
unfolding sum_of
sum_rows w d zero F h = sym (build-zeros w d)
sum_rows w d (suc l) F h =
    ap (λ (t : List ℕ). add_w t (build d (F l))) (sum_rows w d l F (λ (m j : ℕ) (a : m < l) (b : j < d). h m j (omega arith) b))
    ∙ sym (build-add w d (λ (j : ℕ). sum_of w l (λ (m : ℕ). F m j)) (F l)
    (λ (j : ℕ) (b : j < d). length-sum w l (λ (m : ℕ). F m j)) (λ (j : ℕ) (b : j < d). h l j (omega arith) b))

-- ---- maps that keep sums

pub linear-sum : {w v : ℕ} {F : List ℕ → List ℕ} → Linear w v F → (n : ℕ) (f : ℕ → List ℕ) → ((i : ℕ) → i < n → Words w (f i))
    → F (sum_of w n f) ≡ sum_of v n (λ (i : ℕ). F (f i))
unfolding sum_of
linear-sum L zero f h = linear-zero L
linear-sum {w} {v} {F} L (suc n) f h =
    L.adds (sum_of w n f) (f n) (words-sum w n f) (h n (omega arith))
    ∙ ap (λ (t : List ℕ). add_w t (F (f n))) (linear-sum L n f (λ (i : ℕ) (l : i < n). h i (omega arith)))

-- one after the other, and the sum of two
pub linear-then : {w v u : ℕ} {F G : List ℕ → List ℕ} → Linear w v F → Linear v u G → Linear w u (λ (xs : List ℕ). G (F xs))
linear-then {w} {v} {u} {F} {G} L M =
    record {
      words = λ (xs : List ℕ) (h : Words w xs). M.words (F xs) (L.words xs h);
      adds = λ (xs ys : List ℕ) (h : Words w xs) (k : Words w ys).
          ap G (L.adds xs ys h k) ∙ M.adds (F xs) (F ys) (L.words xs h) (L.words ys k);
    }

-- the sum of n, and n one behind the other
module _ {w v : ℕ} (n : ℕ) (F : ℕ → List ℕ → List ℕ) (L : (i : ℕ) → i < n → Linear w v (F i)) where
  pub linear-sums : Linear w v (λ (xs : List ℕ). sum_of v n (λ (i : ℕ). F i xs))
  linear-sums =
      record {
        words = λ (xs : List ℕ) (h : Words w xs). words-sum v n (λ (i : ℕ). F i xs);
        adds = λ (xs ys : List ℕ) (h : Words w xs) (k : Words w ys).
            sum-ext v n (λ (i : ℕ). F i (add_w xs ys)) (λ (i : ℕ). add_w (F i xs) (F i ys)) (λ (i : ℕ) (l : i < n). (L i l).adds xs ys h k)
            ∙ sum-add n (λ (i : ℕ). F i xs) (λ (i : ℕ). F i ys) (λ (i : ℕ) (l : i < n). (L i l).words xs h) (λ (i : ℕ) (l : i < n). (L i l).words ys k);
      }

  pub linear-build : Linear w (n * v) (λ (xs : List ℕ). build n (λ (i : ℕ). F i xs))
  linear-build =
      record {
        words = λ (xs : List ℕ) (h : Words w xs). words-build n (λ (i : ℕ). F i xs) (λ (i : ℕ) (l : i < n). (L i l).words xs h);
        adds = λ (xs ys : List ℕ) (h : Words w xs) (k : Words w ys).
            build-ext n (λ (i : ℕ). F i (add_w xs ys)) (λ (i : ℕ). add_w (F i xs) (F i ys)) (λ (i : ℕ) (l : i < n). (L i l).adds xs ys h k)
            ∙ build-add v n (λ (i : ℕ). F i xs) (λ (i : ℕ). F i ys)
            (λ (i : ℕ) (l : i < n). ((L i l).words xs h).long) (λ (i : ℕ) (l : i < n). ((L i l).words ys k).long);
      }

pub block-linear : {w : ℕ} (n i : ℕ) → i < n → Linear (n * w) w (block w i)
block-linear {w} n i l =
    record { words = λ (xs : List ℕ) (h : Words (n * w) xs). block_words n i xs h l; adds = λ (xs ys : List ℕ) h k. block-add w i xs ys }

-- ---- the sum of d shares

pub total-words : (d : ℕ) (xs : List ℕ) → Words 512 (total d xs)
unfolding total
total-words d xs = words-sum 512 d (λ (j : ℕ). block 512 j xs)

pub total-linear : (d : ℕ) → Linear (d * 512) 512 (total d)
unfolding total
total-linear d = linear-sums d (λ (j : ℕ). block 512 j) (λ (j : ℕ) (l : j < d). block-linear d j l)

pub total-build : (d : ℕ) (f : ℕ → List ℕ) → ((j : ℕ) → j < d → length (f j) ≡ 512) → total d (build d f) ≡ sum_of 512 d f
unfolding total
total-build d f h =
    sum-ext 512 d (λ (j : ℕ). block 512 j (build d f)) f (λ (j : ℕ) (l : j < d). block-build 512 d j f h l)

-- the shares in two parts
pub total-append : (a b : ℕ) (xs ys : List ℕ) → Words (a * 512) xs → Words (b * 512) ys
    → total (a + b) (xs ++ ys) ≡ add_w (total a xs) (total b ys)
unfolding total
total-append a b xs ys h g =
    let w : Words (a * 512 + b * 512) (xs ++ ys) = residues-append xs ys h g in
    let w' : Words ((a + b) * 512) (xs ++ ys) = record { long = w.long ∙ omega arith; low = w.low } in
    let l : sum_of 512 a (λ (j : ℕ). block 512 j (xs ++ ys)) ≡ sum_of 512 a (λ (j : ℕ). block 512 j xs) =
    sum-ext 512 a (λ (j : ℕ). block 512 j (xs ++ ys)) (λ (j : ℕ). block 512 j xs) (λ (j : ℕ) (m : j < a). block-left 512 a j xs ys h.long m) in
    let r : sum_of 512 b (λ (j : ℕ). block 512 (a + j) (xs ++ ys)) ≡ sum_of 512 b (λ (j : ℕ). block 512 j ys) =
    sum-ext 512 b (λ (j : ℕ). block 512 (a + j) (xs ++ ys)) (λ (j : ℕ). block 512 j ys) (λ (j : ℕ) (m : j < b). block-right 512 a j xs ys h.long) in
    sum-split a b (λ (j : ℕ). block 512 j (xs ++ ys)) (λ (j : ℕ) (m : j < a + b). block_words (a + b) j (xs ++ ys) w' m)
    ∙ cc (l, r)

-- ---- the sums of n sharings

pub totals-words : (n d : ℕ) (xs : List ℕ) → Words (n * 512) (totals n d xs)
unfolding totals
totals-words n d xs =
    words-build n (λ (i : ℕ). total d (block (d * 512) i xs)) (λ (i : ℕ) (l : i < n). total-words d (block (d * 512) i xs))

pub totals-build : (n d : ℕ) (f : ℕ → List ℕ) → ((i : ℕ) → i < n → length (f i) ≡ d * 512)
    → totals n d (build n f) ≡ build n (λ (i : ℕ). total d (f i))
unfolding totals
totals-build n d f h =
    build-ext n (λ (i : ℕ). total d (block (d * 512) i (build n f))) (λ (i : ℕ). total d (f i))
    (λ (i : ℕ) (l : i < n). ap (total d) (block-build (d * 512) n i f h l))

pub block-totals : (n d i : ℕ) (xs : List ℕ) → i < n → block 512 i (totals n d xs) ≡ total d (block (d * 512) i xs)
unfolding totals
block-totals n d i xs l =
    block-build 512 n i (λ (i : ℕ). total d (block (d * 512) i xs)) (λ (i : ℕ) (l : i < n). (total-words d (block (d * 512) i xs)).long) l

-- ---- place by place

pub sum-at : (w n : ℕ) (f : ℕ → List ℕ) → ((i : ℕ) → i < n → length (f i) ≡ w) → (x : ℕ) → x < w
    → get_or (sum_of w n f) x 0 ≡ sum_n n (λ (j : ℕ). get_or (f j) x 0) % q
unfolding sum_of sum_n
sum-at w zero f h x l = get_or-replicate {A = ℕ} w x 0 0 l
sum-at w (suc n) f h x l =
    let r : get_or (sum_of w n f) x 0 ≡ sum_n n (λ (j : ℕ). get_or (f j) x 0) % q =
    sum-at w n f (λ (i : ℕ) (l : i < n). h i (omega arith)) x l in
    let a : x < length (sum_of w n f) = omega (arith, length-sum w n f) in
    let b : x < length (f n) = omega (arith, h n (omega arith)) in
    zip-at addq (sum_of w n f) (f n) x a b
    ∙ ap (λ (y : ℕ). addq y (get_or (f n) x 0)) r
    ∙ addq-rest (sum_n n (λ (j : ℕ). get_or (f j) x 0)) (get_or (f n) x 0)

-- 01: at each place the sum of the d share words modulo q
pub total-at : (d : ℕ) (xs : List ℕ) → Words (d * 512) xs → (x : ℕ) → x < 512
    → get_or (total d xs) x 0 ≡ sum_n d (λ (j : ℕ). get_or (block 512 j xs) x 0) % q
unfolding total
total-at d xs h x l = sum-at 512 d (λ (j : ℕ). block 512 j xs) (λ (j : ℕ) (m : j < d). (block_words d j xs h m).long) x l

pub sum_n-ext : (n : ℕ) (f g : ℕ → ℕ) → ((i : ℕ) → i < n → f i ≡ g i) → sum_n n f ≡ sum_n n g
unfolding sum_n
sum_n-ext zero f g h = refl
sum_n-ext (suc n) f g h = cc (sum_n-ext n f g (λ (i : ℕ) (l : i < n). h i (omega arith)), h n (omega arith))

sum_n-mod : (n : ℕ) (f : ℕ → ℕ) → sum_n n (λ (i : ℕ). f i % q) % q ≡ sum_n n f % q
unfolding sum_n
sum_n-mod zero f = refl
sum_n-mod (suc n) f = omega (arith, sum_n-mod n f)

-- the total of r repetitions of noise: the sum over repetitions and shares
pub reps-at : (d r : ℕ) (f : ℕ → List ℕ) → ((t : ℕ) → t < r → Words (d * 512) (f t)) → (x : ℕ) → x < 512
    → get_or (sum_of 512 r (λ (t : ℕ). total d (f t))) x 0 ≡ sum_n r (λ (t : ℕ). sum_n d (λ (j : ℕ). get_or (block 512 j (f t)) x 0)) % q
reps-at d r f h x l =
    sum-at 512 r (λ (t : ℕ). total d (f t)) (λ (t : ℕ) (m : t < r). (total-words d (f t)).long) x l
    ∙ ap (λ (n : ℕ). n % q)
    (sum_n-ext r (λ (t : ℕ). get_or (total d (f t)) x 0) (λ (t : ℕ). sum_n d (λ (j : ℕ). get_or (block 512 j (f t)) x 0) % q)
    (λ (t : ℕ) (m : t < r). total-at d (f t) (h t m) x l))
    ∙ sum_n-mod r (λ (t : ℕ). sum_n d (λ (j : ℕ). get_or (block 512 j (f t)) x 0))
