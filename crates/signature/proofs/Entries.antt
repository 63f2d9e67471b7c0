-- Lists that may not be there, one behind the other: if all are there each is a block of the whole. The entries of the matrix (000,
-- Algorithm 6) are the polynomials of its list.
use mathlib.Core.Path.{◌≡◌, refl, sym, ap, ◌∙◌}
use mathlib.Core.Bool.{true, false}
use mathlib.Core.List.{List, [], ◌++◌}
use mathlib.Core.Option.{Option, some, none}
use Prim.Native.Nat.{ℕ, zero, suc, ◌+◌, ◌*◌, ◌<◌}
use native.Mathlib.Nat.{not-suc-le-zero}
use native.Mathlib.Decide.{dec_lt}
use native.Mathlib.Numerals.{add-one}
use native.Mathlib.Omega.{arith}
use lib.ListN.{length}
use Rattle.ring.specs.Words.{Words}
use Rattle.ring.specs.Transform.{ntt, intt}
use Rattle.ring.specs.UniformSteps.{poly_of}
use Rattle.ring.proofs.Draws.{sample_q-words}
use Rattle.ring.proofs.Theorems.{ntt-words, intt-ntt}
use Rattle.ring.proofs.Filled.{none-some, some-filled, none_filled, not-filled, filled-some, held-is}
use Rattle.sharing.specs.Blocks.{block, build}
use Rattle.sharing.specs.Region.{span}
use Rattle.sharing.proofs.Lists.{words-build, block-build, build-ext, build-nest, blocks-all, length-build}
use Rattle.sharing.proofs.Regions.{block-span}
use Rattle.sharing.proofs.Built.{block-is, block-block, build-none, build-next}
use Rattle.signature.specs.Matrix.{joined_to, build_all, matrix_at, matrix_of, matrix_header, filled}
use Rattle.signature.specs.MatrixSteps.{row_entry, row_made}
use Rattle.signature.specs.MaskedSteps.{untransformed}

-- ---- two of them

joined-none : (a : Option (List ℕ)) → joined_to a none ≡ none
joined-none none = refl
joined-none (some a) = refl

joined-yes : (a b : Option (List ℕ)) → filled a ≡ true → filled b ≡ true → filled (joined_to a b) ≡ true
joined-yes a b e g =
    some-filled (joined_to a b) ((poly_of a) ++ (poly_of b))
    (ap (λ (o : Option (List ℕ)). joined_to o b) (filled-some a e) ∙ ap (joined_to (some (poly_of a))) (filled-some b g))

joined-left : (a b : Option (List ℕ)) → filled a ≡ false → filled (joined_to a b) ≡ false
joined-left a b e = none_filled (joined_to a b) (ap (λ (o : Option (List ℕ)). joined_to o b) (not-filled a e))

joined-right : (a b : Option (List ℕ)) → filled b ≡ false → filled (joined_to a b) ≡ false
joined-right a b e = none_filled (joined_to a b) (ap (joined_to a) (not-filled b e) ∙ joined-none a)

-- ---- n of them: none yet, one more, and one that is not there

pub all_none : (f : ℕ → Option (List ℕ)) → filled (build_all 0 f) ≡ true
unfolding build_all
all_none f = some-filled (build_all 0 f) [] refl

pub all_more : (n : ℕ) (f : ℕ → Option (List ℕ)) → filled (build_all n f) ≡ true → filled (f n) ≡ true → filled (build_all (n + 1) f) ≡ true
unfolding build_all
all_more n f e g = ap (λ (m : ℕ). filled (build_all m f)) (add-one n) ∙ joined-yes (build_all n f) (f n) e g

pub all-not : (n i : ℕ) (f : ℕ → Option (List ℕ)) → i < n → filled (f i) ≡ false → filled (build_all n f) ≡ false
unfolding build_all
all-not zero i f h e = absurd (not-suc-le-zero h)
all-not (suc n) i f h e = go (dec_lt i n) (λ (k : i < n). all-not n i f k e)
  where
    go : Dec (i < n) → (i < n → filled (build_all n f) ≡ false) → filled (joined_to (build_all n f) (f n)) ≡ false
    go (yes k) r = joined-left (build_all n f) (f n) (r k)
    go (no k) r =
        let s : i ≡ n = omega arith in
        joined-right (build_all n f) (f n) (ap (λ (j : ℕ). filled (f j)) (sym s) ∙ e)

-- ---- what they are

record Joined (a b : Option (List ℕ)) (c : List ℕ) : Type 0 where
  pub left : a ≡ some (poly_of a)
  pub right : b ≡ some (poly_of b)
  pub both : c ≡ (poly_of a) ++ (poly_of b)

joined-some : (a b : Option (List ℕ)) (c : List ℕ) → joined_to a b ≡ some c → Joined a b c
joined-some none b c e = absurd (none-some c e)
joined-some (some a) none c e = absurd (none-some c e)
joined-some (some a) (some b) c e =
    let x : (poly_of (some a)) ≡ a = held-is (some a) a refl in
    let y : (poly_of (some b)) ≡ b = held-is (some b) b refl in
    let z : a ++ b ≡ c = cc in
    record { left = ap some (sym x); right = ap some (sym y); both = cc (x, y, z) }

-- if all are there, the whole is built of them
pub record All (n : ℕ) (f : ℕ → Option (List ℕ)) (A : List ℕ) : Type 0 where
  pub here : (i : ℕ) → i < n → f i ≡ some (poly_of (f i))
  pub whole : A ≡ build n (λ (i : ℕ). (poly_of (f i)))

pub all-some : (n : ℕ) (f : ℕ → Option (List ℕ)) (A : List ℕ) → build_all n f ≡ some A → All n f A
unfolding build_all
all-some zero f A e =
    let z : [] ≡ A = cc in
    record { here = λ (i : ℕ) (h : i < 0). absurd (not-suc-le-zero h); whole = sym (build-none (λ (i : ℕ). (poly_of (f i))) ∙ z) }
all-some (suc n) f A e =
    let j = joined-some (build_all n f) (f n) A e in
    let r = all-some n f (poly_of (build_all n f)) j.left in
    record {
      here = λ (i : ℕ) (h : i < suc n). go i h (dec_lt i n) (r.here i) j.right;
      whole = j.both ∙ ap (λ (x : List ℕ). x ++ (poly_of (f n))) r.whole ∙ sym (build-next n (λ (i : ℕ). (poly_of (f i))));
    }
  where
    go : (i : ℕ) → i < suc n → Dec (i < n) → (i < n → f i ≡ some (poly_of (f i))) → f n ≡ some (poly_of (f n)) → f i ≡ some (poly_of (f i))
    go i h (yes k) r e = r k
    go i h (no k) r e =
        let s : i ≡ n = omega arith in
        rw s e

-- ---- the matrix

pub made-long : (l : ℕ) (seed : List ℕ) (i : ℕ) → length (row_made l seed i) ≡ l * 512
unfolding row_made
made-long l seed i = length-build 512 l (λ (m : ℕ). ntt (row_entry seed i m)) (λ (m : ℕ) (o : m < l). (ntt-words (row_entry seed i m)).long)

module _ (k l : ℕ) (seed A : List ℕ) (e : matrix_of k l seed ≡ some A) where
  rows : All k (λ (i : ℕ). build_all l (matrix_at seed i)) A
  unfolding matrix_of
  rows = all-some k (λ (i : ℕ). build_all l (matrix_at seed i)) A e

  row : (i : ℕ) → i < k → All l (matrix_at seed i) (poly_of (build_all l (matrix_at seed i)))
  row i h = all-some l (matrix_at seed i) (poly_of (build_all l (matrix_at seed i))) (rows.here i h)

  entry-words : (i m : ℕ) → i < k → m < l → Words 512 (row_entry seed i m)
  unfolding matrix_at
  entry-words i m hi hm = sample_q-words (matrix_header i m) seed (row_entry seed i m) ((row i hi).here m hm)

  row_words : (i : ℕ) → i < k → Words (l * 512) (poly_of (build_all l (matrix_at seed i)))
  row_words i h = rw (row i h).whole (words-build l (row_entry seed i) (λ (m : ℕ) (g : m < l). entry-words i m h g))

  pub matrix-words : Words (k * l * 512) A
  matrix-words =
      let w : Words (k * (l * 512)) (build k (λ (i : ℕ). (poly_of (build_all l (matrix_at seed i))))) =
      words-build k (λ (i : ℕ). (poly_of (build_all l (matrix_at seed i)))) row_words in
      let n : k * (l * 512) ≡ k * l * 512 = omega arith in
      rw rows.whole (record { long = w.long ∙ n; low = w.low })

  pub entry-is : (i m : ℕ) → i < k → m < l → row_entry seed i m ≡ block 512 (i * l + m) A
  entry-is i m hi hm =
      let R : ℕ → List ℕ = λ (i : ℕ). (poly_of (build_all l (matrix_at seed i))) in
      let a : block (l * 512) i A ≡ R i =
      ap (block (l * 512) i) rows.whole ∙ block-build (l * 512) k i R (λ (j : ℕ) (h : j < k). (row_words j h).long) hi in
      let b : block 512 m (R i) ≡ row_entry seed i m =
      ap (block 512 m) (row i hi).whole ∙ block-build 512 l m (row_entry seed i) (λ (j : ℕ) (h : j < l). (entry-words i j hi h).long) hm in
      sym b ∙ ap (block 512 m) (sym a) ∙ block-block 512 l i m A hm

  pub matrix-entry-words : (i m : ℕ) → i < k → m < l → Words 512 (block 512 (i * l + m) A)
  matrix-entry-words i m hi hm = rw (← entry-is i m hi hm) (entry-words i m hi hm)

  -- the rows as they are made
  pub made-entry : (i m : ℕ) → i < k → m < l → block 512 m (row_made l seed i) ≡ ntt (block 512 (i * l + m) A)
  unfolding row_made
  made-entry i m hi hm =
      block-build 512 l m (λ (j : ℕ). ntt (row_entry seed i j)) (λ (j : ℕ) (o : j < l). (ntt-words (row_entry seed i j)).long) hm ∙ ap ntt (entry-is i m hi hm)

  -- M holds all of them: turned back it is the matrix
  pub made_all : (M : List ℕ) → span M 0 (k * (l * 512)) ≡ build k (row_made l seed) → untransformed (k * l) M ≡ A
  unfolding untransformed
  made_all M e =
      let F : ℕ → List ℕ = λ (j : ℕ). intt (block 512 j M) in
      let G : ℕ → List ℕ = λ (j : ℕ). block 512 j A in
      let at : (i m : ℕ) → i < k → m < l → F (i * l + m) ≡ G (i * l + m) =
      λ (i m : ℕ) (hi : i < k) (hm : m < l).
      let z : i * (l * 512) ≡ 0 + i * (l * 512) = omega arith in
      let r : block (l * 512) i M ≡ row_made l seed i =
      block-is (l * 512) i M ∙ ap (λ (n : ℕ). span M n (l * 512)) z ∙ sym (block-span (l * 512) k i M 0 hi) ∙ ap (block (l * 512) i) e
      ∙ block-build (l * 512) k i (row_made l seed) (λ (j : ℕ) (o : j < k). made-long l seed j) hi in
      ap intt (sym (block-block 512 l i m M hm) ∙ ap (block 512 m) r ∙ made-entry i m hi hm) ∙ intt-ntt (G (i * l + m)) (matrix-entry-words i m hi hm) in
      build-nest k l F
      ∙ build-ext k (λ (i : ℕ). build l (λ (m : ℕ). F (i * l + m))) (λ (i : ℕ). build l (λ (m : ℕ). G (i * l + m)))
      (λ (i : ℕ) (hi : i < k). build-ext l (λ (m : ℕ). F (i * l + m)) (λ (m : ℕ). G (i * l + m)) (λ (m : ℕ) (hm : m < l). at i m hi hm))
      ∙ sym (build-nest k l G) ∙ blocks-all 512 (k * l) A matrix-words.long
