-- The masked product by the transform: values of the shares times values of the matrix, summed and turned back, are the products of 2.3.
use mathlib.Core.Path.{◌≡◌, sym, ap, ◌∙◌}
use mathlib.Core.List.{List}
use Prim.Native.Nat.{ℕ, ◌+◌, ◌*◌, ◌≤◌, ◌<◌}
use native.Mathlib.Omega.{arith}
use lib.ListN.{length}
use Rattle.ring.specs.Words.{q, Below, Words}
use Rattle.ring.specs.Transform.{ntt, intt, pointwise, mul}
use Rattle.ring.proofs.Theorems.{ntt-words, intt-words, pointwise-words, mul_words, ntt-intt, product, intt-linear}
use Rattle.sharing.specs.Blocks.{block, build, sum_of, each}
use Rattle.sharing.proofs.Lists.{inside, block_words, block-build, build-ext, build-nest}
use Rattle.sharing.proofs.Built.{block-is, block-block, each-is}
use Rattle.sharing.proofs.Regions.{span-words}
use Rattle.sharing.proofs.Decode.{sum-ext, sum_rows, linear-sum}
use Rattle.signature.specs.MaskedSteps.{transformed, untransformed, row_sum, row_share}

-- polynomial j of sharing m of the transformed vector
transformed-at : (l d m j : ℕ) (xs : List ℕ) → m < l → j < d
    → block 512 j (block (d * 512) m (transformed (l * d) xs)) ≡ ntt (block 512 j (block (d * 512) m xs))
unfolding transformed
transformed-at l d m j xs hm hj =
    let k : m * d + d ≤ l * d = inside m l d hm in
    let h : m * d + j < l * d = omega arith in
    block-block 512 d m j (transformed (l * d) xs) hj
    ∙ block-build 512 (l * d) (m * d + j) (λ (i : ℕ). ntt (block 512 i xs)) (λ (i : ℕ) (t : i < l * d). (ntt-words (block 512 i xs)).long) h
    ∙ ap ntt (sym (block-block 512 d m j xs hj))

-- the vector of sharings transformed share by share
pub transformed-each : (l d : ℕ) (xs : List ℕ) → transformed (l * d) xs ≡ build l (λ (i : ℕ). each d ntt (block (d * 512) i xs))
unfolding transformed
transformed-each l d xs =
    build-nest l d (λ (i : ℕ). ntt (block 512 i xs))
    ∙ build-ext l (λ (i : ℕ). build d (λ (j : ℕ). ntt (block 512 (i * d + j) xs))) (λ (i : ℕ). each d ntt (block (d * 512) i xs))
    (λ (i : ℕ) (hi : i < l).
    build-ext d (λ (j : ℕ). ntt (block 512 (i * d + j) xs)) (λ (j : ℕ). ntt (block 512 j (block (d * 512) i xs)))
    (λ (j : ℕ) (hj : j < d). ap ntt (sym (block-block 512 d i j xs hj)))
    ∙ sym (each-is d ntt (block (d * 512) i xs)))

-- a row T of the matrix whose entries are a 0, .. a (l - 1)
module _ (d l : ℕ) (T : List ℕ) (a : ℕ → List ℕ) (xs : List ℕ) (e : (m : ℕ) → m < l → block 512 m T ≡ ntt (a m))
    (wa : (m : ℕ) → m < l → Words 512 (a m)) (wx : Words (l * (d * 512)) xs) where
  share-words : (m j : ℕ) → m < l → j < d → Words 512 (block 512 j (block (d * 512) m xs))
  share-words m j hm hj = block_words d j (block (d * 512) m xs) (block_words l m xs wx hm) hj

  pub row-share : (j : ℕ) → j < d
      → row_share d l T (transformed (l * d) xs) j ≡ sum_of 512 l (λ (m : ℕ). mul (a m) (block 512 j (block (d * 512) m xs)))
  unfolding row_share row_sum
  row-share j hj =
      ap intt
      (sum-ext 512 l (λ (m : ℕ). pointwise (block 512 m T) (block 512 j (block (d * 512) m (transformed (l * d) xs))))
      (λ (m : ℕ). pointwise (ntt (a m)) (ntt (block 512 j (block (d * 512) m xs))))
      (λ (m : ℕ) (hm : m < l).
      ap (pointwise (block 512 m T)) (transformed-at l d m j xs hm hj) ∙ ap (λ (x : List ℕ). pointwise x (ntt (block 512 j (block (d * 512) m xs)))) (e m hm)))
      ∙ linear-sum intt-linear l (λ (m : ℕ). pointwise (ntt (a m)) (ntt (block 512 j (block (d * 512) m xs))))
      (λ (m : ℕ) (hm : m < l). pointwise-words (ntt (a m)) (ntt (block 512 j (block (d * 512) m xs))) (ntt-words (a m)).long (ntt-words (block 512 j (block (d * 512) m xs))).long)
      ∙ sum-ext 512 l (λ (m : ℕ). intt (pointwise (ntt (a m)) (ntt (block 512 j (block (d * 512) m xs)))))
      (λ (m : ℕ). mul (a m) (block 512 j (block (d * 512) m xs)))
      (λ (m : ℕ) (hm : m < l). product (a m) (block 512 j (block (d * 512) m xs)) (wa m hm) (share-words m j hm hj))

  -- all shares of the row
  pub row-shares : build d (row_share d l T (transformed (l * d) xs)) ≡ sum_of (d * 512) l (λ (m : ℕ). each d (mul (a m)) (block (d * 512) m xs))
  row-shares =
      build-ext d (row_share d l T (transformed (l * d) xs)) (λ (j : ℕ). sum_of 512 l (λ (m : ℕ). mul (a m) (block 512 j (block (d * 512) m xs)))) row-share
      ∙ sym
      (sum_rows 512 d l (λ (m : ℕ) (j : ℕ). mul (a m) (block 512 j (block (d * 512) m xs)))
      (λ (m : ℕ) (j : ℕ) (hm : m < l) (hj : j < d). (mul_words (a m) (block 512 j (block (d * 512) m xs)) (share-words m j hm hj).long).long))
      ∙ sum-ext (d * 512) l (λ (m : ℕ). build d (λ (j : ℕ). mul (a m) (block 512 j (block (d * 512) m xs)))) (λ (m : ℕ). each d (mul (a m)) (block (d * 512) m xs))
      (λ (m : ℕ) (hm : m < l). sym (each-is d (mul (a m)) (block (d * 512) m xs)))

-- ---- the matrix that is held in the transform domain as M: the entries of its row i are the blocks of the row held

module _ (k l : ℕ) (M : List ℕ) (h : k * (l * 512) ≤ length M) (b : Below q M) where
  held-words : (i : ℕ) → i < k * l → Words 512 (block 512 i M)
  held-words i o =
      let n : i * 512 + 512 ≤ k * l * 512 = inside i (k * l) 512 o in
      let g : k * l * 512 ≡ k * (l * 512) = omega arith in
      rw (block-is 512 i M) (span-words M (i * 512) 512 (omega (arith, n, g, h)) b)

  pub entry-words : (i m : ℕ) → i < k → m < l → Words 512 (block 512 (i * l + m) (untransformed (k * l) M))
  unfolding untransformed
  entry-words i m hi hm =
      let n : i * l + l ≤ k * l = inside i k l hi in
      let o : i * l + m < k * l = omega arith in
      let w = intt-words (block 512 (i * l + m) M) (held-words (i * l + m) o) in
      rw (block-build 512 (k * l) (i * l + m) (λ (j : ℕ). intt (block 512 j M)) (λ (j : ℕ) (g : j < k * l). (intt-words (block 512 j M) (held-words j g)).long) o) w

  pub entry-held : (i m : ℕ) → i < k → m < l → block 512 m (block (l * 512) i M) ≡ ntt (block 512 (i * l + m) (untransformed (k * l) M))
  unfolding untransformed
  entry-held i m hi hm =
      let n : i * l + l ≤ k * l = inside i k l hi in
      let o : i * l + m < k * l = omega arith in
      block-block 512 l i m M hm ∙ sym (ntt-intt (block 512 (i * l + m) M) (held-words (i * l + m) o))
      ∙ ap ntt (sym (block-build 512 (k * l) (i * l + m) (λ (j : ℕ). intt (block 512 j M)) (λ (j : ℕ) (g : j < k * l). (intt-words (block 512 j M) (held-words j g)).long) o))
