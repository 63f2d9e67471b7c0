-- The rows of the masked product with their noise, summed (000, Algorithm 1 lines 5 to 7, Algorithm 2 lines 6 to 8), row after row; all
-- rows together are the definition's.
use mathlib.Core.Path.{◌≡◌, sym, ap, ◌∙◌}
use mathlib.Core.List.{List}
use Prim.Native.Nat.{ℕ, suc, ◌+◌, ◌*◌, ◌^◌, ◌≤◌, ◌<◌}
use native.Mathlib.Omega.{arith}
use lib.ListN.{length}
use Rattle.hash.specs.Params.{order_index}
use Rattle.ring.specs.Words.{q, Below, Words}
use Rattle.sharing.specs.Blocks.{block, build, total, totals}
use Rattle.sharing.specs.Region.{span, Wrote}
use Rattle.sharing.specs.Encoding.{skip, add_rep, add_noise}
use Rattle.sharing.specs.Masks.{masks}
use Rattle.sharing.specs.declared.masks.MaskGen.{MaskGen}
use Rattle.sharing.proofs.Carry.{mask_low}
use Rattle.sharing.proofs.Decode.{totals-build}
use Rattle.sharing.proofs.Lists.{block_words, block-build, words-build, build-ext}
use Rattle.sharing.proofs.Regions.{wrote_value, wrote-wide, wrote-scratch, wrote-turn, wrote-end}
use Rattle.sharing.proofs.Totals.{rep-words}
use Rattle.sharing.proofs.Turns.{noised, noise-built}
use Rattle.signature.specs.Masked.{masked_row, masked_product}
use Rattle.signature.specs.MaskedSteps.{transformed, untransformed, row_share, noised_row, rows_of, Summed, SummedAll}
use Rattle.signature.proofs.Product.{row-shares, entry-words, entry-held}
use Rattle.signature.proofs.Rows.{row_words}

-- one row: made in the region `row`, noise added there, summed
pub image-made : (d l r row at to : ℕ) (g : MaskGen) (f : ℕ → List ℕ) (T s₀ s₁ s₂ s₃ : List ℕ) → d * 512 ≤ row → row + d * 512 ≤ to
    → Wrote 0 row (d * 512) (build d (row_share d l T (span s₀ at (l * (d * 512))))) s₀ s₁
    → Wrote (d * 512) row (d * 512) (add_rep masks d g r f (span s₁ row (d * 512))) s₁ s₂
    → Wrote 0 to 512 (total d (span s₂ row (d * 512))) s₂ s₃
    → Summed d row to (noised_row d l g r f T (span s₀ at (l * (d * 512)))) s₀ s₃
image-made d l r row at to g f T s₀ s₁ s₂ s₃ h k u v w =
    let e : span s₂ row (d * 512) ≡ noised_row d l g r f T (span s₀ at (l * (d * 512))) = v.new ∙ ap (add_rep masks d g r f) u.new in
    record {
      shares = w.front row (d * 512) (omega arith) k ∙ e;
      sum =
          wrote-scratch (omega arith) (omega arith) u
          (wrote-scratch (omega arith) (omega arith) v (wrote-wide (omega arith) (wrote_value (ap (total d) e) w)));
    }

-- row i of the loop, its shares and their sum; g is the generator where the loop begins
abbrev pub noised_rows : ℕ → ℕ → ℕ → (ℕ → ℕ → List ℕ) → MaskGen → List ℕ → List ℕ → ℕ → List ℕ
noised_rows d l r f g M X i = noised_row d l (skip masks d (i * r) g) r (f i) (block (l * 512) i M) X

abbrev pub imaged : ℕ → ℕ → ℕ → (ℕ → ℕ → List ℕ) → MaskGen → List ℕ → List ℕ → ℕ → List ℕ
imaged d l r f g M X i = total d (noised_rows d l r f g M X i)

-- the region `row` of s behind i rows
abbrev pub RowsDone : ℕ → ℕ → ℕ → (ℕ → ℕ → List ℕ) → MaskGen → List ℕ → List ℕ → ℕ → List ℕ → ℕ → Type 0
RowsDone d l r f g M X row s i = (j : ℕ) → i ≡ suc j → span s row (d * 512) ≡ noised_rows d l r f g M X j

pub rows_none : (d l r : ℕ) (f : ℕ → ℕ → List ℕ) (g : MaskGen) (M X : List ℕ) (row : ℕ) (s : List ℕ) → RowsDone d l r f g M X row s 0
rows_none d l r f g M X row s j e = absurd (omega (arith, e))

module _ (d l r row at to : ℕ) (f : ℕ → ℕ → List ℕ) (g : MaskGen) (M s₀ : List ℕ) (h : row + d * 512 ≤ at) (k : at + l * (d * 512) ≤ to) where
  module _ (i : ℕ) (x : MaskGen) (s t : List ℕ) (e : x ≡ skip masks d (i * r) g)
      (u : Wrote (row + d * 512) to (i * 512) (build i (imaged d l r f g M (span s₀ at (l * (d * 512))))) s₀ s)
      (v : Summed d row (to + i * 512) (noised_row d l x r (f i) (block (l * 512) i M) (span s at (l * (d * 512)))) s t) where
    row_here : noised_row d l x r (f i) (block (l * 512) i M) (span s at (l * (d * 512))) ≡ noised_rows d l r f g M (span s₀ at (l * (d * 512))) i
    row_here =
        ap (λ (y : MaskGen). noised_row d l y r (f i) (block (l * 512) i M) (span s at (l * (d * 512)))) e
        ∙ ap (noised_row d l (skip masks d (i * r) g) r (f i) (block (l * 512) i M)) (u.front at (l * (d * 512)) h k)

    pub image-turn : Wrote (row + d * 512) to ((i + 1) * 512) (build (i + 1) (imaged d l r f g M (span s₀ at (l * (d * 512))))) s₀ t
    image-turn =
        wrote-turn 512 i (imaged d l r f g M (span s₀ at (l * (d * 512)))) (omega arith) u (wrote_value (ap (total d) row_here) v.sum)

    pub rows-turn : RowsDone d l r f g M (span s₀ at (l * (d * 512))) row t (i + 1)
    rows-turn j o =
        let n : i ≡ j = omega (arith, o) in
        v.shares ∙ row_here ∙ ap (noised_rows d l r f g M (span s₀ at (l * (d * 512)))) n

-- all rows
module _ (d k l r : ℕ) (f : ℕ → ℕ → List ℕ) (g : MaskGen) (M X : List ℕ) (power : d ≡ 2 ^ order_index d) where
  -- row i by the transform
  abbrev row_at : ℕ → List ℕ
  row_at i = build d (row_share d l (block (l * 512) i M) X)

  noised-row : (i : ℕ) → i < k → noised masks d g r f (rows_of d k l M X) i ≡ noised_rows d l r f g M X i
  noised-row i h =
      ap (add_rep masks d (skip masks d (i * r) g) r (f i))
      (block-build (d * 512) k i row_at (λ (j : ℕ) (m : j < k). (row_words d l (block (l * 512) j M) X).long) h)

  rows_long : (i : ℕ) → i < k → length (noised masks d g r f (rows_of d k l M X) i) ≡ d * 512
  rows_long i h =
      let w : Words (k * (d * 512)) (rows_of d k l M X) =
      words-build k row_at (λ (i : ℕ) (h : i < k). row_words d l (block (l * 512) i M) X) in
      (rep-words masks mask_low d power (skip masks d (i * r) g) r (f i) (block (d * 512) i (rows_of d k l M X)) (block_words k i (rows_of d k l M X) w h)).long

  images-all : build k (imaged d l r f g M X) ≡ totals k d (add_noise masks d g k r f (rows_of d k l M X))
  images-all =
      let F : ℕ → List ℕ = noised masks d g r f (rows_of d k l M X) in
      sym
      (ap (totals k d) (noise-built masks d g k r f (rows_of d k l M X)) ∙ totals-build k d F rows_long
      ∙ build-ext k (λ (i : ℕ). total d (F i)) (imaged d l r f g M X) (λ (i : ℕ) (h : i < k). ap (total d) (noised-row i h)))

  row_last : (i : ℕ) → i < k → noised_rows d l r f g M X i ≡ block (d * 512) i (add_noise masks d g k r f (rows_of d k l M X))
  row_last i h =
      sym
      (ap (block (d * 512) i) (noise-built masks d g k r f (rows_of d k l M X))
      ∙ block-build (d * 512) k i (noised masks d g r f (rows_of d k l M X)) rows_long h ∙ noised-row i h)

  pub image-end : (row to i : ℕ) (s₀ s : List ℕ) → i ≡ k → Wrote (row + d * 512) to (i * 512) (build i (imaged d l r f g M X)) s₀ s
      → RowsDone d l r f g M X row s i → SummedAll d k row to (add_noise masks d g k r f (rows_of d k l M X)) s₀ s
  image-end row to i s₀ s o u v =
      record {
        shares = λ (j : ℕ) (n : k ≡ suc j). v j (o ∙ n) ∙ row_last j (omega (arith, n));
        sums = wrote_value images-all (wrote-end 512 (imaged d l r f g M X) o u);
      }

-- ---- the rows by the transform are the masked product

pub image-product : (d k l : ℕ) (M xs : List ℕ) → k * (l * 512) ≤ length M → Below q M → Words (l * (d * 512)) xs
    → rows_of d k l M (transformed (l * d) xs) ≡ masked_product d k l (untransformed (k * l) M) xs
unfolding masked_product masked_row
image-product d k l M xs h b w =
    let A : List ℕ = untransformed (k * l) M in
    build-ext k (λ (i : ℕ). build d (row_share d l (block (l * 512) i M) (transformed (l * d) xs))) (masked_row d l A xs)
    (λ (i : ℕ) (o : i < k).
    row-shares d l (block (l * 512) i M) (λ (m : ℕ). block 512 (i * l + m) A) xs (λ (m : ℕ) (n : m < l). entry-held k l M h b i m o n)
    (λ (m : ℕ) (n : m < l). entry-words k l M h b i m o n) w)
