-- A row of the matrix applied to a vector, both in the transform domain, and the shares of a row of the masked product.
use mathlib.Core.Path.{◌≡◌, sym, ap, subst, ◌∙◌}
use mathlib.Core.List.{List}
use Prim.Native.Nat.{ℕ, ◌+◌, ◌*◌, ◌^◌, ◌≤◌, ◌<◌}
use native.Mathlib.Numerals.{add-one}
use native.Mathlib.Omega.{arith}
use lib.Dec.{lit<}
use lib.ListN.{length}
use Rattle.hash.specs.Lists.{zeros}
use Rattle.ring.specs.Words.{add_w, Residues, Words}
use Rattle.ring.specs.Transform.{intt, pointwise}
use Rattle.ring.specs.Rns.{words_of, recombined, Accrued}
use Rattle.ring.proofs.Recombined.{recombined-zeros}
use Rattle.ring.proofs.Sums.{words-zeros, below-zeros, residues-wider}
use Rattle.ring.proofs.Theorems.{intt-words}
use Rattle.sharing.specs.Blocks.{block, build, sum_of}
use Rattle.sharing.specs.Region.{span, Wrote}
use Rattle.sharing.proofs.Lists.{inside, block-build, words-build}
use Rattle.sharing.proofs.Built.{block-is, sum-next}
use Rattle.sharing.proofs.Decode.{words-sum, sum-ext}
use Rattle.sharing.proofs.Loops.{sum-start}
use Rattle.sharing.proofs.Regions.{length-span, block-span, wrote_value, wrote-turn}
use Rattle.signature.specs.MaskedSteps.{applied, shared_poly, row_share, row_sum}

-- ---- a row applied to a vector, column by column

pub applied-words : (l : ℕ) (T Z : List ℕ) → Words 512 (applied l T Z)
unfolding applied
applied-words l T Z = words-sum 512 l (λ (m : ℕ). pointwise (block 512 m T) (block 512 m Z))

applied-more : (m : ℕ) (T Z : List ℕ) → applied (m + 1) T Z ≡ add_w (applied m T Z) (pointwise (block 512 m T) (block 512 m Z))
unfolding applied
applied-more m T Z =
    let f : ℕ → List ℕ = λ (i : ℕ). pointwise (block 512 i T) (block 512 i Z) in
    ap (λ (n : ℕ). sum_of 512 n f) (add-one m) ∙ sum-next 512 m f

-- the sums of m columns, modulo each prime
pub record Applying (T Z : List ℕ) (m : ℕ) (hi lo : List ℕ) : Type 0 where
  pub is : recombined hi lo ≡ applied m T Z
  pub high : Residues (m * 2 ^ 60 + 1) 512 hi
  pub low : Residues (m * 2 ^ 60 + 1) 512 lo

pub apply-start : (T Z hi lo : List ℕ) → hi ≡ zeros 512 → lo ≡ zeros 512 → Applying T Z 0 hi lo
unfolding applied
apply-start T Z hi lo e g =
    let z : Residues (0 * 2 ^ 60 + 1) 512 (zeros 512) = record { long = (words-zeros 512).long; low = below-zeros (0 * 2 ^ 60 + 1) (lit< tt) 512 } in
    record {
      is = cc (e, g, recombined-zeros 512, sum-start 512 (λ (m : ℕ). pointwise (block 512 m T) (block 512 m Z)));
      high = subst (Residues (0 * 2 ^ 60 + 1) 512) (sym e) z;
      low = subst (Residues (0 * 2 ^ 60 + 1) 512) (sym g) z;
    }

-- one more: a and x are its entry and polynomial, in residues
pub apply-turn : (T Z : List ℕ) (m : ℕ) (a x hi lo hi' lo' : List ℕ) → Applying T Z m hi lo → words_of a ≡ block 512 m T → words_of x ≡ block 512 m Z
    → Accrued add_w (2 ^ 60) a x hi lo hi' lo' → Applying T Z (m + 1) hi' lo'
apply-turn T Z m a x hi lo hi' lo' v ea ex u =
    let n : m * 2 ^ 60 + 1 + 2 ^ 60 ≡ (m + 1) * 2 ^ 60 + 1 = omega arith in
    let r = u.low (m * 2 ^ 60 + 1) v.high v.low in
    record {
      is = u.same ∙ cc (v.is, ea, ex, applied-more m T Z);
      high = subst (λ (k : ℕ). Residues k 512 hi') n r.0;
      low = subst (λ (k : ℕ). Residues k 512 lo') n r.1;
    }

-- all l of them, 7 at most
pub apply-end : (T Z : List ℕ) (l m : ℕ) (hi lo : List ℕ) → m ≡ l → l ≤ 7 → Applying T Z m hi lo
    → (recombined hi lo ≡ applied l T Z) × Residues (8 * 2 ^ 60) 512 hi × Residues (8 * 2 ^ 60) 512 lo
apply-end T Z l m hi lo e h v =
    let k : m * 2 ^ 60 + 1 ≤ 8 * 2 ^ 60 = omega (arith, e, h) in
    (v.is ∙ ap (λ (n : ℕ). applied n T Z) e, residues-wider (8 * 2 ^ 60) k hi v.high, residues-wider (8 * 2 ^ 60) k lo v.low)

-- ---- the shares of a row

-- Z is share j of the vector X
pub row-share-is : (d l : ℕ) (T X Z : List ℕ) (j : ℕ) → ((m : ℕ) → m < l → block 512 m Z ≡ shared_poly d X j m) → intt (applied l T Z) ≡ row_share d l T X j
unfolding applied row_share row_sum
row-share-is d l T X Z j e =
    ap intt
    (sum-ext 512 l (λ (m : ℕ). pointwise (block 512 m T) (block 512 m Z)) (λ (m : ℕ). pointwise (block 512 m T) (shared_poly d X j m))
    (λ (m : ℕ) (h : m < l). ap (pointwise (block 512 m T)) (e m h)))

-- one more, r, of the vector at `at`, behind the shares at `to`
pub row-turn : (d l to at j : ℕ) (T s₀ s t r : List ℕ) → to + d * 512 ≤ at → j < d
    → Wrote 0 to (j * 512) (build j (row_share d l T (span s₀ at (l * (d * 512))))) s₀ s → r ≡ row_share d l T (span s at (l * (d * 512))) j
    → Wrote 0 (to + j * 512) 512 r s t → Wrote 0 to ((j + 1) * 512) (build (j + 1) (row_share d l T (span s₀ at (l * (d * 512))))) s₀ t
row-turn d l to at j T s₀ s t r h g u e v =
    let x : span s at (l * (d * 512)) ≡ span s₀ at (l * (d * 512)) = u.behind at (l * (d * 512)) (omega arith) (omega (arith, inside j d 512 g)) in
    wrote-turn 512 j (row_share d l T (span s₀ at (l * (d * 512)))) (omega arith) u (wrote_value (e ∙ ap (λ (X : List ℕ). row_share d l T X j) x) v)

sum-words : (d : ℕ) (T X : List ℕ) (m j : ℕ) → Words 512 (row_sum d T X m j)
unfolding row_sum
sum-words d T X m j = words-sum 512 m (λ (i : ℕ). pointwise (block 512 i T) (block 512 j (block (d * 512) i X)))

-- they are words
pub row-share-words : (d l : ℕ) (T X : List ℕ) (j : ℕ) → Words 512 (row_share d l T X j)
unfolding row_share
row-share-words d l T X j = intt-words (row_sum d T X l j) (sum-words d T X l j)

pub row_words : (d l : ℕ) (T X : List ℕ) → Words (d * 512) (build d (row_share d l T X))
row_words d l T X = words-build d (row_share d l T X) (λ (j : ℕ) (h : j < d). row-share-words d l T X j)

-- ---- share j of polynomial m of the vector of l sharings at `at`

pub shared-in : (at l d j m n : ℕ) → m < l → j < d → at + l * (d * 512) ≤ n → at + (m * d + j) * 512 + 512 ≤ n
shared-in at l d j m n h g k = omega (arith, inside m l (d * 512) h, inside j d 512 g)

pub shared-span : (at l d j m : ℕ) (s : List ℕ) → m < l → j < d → span s (at + (m * d + j) * 512) 512 ≡ shared_poly d (span s at (l * (d * 512))) j m
shared-span at l d j m s h g =
    let e : at + m * (d * 512) + j * 512 ≡ at + (m * d + j) * 512 = omega arith in
    sym
    (ap (block 512 j) (block-span (d * 512) l m s at h) ∙ block-span 512 d j s (at + m * (d * 512)) g ∙ ap (λ (b : ℕ). span s b 512) e)

-- where a buffer begins with n polynomials f 0, f 1, ..
pub shared-block : (n m : ℕ) (f : ℕ → List ℕ) (xs ys : List ℕ) → m < n → ((i : ℕ) → i < n → length (f i) ≡ 512) → Wrote 0 0 (n * 512) (build n f) xs ys
    → block 512 m ys ≡ f m
shared-block n m f xs ys h e w =
    let z : m * 512 ≡ 0 + m * 512 = omega arith in
    block-is 512 m ys ∙ ap (λ (b : ℕ). span ys b 512) z ∙ sym (block-span 512 n m ys 0 h) ∙ ap (block 512 m) w.new ∙ block-build 512 n m f e h

pub shared_long : (at l d j : ℕ) (s : List ℕ) → j < d → at + l * (d * 512) ≤ length s → (m : ℕ) → m < l → length (shared_poly d (span s at (l * (d * 512))) j m) ≡ 512
shared_long at l d j s g k m h =
    ap length (sym (shared-span at l d j m s h g)) ∙ length-span s (at + (m * d + j) * 512) 512 (shared-in at l d j m (length s) h g k)
