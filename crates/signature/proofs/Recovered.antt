-- Rows of y = A z - 2^42 c t: as the code makes them, and as the definition has them.
use mathlib.Core.Path.{◌≡◌, sym, ap, ◌∙◌}
use mathlib.Core.List.{List}
use Prim.Native.Nat.{ℕ, ◌+◌, ◌*◌, ◌<◌}
use native.Mathlib.Omega.{arith}
use lib.ListN.{length}
use Rattle.ring.specs.Words.{Words, sub_w}
use Rattle.ring.specs.Transform.{ntt, intt, pointwise, mul}
use Rattle.ring.specs.Round.{scaled_t}
use Rattle.ring.proofs.Theorems.{ntt-words, pointwise-words, product, intt-sub}
use Rattle.sharing.specs.Blocks.{block, sum_of}
use Rattle.sharing.proofs.Built.{block-block}
use Rattle.sharing.proofs.Decode.{sum-ext}
use Rattle.signature.specs.MaskedSteps.{applied, shared_poly, row_share, transformed}
use Rattle.signature.specs.Recover.{product_row, recovered_row}
use Rattle.signature.specs.RecoverSteps.{scaled_by, recovered_by}
use Rattle.signature.proofs.Product.{row-share}
use Rattle.signature.proofs.Rows.{applied-words, row-share-is}

-- 2^42 c t taken off before the sums are turned back, or behind that
pub recovered-by : (l : ℕ) (T Z C t u : List ℕ) → u ≡ ntt (scaled_t t) → length C ≡ 512
    → intt (sub_w (applied l T Z) (pointwise C u)) ≡ recovered_by l T Z C t
unfolding recovered_by scaled_by
recovered-by l T Z C t u e h =
    let P = pointwise C (ntt (scaled_t t)) in
    let wp : Words 512 P = pointwise-words C (ntt (scaled_t t)) h (ntt-words (scaled_t t)).long in
    let one : (m : ℕ) → m < l → block 512 m Z ≡ shared_poly 1 Z 0 m =
    λ (m : ℕ) (o : m < l). let j : m * 1 + 0 ≡ m = omega arith in sym (block-block 512 1 m 0 Z (omega arith) ∙ ap (λ (x : ℕ). block 512 x Z) j) in
    ap (λ (x : List ℕ). intt (sub_w (applied l T Z) (pointwise C x))) e
    ∙ intt-sub (applied l T Z) P (applied-words l T Z) wp
    ∙ ap (λ (x : List ℕ). sub_w x (intt P)) (row-share-is 1 l T Z Z 0 one)

-- row i of the matrix A, held as T; z and c below q
pub recovered-row : (l i : ℕ) (T A z c t : List ℕ) → ((m : ℕ) → m < l → block 512 m T ≡ ntt (block 512 (i * l + m) A))
    → ((m : ℕ) → m < l → Words 512 (block 512 (i * l + m) A)) → Words (l * 512) z → Words 512 c → Words 512 (scaled_t (block 512 i t))
    → recovered_by l T (transformed l z) (ntt c) (block 512 i t) ≡ recovered_row l A z c t i
unfolding recovered_by recovered_row product_row scaled_by
recovered-row l i T A z c t e wa wz wc wt =
    let a : ℕ → List ℕ = λ (m : ℕ). block 512 (i * l + m) A in
    let one : l * 1 ≡ l = omega arith in
    let u : row_share 1 l T (transformed l z) 0 ≡ sum_of 512 l (λ (m : ℕ). mul (a m) (block 512 0 (block (1 * 512) m z))) =
    ap (λ (j : ℕ). row_share 1 l T (transformed j z) 0) (sym one) ∙ row-share 1 l T a z e wa wz 0 (omega arith) in
    let v : (m : ℕ) → m < l → mul (a m) (block 512 0 (block (1 * 512) m z)) ≡ mul (a m) (block 512 m z) =
    λ (m : ℕ) (o : m < l).
    let j : m * 1 + 0 ≡ m = omega arith in
    ap (mul (a m)) (block-block 512 1 m 0 z (omega arith) ∙ ap (λ (x : ℕ). block 512 x z) j) in
    ap (λ (x : List ℕ). sub_w x (scaled_by (ntt c) (block 512 i t)))
    (u ∙ sum-ext 512 l (λ (m : ℕ). mul (a m) (block 512 0 (block (1 * 512) m z))) (λ (m : ℕ). mul (a m) (block 512 m z)) v)
    ∙ ap (sub_w (product_row l A z i)) (product c (scaled_t (block 512 i t)) wc wt)
