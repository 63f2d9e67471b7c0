-- The hint h = w - y, row by row, and as the definition has it.
use mathlib.Core.Path.{◌≡◌, sym, ap, subst, ◌∙◌}
use mathlib.Core.List.{List, ◌++◌}
use Prim.Native.Nat.{ℕ, ◌+◌, ◌-◌, ◌*◌, ◌^◌, ◌≤◌, ◌<◌}
use native.Mathlib.Numerals.{add-one}
use native.Mathlib.Omega.{arith}
use borrow.Rule.Slice.PartMut.{put_mid, same_len_mid, mid_len}
use lib.IntN.{ℤ}
use lib.ListN.{length, take, drop}
use Rattle.hash.specs.declared.params.Params.{Params}
use Rattle.ring.specs.Words.{q, Below, Residues, Words, zip_to}
use Rattle.ring.specs.Transform.{ntt}
use Rattle.ring.specs.Round.{round_w}
use Rattle.ring.proofs.Recombined.{length-words}
use Rattle.ring.proofs.Sums.{below-take, below-drop, length-zip}
use Rattle.sharing.specs.Blocks.{block, build}
use Rattle.sharing.specs.Region.{span}
use Rattle.sharing.proofs.Lists.{build-ext, blocks-all}
use Rattle.sharing.proofs.Built.{block-is, build-next}
use Rattle.sharing.proofs.Regions.{length-span, span-words, block-span}
use Rattle.signature.specs.AttemptSteps.{commitment_in, response_in}
use Rattle.signature.specs.Checks.{work_words}
use Rattle.signature.specs.Keys.{vk_vector}
use Rattle.signature.specs.Layout.{at_t, at_x}
use Rattle.signature.specs.MaskedSteps.{matrix_in, MatrixHeld, ResiduesHeld, transformed}
use Rattle.signature.specs.Recover.{sub31, centred_all, hint_of, recovered}
use Rattle.signature.specs.RecoverSteps.{recovered_by, hint_row, hint_rows}
use Rattle.signature.specs.Table.{Tabled}
use Rattle.signature.proofs.Adjusted.{take_put, zip-block, round-block, row_block}
use Rattle.signature.proofs.Centred.{centred-append}
use Rattle.signature.proofs.Fronts.{vector-long}
use Rattle.signature.proofs.Product.{entry-words, entry-held}
use Rattle.signature.proofs.Sizes.{room}

-- polynomial i of w, below p as all of w
pub part-below : (p : ℕ) (xs : List ℕ) (a k i : ℕ) → i < k → Below p (span xs a (k * 512)) → Below p (span xs (a + i * 512) 512)
part-below p xs a k i h b =
    subst (Below p) (sym (block-is 512 i (span xs a (k * 512))) ∙ block-span 512 k i xs a h) (below-take p 512 (drop (i * 512) (span xs a (k * 512))) (below-drop p (i * 512) (span xs a (k * 512)) b))

-- X put at row i of h
module _ (i : ℕ) (h X : List ℤ) (b : i * 512 + 512 ≤ length h) (n : length X ≡ 512) where
  all : i * 512 + 512 - i * 512 ≡ 512
  all = omega arith

  pub hint-long : length (put_mid (i * 512) (i * 512 + 512 - i * 512) h X) ≡ length h
  hint-long = same_len_mid (i * 512) (i * 512 + 512 - i * 512) h X (n ∙ sym (mid_len (i * 512) (i * 512 + 512) h b ∙ all))

  -- a row more: v is row i of w, r row i of y
  pub hint-turn : (l : ℕ) (M Z C t w v r : List ℕ) → take (i * 512) h ≡ centred_all 31 (build i (hint_row l M Z C t w))
      → X ≡ centred_all 31 (zip_to sub31 v (round_w r)) → v ≡ block 512 i w → r ≡ recovered_by l (block (l * 512) i M) Z C (block 512 i t)
      → take ((i + 1) * 512) (put_mid (i * 512) (i * 512 + 512 - i * 512) h X) ≡ centred_all 31 (build (i + 1) (hint_row l M Z C t w))
  unfolding hint_row
  hint-turn l M Z C t w v r e x f g =
      let F : ℕ → List ℕ = hint_row l M Z C t w in
      let o : (i + 1) * 512 ≡ i * 512 + 512 = omega arith in
      let y : X ≡ centred_all 31 (F i) =
      x ∙ ap (λ (u : List ℕ). centred_all 31 (zip_to sub31 u (round_w r))) f ∙ ap (λ (u : List ℕ). centred_all 31 (zip_to sub31 (block 512 i w) (round_w u))) g in
      ap (λ (m : ℕ). take m (put_mid (i * 512) (i * 512 + 512 - i * 512) h X)) o
      ∙ ap (λ (m : ℕ). take (i * 512 + 512) (put_mid (i * 512) m h X)) all
      ∙ take_put h X (i * 512) 512 b n
      ∙ ap (λ (u : List ℤ). u ++ X) e
      ∙ ap (λ (u : List ℤ). centred_all 31 (build i F) ++ u) y
      ∙ sym (centred-append 31 (build i F) (F i))
      ∙ ap (centred_all 31) (sym (ap (λ (m : ℕ). build m F) (add-one i) ∙ build-next i F))

-- all rows are the definition's
hint-all : (p : Params) (M z c t w : List ℕ) → MatrixHeld p M → Words (p.l * 512) z → Words 512 c → length t ≡ p.k * 512
    → length w ≡ p.k * 512 → hint_rows p.k p.l M (transformed p.l z) (ntt c) t w ≡ hint_of w (recovered p (matrix_in p M) z c t)
unfolding hint_rows hint_row hint_of
hint-all p M z c t w h wz wc lt lw =
    let Y : List ℕ = recovered p (matrix_in p M) z c t in
    let F : ℕ → List ℕ = hint_row p.l M (transformed p.l z) (ntt c) t w in
    let D : List ℕ = zip_to sub31 w (round_w Y) in
    let f : (i : ℕ) → i < p.k → F i ≡ block 512 i D =
    λ (i : ℕ) (o : i < p.k).
    ap (λ (v : List ℕ). zip_to sub31 (block 512 i w) (round_w v))
    (row_block p i (block (p.l * 512) i M) (matrix_in p M) z c t o (λ (m : ℕ) (n : m < p.l). entry-held p.k p.l M h.0 h.1 i m o n)
    (λ (m : ℕ) (n : m < p.l). entry-words p.k p.l M h.0 h.1 i m o n) wz wc lt)
    ∙ ap (zip_to sub31 (block 512 i w)) (sym (round-block Y i))
    ∙ sym (zip-block sub31 w (round_w Y) i) in
    ap (centred_all 31) (build-ext p.k F (λ (i : ℕ). block 512 i D) f ∙ blocks-all 512 p.k D (length-zip sub31 w (round_w Y) ∙ lw))

-- the same of equal parts
hint-parts : {s s' x x' t t' w w' : List ℕ} (k l : ℕ) (M : List ℕ) → s ≡ s' → x ≡ x' → t ≡ t' → w ≡ w' → hint_rows k l M s x t w ≡ hint_rows k l M s' x' t' w'
hint-parts k l M b c d e = cc (b, c, d, e)

-- ---- all of it: xs is the work buffer, with w at `at` and z at `from`; M, Z and C are the matrix, z and c, transformed; t is the vector of the
-- public key `key`

module _ (p : Params) (h : Tabled p) (xs : List ℕ) (long : length xs ≡ work_words p) (low : Below q xs) where
  -- what `hint_rows` requires of the work buffer, and of the residues A, Y and B of M, Z and C
  pub hint-asked : (at : ℕ) (A Y B t key : List ℕ) (n : ℕ) → at ≡ at_t p.l p.shares → ResiduesHeld p A → length Y ≡ p.l * 512 → Below (2 ^ 60) Y
      → Residues (2 ^ 60) 512 B → t ≡ vk_vector p key → Below 125 (vk_vector p key) → Below 31 (commitment_in p xs) → n ≡ p.k * 512
      → ((at + p.k * 512 ≤ length xs) × Below q xs × Below 31 (span xs at (p.k * 512)) × (p.k ≤ 9) × (p.l ≤ 7))
      × (((p.k * (p.l * 512) ≤ length A) × Below (2 ^ 60) A × (p.l * 512 ≤ length Y) × Below (2 ^ 60) Y × Residues (2 ^ 60) 512 B)
      × ((length t ≡ p.k * 512) × Below 125 t × (n ≡ p.k * 512)))
  hint-asked at A Y B t key n there held ly by rb vector vector-low w-low hint-long =
      let R = room p h (length xs) long in (
        (omega (arith, R.1, there), low, subst (λ (b : ℕ). Below 31 (span xs b (p.k * 512))) (sym there) w-low, h.rows-low, h.columns-low),
        (
          (omega (arith, held.0.0, length-words A), held.1, omega (arith, ly), by, rb),
          (ap length vector ∙ vector-long p key, subst (Below 125) (sym vector) vector-low, hint-long),
        ),
      )

  -- what it leaves, with c as the residues y
  pub hint-made : (at from : ℕ) (M Z C t key c y : List ℕ) (e : List ℤ) → at ≡ at_t p.l p.shares → from ≡ at_x p.k p.l p.shares
      → MatrixHeld p M → Z ≡ transformed p.l (span xs from (p.l * 512)) → t ≡ vk_vector p key → y ≡ c → Words 512 y → C ≡ ntt y
      → e ≡ hint_rows p.k p.l M Z C t (span xs at (p.k * 512))
      → e ≡ hint_of (commitment_in p xs) (recovered p (matrix_in p M) (response_in p xs) c (vk_vector p key))
  hint-made at from M Z C t key c y e there at_from held z-is vector residues-are words C-is rows_are =
      let R = room p h (length xs) long in
      let z : Z ≡ transformed p.l (response_in p xs) = z-is ∙ ap (λ (b : ℕ). transformed p.l (span xs b (p.l * 512))) at_from in
      let w : span xs at (p.k * 512) ≡ commitment_in p xs = ap (λ (b : ℕ). span xs b (p.k * 512)) there in
      rows_are ∙ hint-parts p.k p.l M z (C-is ∙ ap ntt residues-are) vector w
      ∙ hint-all p M (response_in p xs) c (vk_vector p key) (commitment_in p xs) held
      (span-words xs (at_x p.k p.l p.shares) (p.l * 512) R.2 low) (subst (Words 512) residues-are words) (vector-long p key)
      (length-span xs (at_t p.l p.shares) (p.k * 512) R.1)
