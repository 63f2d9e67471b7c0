-- The secret of an expanded key, place by place, and the sums of its shares (sharing: `totals`): one says what the other does.
use mathlib.Core.Path.{◌≡◌, sym, ap, ◌∙◌}
use mathlib.Core.List.{List}
use Prim.Native.Nat.{ℕ, ◌+◌, ◌*◌, ◌%◌, ◌<◌}
use native.Mathlib.Omega.{arith}
use lib.ListN.{get_or}
use Rattle.hash.specs.declared.params.Params.{Params}
use Rattle.ring.specs.Words.{q, Words}
use Rattle.ring.proofs.Sums.{same-residues}
use Rattle.sharing.specs.Blocks.{block, total, totals}
use Rattle.sharing.proofs.Built.{totals-are}
use Rattle.sharing.proofs.Decode.{total-words, total-at, sum_n-ext, block-totals}
use Rattle.sharing.proofs.Lists.{block_words, block_at, build-ext}
use Rattle.signature.specs.ExpandedKey.{ExpandedKey, share_word_at, secret_at, Holds}

-- polynomial i of the n sums
pub secret-at : (d n : ℕ) (K : ExpandedKey) → Words (n * (d * 512)) K.words → (i x : ℕ) → i < n → x < 512
    → get_or (block 512 i (totals n d K.words)) x 0 ≡ secret_at d K i x
unfolding secret_at share_word_at
secret-at d n K w i x h l =
    ap (λ (xs : List ℕ). get_or xs x 0) (block-totals n d i K.words h)
    ∙ total-at d (block (d * 512) i K.words) (block_words n i K.words w h) x l
    ∙ ap (λ (m : ℕ). m % q)
    (sum_n-ext d (λ (j : ℕ). get_or (block 512 j (block (d * 512) i K.words)) x 0) (λ (j : ℕ). get_or K.words (i * (d * 512) + (j * 512 + x)) 0)
    (λ (j : ℕ) (m : j < d). block_at 512 j (block (d * 512) i K.words) x l ∙ block_at (d * 512) i K.words (j * 512 + x) (omega arith)))

-- keys of equal secrets have equal sums, and the other way round
module _ (d e n : ℕ) (K J : ExpandedKey) (w : Words (n * (d * 512)) K.words) (v : Words (n * (e * 512)) J.words) where
  pub secrets-totals : ((i x : ℕ) → i < n → x < 512 → secret_at d K i x ≡ secret_at e J i x) → totals n d K.words ≡ totals n e J.words
  secrets-totals h =
      let f : ℕ → List ℕ = λ (i : ℕ). total d (block (d * 512) i K.words) in
      let g : ℕ → List ℕ = λ (i : ℕ). total e (block (e * 512) i J.words) in
      totals-are n d K.words
      ∙ build-ext n f g
      (λ (i : ℕ) (l : i < n).
      same-residues (f i) (g i) (total-words d (block (d * 512) i K.words)) (total-words e (block (e * 512) i J.words))
      (λ (x : ℕ) (lx : x < 512).
      ap (λ (xs : List ℕ). get_or xs x 0) (sym (block-totals n d i K.words l))
      ∙ secret-at d n K w i x l lx ∙ h i x l lx ∙ sym (secret-at e n J v i x l lx)
      ∙ ap (λ (xs : List ℕ). get_or xs x 0) (block-totals n e i J.words l)))
      ∙ sym (totals-are n e J.words)

  pub totals-secrets : totals n d K.words ≡ totals n e J.words → (i x : ℕ) → i < n → x < 512 → secret_at d K i x ≡ secret_at e J i x
  totals-secrets h i x l lx =
      sym (secret-at d n K w i x l lx) ∙ ap (λ (xs : List ℕ). get_or (block 512 i xs) x 0) h ∙ secret-at e n J v i x l lx

-- a key J with the bytes of K, whose shares have the same sums
pub holds_as : (p : Params) (K J : ExpandedKey) → Words (p.l * (p.shares * 512)) K.words → Words (p.l * (p.shares * 512)) J.words → J.bytes ≡ K.bytes
    → totals p.l p.shares J.words ≡ totals p.l p.shares K.words → Holds p K.bytes (secret_at p.shares K) J
holds_as p K J w v e t = record { bytes-are = e; share-words = v; secrets = totals-secrets p.shares p.shares p.l J K v w t }
