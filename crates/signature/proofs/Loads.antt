-- The shares of a key in the work buffer of signing: those of a signing key are words, and what checks 3 and 5 say of a key.
use mathlib.Core.Path.{◌≡◌, sym, ap, subst, ◌∙◌}
use mathlib.Core.Bool.{true}
use mathlib.Core.List.{List}
use mathlib.Core.Option.{some}
use Prim.Native.Nat.{ℕ, zero, suc, ◌+◌, ◌-◌, ◌*◌, ◌≤◌, ◌<◌}
use native.Mathlib.Omega.{arith}
use borrow.Author.Tests.{eqb-true}
use lib.ListN.{length, take, drop}
use Rattle.hash.specs.declared.params.Params.{Params}
use Rattle.ring.specs.Words.{q, Below, Words}
use Rattle.ring.proofs.Draws.{sample_q-words}
use Rattle.ring.proofs.Sums.{all-below}
use Rattle.ring.proofs.Filled.{some_same, held-words}
use Rattle.sharing.specs.Blocks.{block, build}
use Rattle.sharing.specs.Region.{put, Wrote}
use Rattle.sharing.proofs.Lists.{block_words, words-build}
use Rattle.sharing.proofs.Regions.{put_back, wrote-put}
use Rattle.signature.specs.ExpandedKey.{expanded_in, expanded_bytes}
use Rattle.signature.specs.Checks.{key_sized, shares_good}
use Rattle.signature.specs.Keys.{packed, expanded, full_share, seeded_share, share_at, decompressed, expand_of, shares_of}
use Rattle.signature.specs.Compress.{seeded_share_of}
use Rattle.signature.specs.Matrix.{filled}
use Rattle.signature.specs.ExpandSteps.{expanded_at, expanded_shares}
use Rattle.signature.proofs.Asked.{sizes}
use Rattle.signature.proofs.Expanded.{full-length, expanded-all}
use Rattle.signature.proofs.Sizes.{part-all}

-- ---- the shares of a signing key are words

share-words : (p : Params) (part : List ℕ) → Below q (full_share p part) → (j i : ℕ) → j < p.l → Words 512 (expanded_at p part j i)
unfolding share_at seeded_share_of
share-words p part b j zero h =
    let w = block_words p.l j (full_share p part) (record { long = full-length p part; low = b }) h in
    held-words (share_at p part j 0) (λ (f : List ℕ) e. subst (Words 512) (some_same (block 512 j (full_share p part)) f e) w)
share-words p part b j (suc i) h = held-words (seeded_share p part j (suc i)) (λ (f : List ℕ) e. sample_q-words _ _ f e)

pub expanded-words : (p : Params) (part : List ℕ) → Below q (full_share p part) → Words (p.l * (p.shares * 512)) (expanded_shares p part)
unfolding expanded_shares
expanded-words p part b =
    words-build p.l (λ (j : ℕ). build p.shares (expanded_at p part j))
    (λ (j : ℕ) (h : j < p.l). words-build p.shares (expanded_at p part j) (λ (i : ℕ) (g : i < p.shares). share-words p part b j i h))

-- written as a part of the buffer
pub part-loaded : (p : Params) (part : List ℕ) (at : ℕ) (s y : List ℕ) → Below q (full_share p part) → at + p.l * (p.shares * 512) ≤ length s
    → Below q s → y ≡ expanded_shares p part → Wrote 0 at (p.l * (p.shares * 512)) (expanded_shares p part) s (put s at (at + p.l * (p.shares * 512) - at) y)
part-loaded p part at s y b h low e =
    let k : at + p.l * (p.shares * 512) - at ≡ p.l * (p.shares * 512) = omega arith in
    let w = expanded-words p part b in
    wrote-put at (p.l * (p.shares * 512)) (expanded_shares p part) s _ h w.long low w.low (put_back s at k e)

pub part-value : (p : Params) (part X : List ℕ) → filled (decompressed p part) ≡ true → decompressed p part ≡ some X → expanded_shares p part ≡ X
part-value p part X f e = some_same (expanded_shares p part) X (sym (expanded-all p part f) ∙ e)

-- ---- checks 3 and 5

-- of a signing key
module _ (p : Params) (key : List ℕ) where
  pub packed-long : key_sized p (packed key) ≡ true → length key ≡ p.sk_bytes
  packed-long h = eqb-true (length key) p.sk_bytes h

  pub packed-low : shares_good p (packed key) ≡ true → Below q (full_share p (drop p.vk_bytes key))
  packed-low h = all-below q (full_share p (drop p.vk_bytes key)) h

  pub packed-shares : decompressed p (take (length key - p.vk_bytes) (drop p.vk_bytes key)) ≡ shares_of p (packed key)
  unfolding expand_of
  packed-shares = ap (decompressed p) (part-all p.vk_bytes key)

-- of an expanded key
module _ (p : Params) (bytes words : List ℕ) where
  pub expanded-long : key_sized p (expanded (expanded_in bytes words)) ≡ true
      → (length bytes ≡ expanded_bytes p) × (length words ≡ p.l * (p.shares * 512))
  expanded-long h = sizes (length bytes) (expanded_bytes p) (length words) (p.l * (p.shares * 512)) h

  pub expanded-low : shares_good p (expanded (expanded_in bytes words)) ≡ true → Below q words
  expanded-low h = all-below q words h
