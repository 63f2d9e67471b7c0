-- An expanded key (01: opened key): a public key, its digest (02, #102), and its secret in d shares.
use Rattle.std.specs.Prelude.{◌≡◌, List, ℕ, ◌+◌, ◌*◌, ◌%◌, ◌<◌, get_or, take, drop}
use Rattle.hash.specs.declared.params.Params.{Params}
use Rattle.ring.specs.Words.{q, Words}
use Rattle.sharing.specs.Blocks.{sum_n}
use Rattle.signature.specs.Form.{hash_bytes}

pub record ExpandedKey : Type 0 where
  -- the public key's bytes, and behind them the digest's
  pub bytes : List ℕ
  -- the words of all shares, polynomial by polynomial, its shares behind each other
  pub words : List ℕ

-- the key that lent bytes and words are
abbrev pub expanded_in : List ℕ → List ℕ → ExpandedKey
expanded_in bytes words = record { bytes = bytes; words = words }

-- how many bytes it has, and the two parts of them; the public key is the front of a signing key too
abbrev pub expanded_bytes : Params → ℕ
expanded_bytes p = p.vk_bytes + hash_bytes p

abbrev pub vk_in : Params → List ℕ → List ℕ
vk_in p bytes = take p.vk_bytes bytes

abbrev pub digest_in : Params → List ℕ → List ℕ
digest_in p bytes = drop p.vk_bytes bytes

-- of d shares: the word of share j of polynomial i at coefficient x; and the secret there, the sum of the share words modulo q
unfoldable pub share_word_at : ℕ → ExpandedKey → ℕ → ℕ → ℕ → ℕ
share_word_at d K i j x = get_or K.words (i * (d * 512) + (j * 512 + x)) 0

unfoldable pub secret_at : ℕ → ExpandedKey → ℕ → ℕ → ℕ
secret_at d K i x = sum_n d (λ (j : ℕ). share_word_at d K i j x) % q

-- K is an expanded key of the record p: with these bytes, and words below q that add to the secret, at all 512 coefficients of the l polynomials
pub record Holds (p : Params) (bytes : List ℕ) (secret : ℕ → ℕ → ℕ) (K : ExpandedKey) : Type 0 where
  pub bytes-are : K.bytes ≡ bytes
  pub share-words : Words (p.l * (p.shares * 512)) K.words
  pub secrets : (i x : ℕ) → i < p.l → x < 512 → secret_at p.shares K i x ≡ secret i x
