-- Keys: byte forms (000, 2.5.2 and 2.5.3), MaskCompress and MaskDecompress (Algorithms 14 and 15), KeyGen (Algorithm 1).
use Rattle.std.specs.Prelude.{◌≡◌, Bool, List, [], ◌++◌, ℕ, zero, suc, ◌+◌, ◌-◌, ◌*◌, ◌/◌, take, drop}
use Rattle.std.proofs.Math.Option.{Option, some, none}
use Rattle.hash.specs.declared.params.Params.{Params}
use Rattle.ring.specs.Checks.{held_or}
use Rattle.ring.specs.Transform.{ntt}
use Rattle.ring.specs.Round.{round_t}
use Rattle.sharing.specs.Blocks.{block, build, totals, each}
use Rattle.sharing.specs.Encoding.{skip, refreshed}
use Rattle.sharing.specs.Masks.{masks, mask_start}
use Rattle.sharing.specs.Noise.{noise_bytes}
use Rattle.sharing.specs.declared.masks.MaskGen.{MaskGen}
use Rattle.signature.specs.Bits.{repack}
use Rattle.signature.specs.Digest.{digest_for}
use Rattle.signature.specs.ExpandedKey.{ExpandedKey, vk_in, digest_in}
use Rattle.signature.specs.Compress.{seeded_share_of, compressed_of}
use Rattle.signature.specs.Matrix.{build_all, matrix}
use Rattle.signature.specs.Masked.{seeded, masked_noise, masked_image}

-- ---- the public key: the seed of the matrix, then t at 7 bits a coefficient

abbrev pub seed_bytes : Params → ℕ
seed_bytes p = p.kappa / 8

unfoldable pub vk_seed : Params → List ℕ → List ℕ
vk_seed p key = take (seed_bytes p) key

unfoldable pub vk_vector : Params → List ℕ → List ℕ
vk_vector p key = repack 8 7 (p.k * 512) (take (p.k * 448) (drop (seed_bytes p) key))

unfoldable pub public_key_of : Params → List ℕ → List ℕ → List ℕ
public_key_of p seed t = seed ++ repack 7 8 (p.k * 448) t

-- ---- the share part of a signing key, behind the public key: d - 1 seeds, then one share at 49 bits a coefficient

unfoldable pub full_share : Params → List ℕ → List ℕ
full_share p part = repack 8 49 (p.l * 512) (drop ((p.shares - 1) * seed_bytes p) part)

-- share i, from 1, of polynomial j, expanded from its seed
abbrev pub seeded_share : Params → List ℕ → ℕ → ℕ → Option (List ℕ)
seeded_share p seeds j i = seeded_share_of p.edition (seed_bytes p) seeds j i

-- Algorithm 15: polynomial by polynomial, the full share first
unfoldable pub share_at : Params → List ℕ → ℕ → ℕ → Option (List ℕ)
share_at p part j zero = some (block 512 j (full_share p part))
share_at p part j (suc i) = seeded_share p part j (suc i)

unfoldable pub decompressed : Params → List ℕ → Option (List ℕ)
decompressed p part = build_all p.l (λ (j : ℕ). build_all p.shares (share_at p part j))

-- Algorithm 14
abbrev pub compressed : Params → List ℕ → List ℕ → Option (List ℕ)
compressed p seeds s = compressed_of p.edition (seed_bytes p) seeds p.l p.shares s

-- ---- Algorithm 1

-- what key generation is lent: the matrix seed, the noise seeds, d - 1 share seeds
abbrev pub keygen_bytes : Params → ℕ
keygen_bytes p = seed_bytes p + noise_bytes p + (p.shares - 1) * seed_bytes p

abbrev pub noise_part : Params → List ℕ → List ℕ
noise_part p seeds = take (noise_bytes p) (drop (seed_bytes p) seeds)

abbrev pub share_part : Params → List ℕ → List ℕ
share_part p seeds = drop (seed_bytes p + noise_bytes p) seeds

-- the shares of s in the transform domain, and t
unfoldable pub key_shares : Params → List ℕ → MaskGen → List ℕ
key_shares p coins g = build p.l (λ (i : ℕ). each p.shares ntt (block (p.shares * 512) i (masked_noise p (seeded p p.ut coins) g).shares))

unfoldable pub key_vector : Params → List ℕ → MaskGen → List ℕ → List ℕ
key_vector p coins g A = round_t (totals p.k p.shares (masked_image p (seeded p p.ut coins) g A).shares)

-- did every mask fill that is drawn on the way (lines 3, 4 and 6; check 20)? The generator behind line 6 tells
unfoldable pub key_masks_fill : Params → List ℕ → MaskGen → List ℕ → Bool
key_masks_fill p coins g A = (masked_image p (seeded p p.ut coins) g A).next.ok

-- the signing key, if matrix and share seeds fill
abbrev made_key : Params → List ℕ → MaskGen → Option (List ℕ) → Option (List ℕ) → Option (List ℕ)
made_key p seeds g none x = none
made_key p seeds g (some A) none = none
made_key p seeds g (some A) (some x) =
    some (public_key_of p (vk_seed p seeds) (key_vector p (noise_part p seeds) g A) ++ (share_part p seeds ++ repack 49 8 (p.l * 3136) x))

unfoldable pub keygen_of : Params → List ℕ → List ℕ → Option (List ℕ)
keygen_of p seeds mask =
    made_key p seeds (mask_start mask) (matrix p (vk_seed p seeds)) (compressed p (share_part p seeds) (key_shares p (noise_part p seeds) (mask_start mask)))

unfoldable pub keygen_masks_fill : Params → List ℕ → List ℕ → Bool
keygen_masks_fill p seeds mask = key_masks_fill p (noise_part p seeds) (mask_start mask) (held_or (matrix p (vk_seed p seeds)) [])

-- ---- a key that a call is lent

-- a signing key's bytes, or an expanded key
pub data Key : Type 0 where
  packed : List ℕ → Key
  expanded : ExpandedKey → Key

-- its public key; the digest of that (02, #102), of a signing key computed, of an expanded key as it is lent; both, as an expanded key has them
abbrev pub public_of : Params → Key → List ℕ
public_of p (packed key) = vk_in p key
public_of p (expanded K) = vk_in p K.bytes

abbrev pub digest_of : Params → Key → List ℕ
digest_of p (packed key) = digest_for p (vk_in p key)
digest_of p (expanded K) = digest_in p K.bytes

abbrev pub with_digest : Params → Key → List ℕ
with_digest p key = public_of p key ++ digest_of p key

-- is the digest the hash of the public key?
abbrev pub DigestTrue : Params → Key → Type 0
DigestTrue p key = digest_of p key ≡ digest_for p (public_of p key)

-- its shares, if the share seeds fill (check 10)
unfoldable pub expand_of : Params → List ℕ → Option (List ℕ)
expand_of p key = decompressed p (drop p.vk_bytes key)

abbrev pub shares_of : Params → Key → Option (List ℕ)
shares_of p (packed key) = expand_of p key
shares_of p (expanded K) = some K.words

-- ---- expanding and refreshing (01: opening, refreshing)

-- the key that expanding gives, if all shares fill
abbrev pub expanded_of : Params → List ℕ → ExpandedKey
expanded_of p key = record { bytes = with_digest p (packed key); words = held_or (expand_of p key) [] }

-- refreshing carries on the bytes, whatever digest is in them
unfoldable pub refresh_of : Params → List ℕ → List ℕ → List ℕ
refresh_of p words mask = refreshed masks p.shares (mask_start mask) p.l words

-- did every mask of its l zero encodings fill (check 20)?
unfoldable pub refresh_masks_fill : Params → List ℕ → Bool
refresh_masks_fill p mask = (skip masks p.shares p.l (mask_start mask)).ok

abbrev pub refreshed_of : Params → ExpandedKey → List ℕ → ExpandedKey
refreshed_of p K mask = record { bytes = K.bytes; words = refresh_of p K.words mask }

-- what key generation made the signing key of: its public key, the digest of it, and the shares of s
abbrev pub generated_of : Params → List ℕ → List ℕ → List ℕ → ExpandedKey
generated_of p seeds mask key = record { bytes = with_digest p (packed key); words = key_shares p (noise_part p seeds) (mask_start mask) }
