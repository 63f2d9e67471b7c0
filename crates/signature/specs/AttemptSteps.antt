-- Steps (what the code leaves on its way; no call's contract reaches these): one attempt of signing (000, Algorithm 2) on the work buffer, laid out
-- as Layout.antt says.
use Rattle.std.specs.Prelude.{◌≡◌, Bool, true, false, List, ℕ, suc, ◌+◌, ◌*◌, ◌≤◌, ℤ, length}
use Rattle.std.proofs.Math.Option.{some, none}
use Rattle.hash.specs.declared.params.Params.{Params}
use Rattle.ring.specs.Words.{q, add_w, Below, Words}
use Rattle.ring.specs.Transform.{intt, pointwise}
use Rattle.ring.specs.Round.{round_w, residues}
use Rattle.sharing.specs.Blocks.{block, build, totals}
use Rattle.sharing.specs.Region.{span}
use Rattle.sharing.specs.Encoding.{skip, refreshed}
use Rattle.sharing.specs.Masks.{masks}
use Rattle.sharing.specs.declared.masks.MaskGen.{MaskGen}
use Rattle.signature.specs.Challenge.{chal_hash, chal_poly}
use Rattle.ring.specs.UniformSteps.{option_of}
use Rattle.signature.specs.ExpandedKey.{expanded_in, expanded_bytes}
use Rattle.signature.specs.Layout.{at_s, at_r, at_t, at_x}
use Rattle.signature.specs.Masked.{Noise, masked_noise, masked_image}
use Rattle.signature.specs.MaskedSteps.{transformed, untransformed}
use Rattle.signature.specs.declared.attempt.Reply.{Reply}
use Rattle.signature.specs.declared.lent.LentCoins.{LentCoins}
use Rattle.signature.specs.declared.lent.LentKey.{LentKey}
use Rattle.signature.specs.declared.lent.NoiseTape.{NoiseTape}
use Rattle.signature.specs.Form.{Fields}
use Rattle.signature.specs.Sign.{Public, signed_fields, Coins, noise_size, masked_response, refreshed_key, refreshed_response}
use Rattle.signature.specs.SignCalls.{Key, packed, expanded}

-- the key that a call is lent, and its bytes, which hold the public key and, of an expanded key, the digest
abbrev pub key_lent : LentKey → Key
key_lent (LentKey.Signing key) = packed key.now
key_lent (LentKey.Expanded bytes words) = expanded (expanded_in bytes.now words.now)

abbrev pub key_bytes : LentKey → List ℕ
key_bytes (LentKey.Signing key) = key.now
key_bytes (LentKey.Expanded bytes words) = bytes.now

abbrev pub BytesHeld : Params → LentKey → Type 0
BytesHeld p (LentKey.Signing key) = p.vk_bytes ≤ length key.now
BytesHeld p (LentKey.Expanded bytes words) = length bytes.now ≡ expanded_bytes p

-- what all attempts draw on
abbrev pub is_explicit : NoiseTape → Bool
is_explicit (NoiseTape.Seeds seeds) = false
is_explicit (NoiseTape.Words words) = true

abbrev pub tape_of : NoiseTape → List ℕ
tape_of (NoiseTape.Seeds seeds) = seeds.now
tape_of (NoiseTape.Words words) = words.now

abbrev pub coins_lent : LentCoins → Coins
coins_lent T = record { explicit = is_explicit T.noise; noise = tape_of T.noise; masks = T.masks.now }

-- the coins hold attempt number a + 1, and explicit noise is words below q
pub record Within (p : Params) (T : Coins) (a : ℕ) : Type 0 where
  pub noise-long : a * noise_size p T.explicit + noise_size p T.explicit ≤ length T.noise
  pub noise-low : T.explicit ≡ true → Below q T.noise
  pub few : a ≤ 16
  pub masks-long : a * 32 + 32 ≤ length T.masks

-- in the work buffer: the key's shares; w, once it is added up, and z
abbrev pub key_in : Params → List ℕ → List ℕ
key_in p work = span work (at_s p.shares) (p.l * (p.shares * 512))

abbrev pub commitment_in : Params → List ℕ → List ℕ
commitment_in p work = span work (at_t p.l p.shares) (p.k * 512)

abbrev pub response_in : Params → List ℕ → List ℕ
response_in p work = span work (at_x p.k p.l p.shares) (p.l * 512)

-- lines 17 to 19, of what stands there
abbrev pub signed_in : Params → Public → List ℕ → List ℤ → List ℕ → Fields
signed_in p P hash c work = signed_fields p P (commitment_in p work) hash (response_in p work) c

-- lines 4 and 5 with the noise N, zero encodings from g on: r in the transform domain, and s as it was
pub record Begun (p : Params) (N : Noise) (g : MaskGen) (s ys : List ℕ) : Type 0 where
  pub noise : span ys (at_r p.l p.shares) (p.l * (p.shares * 512)) ≡ transformed (p.l * p.shares) (masked_noise p N g).shares
  pub key : key_in p ys ≡ s

-- the d shares of the last row of w behind line 7, as they were added up: they stand behind the zero encoding
abbrev pub LastRow : Params → Noise → MaskGen → List ℕ → List ℕ → Type 0
LastRow p N g A ys =
    (i : ℕ) → p.k ≡ suc i → span ys (p.shares * 512) (p.shares * 512) ≡ block (p.shares * 512) i (masked_image p N g A).shares

-- lines 4 to 8: r in the transform domain, the shares of the last row of w, the sum w, and the key s as it was; h is the generator behind line 7
pub record Committed (p : Params) (N : Noise) (g : MaskGen) (A s : List ℕ) (h : MaskGen) (ys : List ℕ) : Type 0 where
  pub begun : Begun p N g s ys
  pub row : LastRow p N g A ys
  pub image : commitment_in p ys ≡ totals p.k p.shares (masked_image p N g A).shares
  pub next : h ≡ (masked_image p N g A).next

-- ---- line 14 by the transform: c is the transform of the challenge, X the shares of s in the transform domain, Y those of r

-- share j of one polynomial; the shares of polynomial i
abbrev pub response_share : List ℕ → List ℕ → List ℕ → ℕ → List ℕ
response_share c X Y j = add_w (intt (pointwise c (block 512 j X))) (block 512 j Y)

abbrev pub response_at : ℕ → List ℕ → List ℕ → List ℕ → ℕ → List ℕ
response_at d c X Y i = build d (response_share c (block (d * 512) i X) (block (d * 512) i Y))

-- ---- lines 12 to 16

-- lines 12 and 13, s at a and r at b: s refreshed from g on, r turned back and refreshed behind it; what is before and behind them as it was; h is the
-- generator behind line 13
pub record Renewed (l d a b : ℕ) (g h : MaskGen) (xs ys : List ℕ) : Type 0 where
  pub key : span ys a (l * (d * 512)) ≡ refreshed masks d g l (span xs a (l * (d * 512)))
  pub noise : span ys b (l * (d * 512)) ≡ refreshed masks d (skip masks d l g) l (untransformed (l * d) (span xs b (l * (d * 512))))
  pub next : h ≡ skip masks d l (skip masks d l g)
  pub front : (e n : ℕ) → d * 512 ≤ e → e + n ≤ a → span ys e n ≡ span xs e n
  pub behind : (e n : ℕ) → b + l * (d * 512) ≤ e → span ys e n ≡ span xs e n
  pub long : length ys ≡ length xs
  pub low : Below q ys

-- all of them, of the challenge polynomial c, from g on: s refreshed, the shares of z in the place of r, their sum z, and w and its last row as
-- they were; h is the generator behind line 15
pub record Responded (k l d : ℕ) (c : List ℕ) (g h : MaskGen) (xs ys : List ℕ) : Type 0 where
  pub key : span ys (at_s d) (l * (d * 512)) ≡ refreshed masks d g l (span xs (at_s d) (l * (d * 512)))
  pub shares : (r : List ℕ) → Words (l * (d * 512)) r → span xs (at_r l d) (l * (d * 512)) ≡ transformed (l * d) r
      → span ys (at_r l d) (l * (d * 512)) ≡ refreshed masks d (skip masks d l (skip masks d l g)) l
      (masked_response d l c (refreshed masks d g l (span xs (at_s d) (l * (d * 512)))) (refreshed masks d (skip masks d l g) l r))
  pub next : h ≡ skip masks d l (skip masks d l (skip masks d l g))
  pub response : span ys (at_x k l d) (l * 512) ≡ totals l d (span ys (at_r l d) (l * (d * 512)))
  pub row : span ys (d * 512) (d * 512) ≡ span xs (d * 512) (d * 512)
  pub commitment : span ys (at_t l d) (k * 512) ≡ span xs (at_t l d) (k * 512)
  pub long : length ys ≡ length xs
  pub low : Below q ys

-- ---- lines 8 to 16

-- line 8, the sum of the shares of w; line 10, the challenge hash
abbrev pub commitment_of : Params → Noise → MaskGen → List ℕ → List ℕ
commitment_of p N g A = totals p.k p.shares (masked_image p N g A).shares

abbrev pub hash_of : Params → Noise → MaskGen → List ℕ → List ℕ → List ℕ
hash_of p N g A mu = chal_hash p (round_w (commitment_of p N g A)) mu

-- what is left of lines 4 to 16: the challenge hash and polynomial, the shares of the last row of w, w rounded, and with a challenge s
-- refreshed, the shares of z, z, and whether every mask up to line 15 filled; without one s and r as they were
pub record Answered (p : Params) (N : Noise) (g : MaskGen) (A mu s : List ℕ) (o : Reply) (hash ys : List ℕ) : Type 0 where
  pub hash-is : hash ≡ hash_of p N g A mu
  pub challenge-is : o.challenge ≡ option_of (chal_poly p (hash_of p N g A mu))
  pub masks-none : chal_poly p (hash_of p N g A mu) ≡ none → o.full ≡ (masked_image p N g A).next.ok
  pub masks-are : (c : List ℤ) → chal_poly p (hash_of p N g A mu) ≡ some c → o.full ≡ (refreshed_response p N g A s (residues q c)).next.ok
  pub row : LastRow p N g A ys
  pub commitment : commitment_in p ys ≡ round_w (commitment_of p N g A)
  pub idle : chal_poly p (hash_of p N g A mu) ≡ none → Begun p N g s ys
  pub key : (c : List ℤ) → chal_poly p (hash_of p N g A mu) ≡ some c → key_in p ys ≡ (refreshed_key p N g A s).shares
  pub shares : (c : List ℤ) → chal_poly p (hash_of p N g A mu) ≡ some c
      → span ys (at_r p.l p.shares) (p.l * (p.shares * 512)) ≡ (refreshed_response p N g A s (residues q c)).shares
  pub response : (c : List ℤ) → chal_poly p (hash_of p N g A mu) ≡ some c
      → response_in p ys ≡ totals p.l p.shares (refreshed_response p N g A s (residues q c)).shares
