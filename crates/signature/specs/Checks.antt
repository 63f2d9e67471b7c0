-- The checks of paper 01 ("Questions put to a call"), each by its number. The first no decides, and its number is the status (`first_no`).
use Rattle.std.specs.Prelude.{Bool, true, false, List, [], ◌∷◌, ℕ, ◌+◌, ◌*◌, eqb, leb, length, drop}
use Rattle.std.proofs.Math.Option.{Option, some, none}
use Rattle.hash.specs.declared.params.Params.{Params}
pub use Rattle.ring.specs.Checks.{first_no, both}
use Rattle.ring.specs.Words.{q, all_below}
use Rattle.sharing.specs.Noise.{noise_bytes}
use Rattle.signature.specs.ExpandedKey.{expanded_bytes}
use Rattle.signature.specs.Form.{Fields, write, read}
use Rattle.signature.specs.Keys.{Key, packed, expanded, public_of, vk_vector, full_share, keygen_bytes}

-- 1. Is the set 128, 192 or 256?   2. Is d one of the six?
-- The look-up in the parameter table puts these two (lookup_of); its answer says yes or no to each (set_known, shares_known).

-- 3. Is the key exactly as long as set (and d) say?
abbrev pub signing_key_sized : Params → List ℕ → Bool
signing_key_sized p key = eqb (length key) p.sk_bytes

abbrev pub public_key_sized : Params → List ℕ → Bool
public_key_sized p vk = eqb (length vk) p.vk_bytes

abbrev pub expanded_bytes_sized : Params → List ℕ → Bool
expanded_bytes_sized p bytes = eqb (length bytes) (expanded_bytes p)

abbrev pub expanded_key_sized : Params → List ℕ → List ℕ → Bool
expanded_key_sized p bytes words = both (expanded_bytes_sized p bytes) (eqb (length words) (p.l * (p.shares * 512)))

-- 4. Are all public key coefficients below 125?
abbrev pub public_key_good : Params → List ℕ → Bool
public_key_good p key = all_below 125 (vk_vector p key)

-- 5. Are all words of the full share (expanded key: of all shares) below q?
abbrev pub full_share_good : Params → List ℕ → Bool
full_share_good p key = all_below q (full_share p (drop p.vk_bytes key))

abbrev pub share_words_good : List ℕ → Bool
share_words_good words = all_below q words

-- 3 to 5, of a key of either form
abbrev pub key_sized : Params → Key → Bool
key_sized p (packed key) = signing_key_sized p key
key_sized p (expanded K) = expanded_key_sized p K.bytes K.words

abbrev pub key_good : Params → Key → Bool
key_good p key = public_key_good p (public_of p key)

abbrev pub shares_good : Params → Key → Bool
shares_good p (packed key) = full_share_good p key
shares_good p (expanded K) = share_words_good K.words

abbrev pub key_checks : Params → Key → List (ℕ × Bool)
key_checks p key = (3, key_sized p key) ∷ (4, key_good p key) ∷ (5, shares_good p key) ∷ []

-- 6. Are the allowed attempts (01: tries) from 1 to 16?
abbrev pub attempts_allowed : ℕ → Bool
attempts_allowed n = both (leb 1 n) (leb n 16)

-- 7. Are the seeds exactly as long as the call needs? (Key generation: matrix seed, noise seeds and share seeds, and a mask seed of 32 bytes;
-- refreshing: a mask seed of 32 bytes; signing: noise seeds and a mask seed for each attempt, or in place of the noise seeds the words of the
-- noise, each below q.)
abbrev pub mask_seed_sized : List ℕ → Bool
mask_seed_sized mask = eqb (length mask) 32

abbrev pub keygen_seeds_sized : Params → List ℕ → List ℕ → Bool
keygen_seeds_sized p seeds mask = both (eqb (length seeds) (keygen_bytes p)) (mask_seed_sized mask)

-- .. of n attempts (02, #103 tells these beforehand)
abbrev pub noise_seed_bytes : Params → ℕ → ℕ
noise_seed_bytes p n = n * noise_bytes p

abbrev pub mask_seed_bytes : ℕ → ℕ
mask_seed_bytes n = n * 32

abbrev pub sign_seeds_sized : Params → ℕ → List ℕ → List ℕ → Bool
sign_seeds_sized p n noise masks = both (eqb (length noise) (noise_seed_bytes p n)) (eqb (length masks) (mask_seed_bytes n))

abbrev pub sign_noise_good : Params → ℕ → List ℕ → List ℕ → Bool
sign_noise_good p n noise masks = both (eqb (length noise) (n * ((p.l + p.k) * p.shares * 512))) (both (all_below q noise) (eqb (length masks) (mask_seed_bytes n)))

-- 8. Is each result buffer exactly its size, and the work buffer exactly 512 (2 l d + 4 d + 2 k + 8) words? (Samplers: polynomial_sized.)
abbrev pub work_words : Params → ℕ
work_words p = 512 * (2 * p.l * p.shares + 4 * p.shares + 2 * p.k + 8)

abbrev pub keygen_buffers_sized : Params → List ℕ → List ℕ → Bool
keygen_buffers_sized p out work = both (eqb (length out) p.sk_bytes) (eqb (length work) (work_words p))

abbrev pub sign_buffers_sized : Params → List ℕ → List ℕ → Bool
sign_buffers_sized p out work = both (eqb (length out) p.sig_bytes) (eqb (length work) (work_words p))

-- 9. Is the message at most 4096 bytes?
abbrev pub message_sized : List ℕ → Bool
message_sized m = leb (length m) 4096

-- 10. Did every uniform polynomial fill within 777 draws?   11. Did the challenge fill within 1088 draws?
-- The samplers give none where the answer is no (filled).

-- 12. Did some allowed attempt pass the bounds (2.4.4) and fit the signature length?
-- `finished` of Sign.antt puts it to each attempt: `check_bounds`, and `write`, which gives none where the bits do not fit.

-- 13. Is the signature exactly as long as the set says?
abbrev pub signature_sized : Params → List ℕ → Bool
signature_sized p b = eqb (length b) p.sig_bytes

-- 14. Is it the very byte string that the writer makes of the fields read from it?
unfoldable pub same_bytes : List ℕ → List ℕ → Bool
same_bytes [] [] = true
same_bytes [] (y ∷ ys) = false
same_bytes (x ∷ xs) [] = false
same_bytes (x ∷ xs) (y ∷ ys) = both (eqb x y) (same_bytes xs ys)

abbrev pub written_as : List ℕ → Option (List ℕ) → Bool
written_as b none = false
written_as b (some c) = same_bytes b c

abbrev pub proper_fields : Params → List ℕ → Option Fields → Bool
proper_fields p b none = false
proper_fields p b (some f) = written_as b (write p f)

unfoldable pub proper_form : Params → List ℕ → Bool
proper_form p b = proper_fields p b (read p b)

-- 15. Do the fields pass the bounds of 2.4.4?   check_bounds
-- 16. Is the recomputed challenge hash equal?
abbrev pub hash_equal : Fields → List ℕ → Bool
hash_equal f hash = same_bytes f.hash hash

-- 20. Did every mask polynomial fill within 777 draws? (02, #105)
-- The generator tells (ok), and is dry from the first polynomial on that does not fill (sharing, specs/Masks.antt): keygen_masks_fill, refresh_masks_fill,
-- and in an attempt decoded, before the challenge and behind it (Masked.antt, Sign.antt).
