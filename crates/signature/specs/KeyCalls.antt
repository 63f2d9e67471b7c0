-- The calls on keys: key generation, expanding, refreshing. The checks that each puts, in their order, and what it leaves in every buffer, for
-- any input. In each s is the look-up's answer and p the record found in it.
use Rattle.std.specs.Prelude.{Bool, List, [], ◌∷◌, ◌++◌, ℕ, Result}
use Rattle.hash.specs.Params.{lookup_of}
use Rattle.hash.specs.declared.params.Edition.{Edition}
use Rattle.hash.specs.declared.params.Params.{Params}
use Rattle.hash.specs.declared.params.Unknown.{Unknown}
use Rattle.signature.specs.Checks.{mask_seed_sized, keygen_seeds_sized, keygen_buffers_sized, expanded_key_sized, key_checks}
use Rattle.signature.specs.ExpandedKey.{ExpandedKey}
use Rattle.signature.specs.Keys.{packed, expanded, keygen_of, keygen_masks_fill, expand_of, expanded_of, refresh_masks_fill, refreshed_of}
use Rattle.signature.specs.Matrix.{filled}
use Rattle.signature.specs.Outcome.{Outcome, outcome, first_no, held_or, written, wiped, set_known, shares_known, found_in}

-- ---- key generation: the result is the signing key; the words are the work buffer's

abbrev pub keygen_checks : Result Params Unknown → Params → List ℕ → List ℕ → List ℕ → List ℕ → List (ℕ × Bool)
keygen_checks s p seeds mask out work =
    (1, set_known s)
    ∷ (2, shares_known s)
    ∷ (7, keygen_seeds_sized p seeds mask)
    ∷ (8, keygen_buffers_sized p out work)
    ∷ (10, filled (keygen_of p seeds mask))
    ∷ (20, keygen_masks_fill p seeds mask)
    ∷ []

-- with status n
abbrev pub keygen_leaves : ℕ → Params → List ℕ → List ℕ → List ℕ → List ℕ → Outcome
keygen_leaves n p seeds mask out work = outcome n (written n (held_or (keygen_of p seeds mask) []) out) (wiped n work)

unfoldable pub keygen_call : Edition → ℕ → ℕ → List ℕ → List ℕ → List ℕ → List ℕ → Outcome
keygen_call e set d seeds mask out work =
    let s = lookup_of set d e in
    let p = found_in s in
    keygen_leaves (first_no (keygen_checks s p seeds mask out work)) p seeds mask out work

-- ---- expanding and refreshing: the result is an expanded key, its bytes and its words

-- with status n; K is the key
abbrev pub key_leaves : ℕ → ExpandedKey → List ℕ → List ℕ → Outcome
key_leaves n K bytes words = outcome n (written n K.bytes bytes) (written n K.words words)

abbrev pub expand_checks : Result Params Unknown → Params → List ℕ → List ℕ → List ℕ → List (ℕ × Bool)
expand_checks s p key bytes words =
    (1, set_known s)
    ∷ (2, shares_known s)
    ∷ key_checks p (packed key)
    ++ ((8, expanded_key_sized p bytes words) ∷ (10, filled (expand_of p key)) ∷ [])

unfoldable pub expand_call : Edition → ℕ → ℕ → List ℕ → List ℕ → List ℕ → Outcome
expand_call e set d key bytes words =
    let s = lookup_of set d e in
    let p = found_in s in
    key_leaves (first_no (expand_checks s p key bytes words)) (expanded_of p key) bytes words

-- lent an expanded key and a mask seed
abbrev pub refresh_checks : Result Params Unknown → Params → ExpandedKey → List ℕ → List ℕ → List ℕ → List (ℕ × Bool)
refresh_checks s p K mask bytes words =
    (1, set_known s)
    ∷ (2, shares_known s)
    ∷ key_checks p (expanded K)
    ++ ((7, mask_seed_sized mask) ∷ (8, expanded_key_sized p bytes words) ∷ (20, refresh_masks_fill p mask) ∷ [])

unfoldable pub refresh_call : ℕ → ℕ → ExpandedKey → List ℕ → List ℕ → List ℕ → Outcome
refresh_call set d K mask bytes words =
    let s = lookup_of set d Edition.Printed in
    let p = found_in s in
    key_leaves (first_no (refresh_checks s p K mask bytes words)) (refreshed_of p K mask) bytes words
