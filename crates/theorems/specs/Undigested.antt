-- Signing before #102: an expanded key held no digest, and each call hashed the public key (000, Algorithm 2, line 2). It is the right side of a
-- theorem, by which signatures are byte for byte what they were; no call's contract reaches it.
use Rattle.std.specs.Prelude.{Bool, List, [], ◌∷◌, ◌++◌, ℕ, ◌*◌, eqb, length, take, Result}
use Rattle.hash.specs.Params.{lookup_of}
use Rattle.hash.specs.Shake.{shake256}
use Rattle.hash.specs.declared.params.Edition.{Edition}
use Rattle.hash.specs.declared.params.Params.{Params}
use Rattle.hash.specs.declared.params.Unknown.{Unknown}
use Rattle.signature.specs.Checks.{both, signing_key_sized, public_key_sized, public_key_good, shares_good}
use Rattle.signature.specs.ExpandedKey.{expanded_in, vk_in}
use Rattle.signature.specs.Form.{hash_bytes}
use Rattle.signature.specs.Keys.{vk_seed, shares_of}
use Rattle.signature.specs.Matrix.{matrix, filled}
use Rattle.signature.specs.Outcome.{Outcome, refused_or, first_no, held_or, set_known, shares_known, found_in}
use Rattle.signature.specs.Sign.{public_by, Coins, sign_from}
use Rattle.signature.specs.SignCalls.{Key, call_checks, left_by}
use Rattle.signature.specs.SignCalls.Key.{packed, expanded}

-- a key as it was then: of an expanded key the bytes are the public key alone
abbrev pub undigested : Params → Key → Key
undigested p (packed key) = packed key
undigested p (expanded K) = expanded (expanded_in (vk_in p K.bytes) K.words)

-- its public key, and checks 3 and 4
abbrev public_then : Params → Key → List ℕ
public_then p (packed key) = take p.vk_bytes key
public_then p (expanded K) = K.bytes

abbrev sized_then : Params → Key → Bool
sized_then p (packed key) = signing_key_sized p key
sized_then p (expanded K) = both (public_key_sized p K.bytes) (eqb (length K.words) (p.l * (p.shares * 512)))

abbrev good_then : Params → Key → Bool
good_then p (packed key) = public_key_good p key
good_then p (expanded K) = public_key_good p K.bytes

-- mu = H(H(vk) || msg)
abbrev mu_then : Params → List ℕ → List ℕ → List ℕ
mu_then p vk msg = shake256 (shake256 vk (hash_bytes p) ++ msg) (hash_bytes p)

abbrev checks_then : Result Params Unknown → Params → Key → ℕ → List ℕ → Coins → List ℕ → List ℕ → List (ℕ × Bool)
checks_then s p key n msg T out work =
    (1, set_known s)
    ∷ (2, shares_known s)
    ∷ (3, sized_then p key)
    ∷ (4, good_then p key)
    ∷ (5, shares_good p key)
    ∷ call_checks p n msg T out work
    ++ ((10, both (filled (matrix p (vk_seed p (public_then p key)))) (filled (shares_of p key))) ∷ [])

abbrev attempts_then : Params → Key → ℕ → List ℕ → Coins → Outcome
attempts_then p key n msg T =
    let vk = public_then p key in
    sign_from p (public_by p vk (mu_then p vk msg) (held_or (matrix p (vk_seed p vk)) [])) T n 0 (held_or (shares_of p key) [])

-- the call, with what it leaves in its buffers
abbrev pub sign_then : Result Params Unknown → Params → Key → ℕ → List ℕ → Coins → List ℕ → List ℕ → Outcome
sign_then s p key n msg T out work = refused_or (first_no (checks_then s p key n msg T out work)) (attempts_then p key n msg T)

unfoldable pub sign_call_then : Edition → ℕ → ℕ → Key → ℕ → List ℕ → Coins → List ℕ → List ℕ → Outcome
sign_call_then e set d key n msg T out work =
    let s = lookup_of set d e in
    left_by (sign_then s (found_in s) key n msg T out work) out work
