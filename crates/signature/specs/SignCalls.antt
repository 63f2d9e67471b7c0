-- The signing calls: with a signing key or an expanded key, from seeds or with explicit noise. The checks that each puts, in their order, what
-- each answers and what it leaves in every buffer.
use Rattle.std.specs.Prelude.{Bool, List, [], ◌∷◌, ◌++◌, ℕ, Result}
use Rattle.hash.specs.Lists.{pick}
use Rattle.hash.specs.Params.{lookup_of}
use Rattle.hash.specs.declared.params.Edition.{Edition}
use Rattle.hash.specs.declared.params.Params.{Params}
use Rattle.hash.specs.declared.params.Unknown.{Unknown}
use Rattle.signature.specs.Checks.{attempts_allowed, sign_seeds_sized, sign_noise_good, sign_buffers_sized, message_sized, key_checks}
use Rattle.signature.specs.Digest.{mu_from}
pub use Rattle.signature.specs.Keys.{Key, packed, expanded}
use Rattle.signature.specs.Keys.{vk_seed, public_of, digest_of, shares_of}
use Rattle.signature.specs.Matrix.{matrix, filled}
use Rattle.signature.specs.Outcome.{Outcome, signing, refused_or, first_no, both, held_or, written, wiped, set_known, shares_known, found_in}
use Rattle.signature.specs.Sign.{Public, public_by, Coins, sign_from}

-- check 7
abbrev pub coins_good : Params → ℕ → Coins → Bool
coins_good p n T = pick T.explicit (sign_noise_good p n T.noise T.masks) (sign_seeds_sized p n T.noise T.masks)

-- 6 to 9, where n attempts are allowed
abbrev pub call_checks : Params → ℕ → List ℕ → Coins → List ℕ → List ℕ → List (ℕ × Bool)
call_checks p n msg T out work =
    (6, attempts_allowed n) ∷ (7, coins_good p n T) ∷ (8, sign_buffers_sized p out work) ∷ (9, message_sized msg) ∷ []

-- 1 to 10, the last of the matrix and of the share seeds; s is the look-up's answer and p the record found in it
abbrev pub sign_checks : Result Params Unknown → Params → Key → ℕ → List ℕ → Coins → List ℕ → List ℕ → List (ℕ × Bool)
sign_checks s p key n msg T out work =
    (1, set_known s)
    ∷ (2, shares_known s)
    ∷ key_checks p key
    ++ call_checks p n msg T out work
    ++ ((10, both (filled (matrix p (vk_seed p (public_of p key)))) (filled (shares_of p key))) ∷ [])

-- mu is of the key's digest: of a signing key its public key is hashed, of an expanded key what is lent stands for that hash (02, #102)
abbrev pub public_for : Params → List ℕ → List ℕ → List ℕ → List ℕ → Public
public_for p vk digest msg A = public_by p vk (mu_from p digest msg) A

-- behind them the attempts: 11 within each, 12 where none passes
abbrev pub attempts_of : Params → Key → ℕ → List ℕ → Coins → Outcome
attempts_of p key n msg T =
    sign_from p (public_for p (public_of p key) (digest_of p key) msg (held_or (matrix p (vk_seed p (public_of p key))) [])) T n 0 (held_or (shares_of p key) [])

-- the answer: a refusal, or what the attempts give
abbrev pub sign_by : Result Params Unknown → Params → Key → ℕ → List ℕ → Coins → List ℕ → List ℕ → Outcome
sign_by s p key n msg T out work = refused_or (first_no (sign_checks s p key n msg T out work)) (attempts_of p key n msg T)

unfoldable pub sign_of : Edition → ℕ → ℕ → Key → ℕ → List ℕ → Coins → List ℕ → List ℕ → Outcome
sign_of e set d key n msg T out work =
    let s = lookup_of set d e in
    sign_by s (found_in s) key n msg T out work

-- the answer A, and what is left in the buffers for the signature and for work
abbrev pub left_by : Outcome → List ℕ → List ℕ → Outcome
left_by A out work = signing A.status A.reported (written A.status A.bytes out) (wiped A.status work)

unfoldable pub sign_call : Edition → ℕ → ℕ → Key → ℕ → List ℕ → Coins → List ℕ → List ℕ → Outcome
sign_call e set d key n msg T out work = left_by (sign_of e set d key n msg T out work) out work
