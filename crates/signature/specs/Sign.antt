-- Signing (000, Algorithm 2) on all d shares: each step gives every share, and only commitment and response are added up.
use Rattle.std.specs.Prelude.{Bool, true, false, List, [], ℕ, zero, suc, ◌+◌, ◌*◌, ℤ}
use Rattle.std.proofs.Math.Option.{Option, some, none}
use Rattle.hash.specs.Lists.{pick}
use Rattle.hash.specs.declared.params.Params.{Params}
use Rattle.ring.specs.Words.{q, add_w}
use Rattle.ring.specs.Transform.{intt, mul}
use Rattle.ring.specs.Round.{round_w, residues}
use Rattle.sharing.specs.Blocks.{block, build, each}
use Rattle.sharing.specs.Masks.{mask_start}
use Rattle.sharing.specs.Noise.{noise_bytes}
use Rattle.sharing.specs.declared.masks.MaskGen.{MaskGen}
use Rattle.signature.specs.Bounds.{check_bounds}
use Rattle.signature.specs.Challenge.{chal_hash, chal_poly}
use Rattle.signature.specs.Form.{Fields, write}
use Rattle.signature.specs.Keys.{vk_vector}
use Rattle.signature.specs.Masked.{Noise, Step, onward, decoded, refresh, seeded, explicit, masked_noise, masked_image}
use Rattle.signature.specs.Outcome.{Outcome, answer}
use Rattle.signature.specs.Recover.{recovered, hint_of, centred_all}

-- what all attempts have from the key and the message: the matrix, t and mu (lines 1 to 3)
pub record Public : Type 0 where
  pub matrix : List ℕ
  pub vector : List ℕ
  pub mu : List ℕ

abbrev pub public_by : Params → List ℕ → List ℕ → List ℕ → Public
public_by p vk mu A = record { matrix = A; vector = vk_vector p vk; mu = mu }

-- the end of an attempt (01: try): a signature; over the bounds or too long; a challenge that did not fill; masks that did not (02, #105)
pub data Attempted : Type 0 where
  made : List ℕ → Attempted
  over : Attempted
  stuck : Attempted
  dry : Attempted

-- ---- lines 8 to 20, from the sums of the shares: w and z, none where a mask drawn up to there did not fill (check 20)

-- lines 17 to 19: of the rounded w, the challenge hash, z and the challenge polynomial
unfoldable pub signed_fields : Params → Public → List ℕ → List ℕ → List ℕ → List ℤ → Fields
signed_fields p P w hash z c =
    record {
      hash = hash;
      hint = hint_of w (recovered p P.matrix z (residues q c) P.vector);
      response = centred_all q z;
    }

-- line 20, check 12 of one attempt: the bounds, and the length, which the writer looks at
abbrev pub wrote : Option (List ℕ) → Attempted
wrote none = over
wrote (some b) = made b

unfoldable pub finished : Params → Fields → Attempted
finished p f = pick (check_bounds p f) (wrote (write p f)) over

-- line 16, check 20 of the masks of lines 12, 13 and 15, and what follows
abbrev pub responded : Params → Public → List ℕ → List ℕ → List ℤ → Option (List ℕ) → Attempted
responded p P w hash c none = dry
responded p P w hash c (some z) = finished p (signed_fields p P w hash z c)

-- line 11, check 11, and what follows; z is the response to each challenge polynomial
abbrev pub challenged : Params → Public → List ℕ → List ℕ → (List ℕ → Option (List ℕ)) → Option (List ℤ) → Attempted
challenged p P w hash z none = stuck
challenged p P w hash z (some c) = responded p P w hash c (z (residues q c))

-- lines 9 and 10, and what follows
abbrev hashed : Params → Public → List ℕ → List ℕ → (List ℕ → Option (List ℕ)) → Attempted
hashed p P w hash z = challenged p P w hash z (chal_poly p hash)

-- line 8, check 20 of the masks of lines 4, 5 and 7, and what follows
unfoldable pub concluded : Params → Public → Option (List ℕ) → (List ℕ → Option (List ℕ)) → Attempted
concluded p P none z = dry
concluded p P (some w) z = hashed p P (round_w w) (chal_hash p (round_w w) P.mu) z

-- ---- lines 4 to 16, share by share. N is the noise of the attempt, g the generator that it begins with, A the matrix, s the key's shares

-- line 14: c s + r; s is held in the transform domain
unfoldable pub masked_response : ℕ → ℕ → List ℕ → List ℕ → List ℕ → List ℕ
masked_response d l c s r = build l (λ (i : ℕ). add_w (each d (λ (x : List ℕ). mul c (intt x)) (block (d * 512) i s)) (block (d * 512) i r))

-- line 12, which is also the key that the next attempt begins with; line 13; lines 14 and 15, of the challenge polynomial c. Lines 4 and 5, 6 and
-- 7 are masked_noise, masked_image
unfoldable pub refreshed_key : Params → Noise → MaskGen → List ℕ → List ℕ → Step
refreshed_key p N g A s = refresh p.shares p.l (onward (masked_image p N g A) s)

unfoldable pub refreshed_noise : Params → Noise → MaskGen → List ℕ → List ℕ → Step
refreshed_noise p N g A s = refresh p.shares p.l (onward (refreshed_key p N g A s) (masked_noise p N g).shares)

unfoldable pub refreshed_response : Params → Noise → MaskGen → List ℕ → List ℕ → List ℕ → Step
refreshed_response p N g A s c =
    refresh p.shares p.l
    (onward (refreshed_noise p N g A s)
    (masked_response p.shares p.l c (refreshed_key p N g A s).shares (refreshed_noise p N g A s).shares))

-- one attempt, with the key's shares s: only the commitment (line 8) and the response (line 16) are added up
unfoldable pub attempted : Params → Public → Noise → MaskGen → List ℕ → Attempted
attempted p P N g s =
    concluded p P (decoded p.k p.shares (masked_image p N g P.matrix))
    (λ (c : List ℕ). decoded p.l p.shares (refreshed_response p N g P.matrix s c))

-- ---- the attempts

-- what each attempt draws on (01: tapes): from seeds or explicit, the noise of all attempts, and the mask seeds of all attempts
pub record Coins : Type 0 where
  pub explicit : Bool
  pub noise : List ℕ
  pub masks : List ℕ

abbrev pub from_seeds : List ℕ → List ℕ → Coins
from_seeds noise masks = record { explicit = false; noise = noise; masks = masks }

abbrev pub from_noise : List ℕ → List ℕ → Coins
from_noise noise masks = record { explicit = true; noise = noise; masks = masks }

-- one attempt's part of the noise, in bytes or in words
abbrev pub noise_size : Params → Bool → ℕ
noise_size p true = (p.l + p.k) * p.shares * 512
noise_size p false = noise_bytes p

abbrev pub noise_from : Params → Bool → List ℕ → Noise
noise_from p true part = explicit p part
noise_from p false part = seeded p p.uw part

unfoldable pub noise_at : Params → Coins → ℕ → Noise
noise_at p T a = noise_from p T.explicit (block (noise_size p T.explicit) a T.noise)

unfoldable pub mask_at : Coins → ℕ → MaskGen
mask_at T a = mask_start (block 32 a T.masks)

-- the end of attempt number a + 1, or what the later ones give
abbrev pub ended : ℕ → Attempted → Outcome → Outcome
ended a (made b) later = answer 0 (suc a) b
ended a over later = later
ended a stuck later = answer 11 (suc a) []
ended a dry later = answer 20 (suc a) []

-- `left` attempts in the order of the coins, from number a + 1, with the key's shares s; 12 where none passes
unfoldable pub sign_from : Params → Public → Coins → ℕ → ℕ → List ℕ → Outcome
sign_from p P T zero a s = answer 12 a []
sign_from p P T (suc left) a s =
    ended a (attempted p P (noise_at p T a) (mask_at T a) s) (sign_from p P T left (suc a) (refreshed_key p (noise_at p T a) (mask_at T a) P.matrix s).shares)
