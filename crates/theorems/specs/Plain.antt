-- Plain signing: Algorithm 2 of paper 000 on sums. One secret instead of d shares, the totals of the noise instead of its shares, no masking.
-- From line 8 on it is the text of signing itself (`concluded`). Of the record of the parameter table it looks at nothing that depends on the
-- share count.
use Rattle.std.specs.Prelude.{Bool, List, [], ◌∷◌, ℕ, zero, suc}
use Rattle.std.proofs.Math.Option.{some}
use Rattle.hash.specs.declared.params.Params.{Params}
use Rattle.ring.specs.Words.{add_w}
use Rattle.ring.specs.Transform.{intt, mul}
use Rattle.sharing.specs.Blocks.{block, build, sum_of, total}
use Rattle.signature.specs.Checks.{expanded_bytes_sized, public_key_good, attempts_allowed, message_sized}
use Rattle.signature.specs.ExpandedKey.{vk_in, digest_in}
use Rattle.signature.specs.Keys.{vk_seed}
use Rattle.signature.specs.Masked.{Noise}
use Rattle.signature.specs.Matrix.{matrix, filled}
use Rattle.signature.specs.Outcome.{Outcome, answer, refused_or, first_no, held_or}
use Rattle.signature.specs.Recover.{product_row}
use Rattle.signature.specs.Sign.{Public, Attempted, concluded, ended}
use Rattle.signature.specs.SignCalls.{public_for}

-- the noise totals of an attempt (01): r, l polynomials, and what is added to A r, k polynomials
pub record Totals : Type 0 where
  pub first : List ℕ
  pub second : List ℕ

-- .. of a sharing's noise: the sum modulo q over repetitions and shares, polynomial by polynomial
abbrev pub noise_total : ℕ → ℕ → (ℕ → ℕ → List ℕ) → ℕ → List ℕ
noise_total d r f i = sum_of 512 r (λ (t : ℕ). total d (f i t))

unfoldable pub totals_of : Params → Noise → Totals
totals_of p N =
    record {
      first = build p.l (noise_total p.shares N.reps N.first);
      second = build p.k (noise_total p.shares N.reps N.second);
    }

-- lines 4 to 8: w = A r + its noise
unfoldable pub plain_commitment : Params → List ℕ → Totals → List ℕ
plain_commitment p A e = build p.k (λ (i : ℕ). add_w (product_row p.l A e.first i) (block 512 i e.second))

-- lines 12 to 16: z = c s + r; s is held in the transform domain
unfoldable pub plain_response : Params → List ℕ → Totals → List ℕ → List ℕ
plain_response p s e c = build p.l (λ (i : ℕ). add_w (mul c (intt (block 512 i s))) (block 512 i e.first))

-- no mask is drawn, so none can fail to fill
unfoldable pub plain_attempt : Params → Public → List ℕ → Totals → Attempted
plain_attempt p P s e = concluded p P (some (plain_commitment p P.matrix e)) (λ (c : List ℕ). some (plain_response p s e c))

-- `left` attempts from number a + 1, with the same secret s each time; e a are the totals of attempt number a + 1
unfoldable pub plain_from : Params → Public → (ℕ → Totals) → ℕ → ℕ → List ℕ → Outcome
plain_from p P e zero a s = answer 12 a []
plain_from p P e (suc left) a s = ended a (plain_attempt p P s (e a)) (plain_from p P e left (suc a) s)

-- ---- the call, of a record that was looked up (check 1) and of the bytes of an expanded key: checks 3 and 4 of them, 6, 9, 10. No check looks at
-- a share

abbrev pub plain_checks : Params → List ℕ → ℕ → List ℕ → List (ℕ × Bool)
plain_checks p bytes n msg =
    (3, expanded_bytes_sized p bytes)
    ∷ (4, public_key_good p (vk_in p bytes))
    ∷ (6, attempts_allowed n)
    ∷ (9, message_sized msg)
    ∷ (10, filled (matrix p (vk_seed p (vk_in p bytes))))
    ∷ []

-- what all attempts have from the bytes and the message
abbrev pub plain_public : Params → List ℕ → List ℕ → Public
plain_public p bytes msg = public_for p (vk_in p bytes) (digest_in p bytes) msg (held_or (matrix p (vk_seed p (vk_in p bytes))) [])

unfoldable pub sign_plain : Params → List ℕ → ℕ → List ℕ → List ℕ → (ℕ → Totals) → Outcome
sign_plain p bytes n msg s e = refused_or (first_no (plain_checks p bytes n msg)) (plain_from p (plain_public p bytes msg) e n 0 s)
