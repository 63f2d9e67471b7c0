-- Steps (what the code leaves on its way; no call's contract reaches these): a signing call's checks before any step, the end of an
-- attempt as the code tells it, and what the attempts leave.
use Rattle.std.specs.Prelude.{◌≡◌, true, false, List, [], ◌++◌, ℕ, ◌*◌, ℤ, Ok}
use Rattle.std.proofs.Math.Option.{Option, some, none}
use Rattle.hash.specs.declared.params.Params.{Params}
use Rattle.ring.specs.Words.{q}
use Rattle.ring.specs.Round.{residues}
use Rattle.sharing.specs.Region.{span}
use Rattle.sharing.specs.declared.masks.MaskGen.{MaskGen}
use Rattle.signature.specs.AttemptSteps.{key_in, Begun, LastRow, hash_of}
use Rattle.signature.specs.Challenge.{chal_poly}
use Rattle.signature.specs.Checks.{key_checks}
use Rattle.signature.specs.Keys.{vk_seed, public_of, digest_of, shares_of}
use Rattle.signature.specs.Layout.{at_r}
use Rattle.signature.specs.Masked.{Noise, masked_image}
use Rattle.signature.specs.Matrix.{matrix}
use Rattle.signature.specs.Outcome.{Outcome, answer, first_no, written}
use Rattle.signature.specs.Sign.{Public, Attempted, made, over, stuck, dry, Coins, refreshed_key, refreshed_response, attempted, noise_at, mask_at, sign_from}
use Rattle.signature.specs.SignCalls.{Key, call_checks, public_for, sign_by, left_by}
use Rattle.signature.specs.declared.sign.AttemptEnd.{AttemptEnd}

-- checks 3 to 9, before any step
unfoldable pub sign_no : Params → Key → ℕ → List ℕ → Coins → List ℕ → List ℕ → ℕ
sign_no p key n msg T out work = first_no (key_checks p key ++ call_checks p n msg T out work)

-- behind them, of the matrix and the shares, if they fill: check 10, then the attempts
abbrev pub sign_made : Params → List ℕ → List ℕ → List ℕ → Coins → ℕ → Option (List ℕ) → Option (List ℕ) → Outcome
sign_made p vk digest msg T n none s = answer 10 0 []
sign_made p vk digest msg T n (some A) none = answer 10 0 []
sign_made p vk digest msg T n (some A) (some s) = sign_from p (public_for p vk digest msg A) T n 0 s

-- .. with what they leave in the buffers; and the whole, of a record that was found
abbrev pub signed_with : Params → Key → ℕ → List ℕ → Coins → List ℕ → List ℕ → Outcome
signed_with p key n msg T out work =
    left_by (sign_made p (public_of p key) (digest_of p key) msg T n (matrix p (vk_seed p (public_of p key))) (shares_of p key)) out work

abbrev pub signed_found : Params → Key → ℕ → List ℕ → Coins → List ℕ → List ℕ → Outcome
signed_found p key n msg T out work = left_by (sign_by (Ok p) p key n msg T out work) out work

-- what shares the work buffer ys holds behind a response: s refreshed, the shares of z, and those of the last row of w
pub record Spent (p : Params) (P : Public) (N : Noise) (g : MaskGen) (s ys : List ℕ) : Type 0 where
  pub key : key_in p ys ≡ (refreshed_key p N g P.matrix s).shares
  pub shares : (c : List ℤ) → chal_poly p (hash_of p N g P.matrix P.mu) ≡ some c
      → span ys (at_r p.l p.shares) (p.l * (p.shares * 512)) ≡ (refreshed_response p N g P.matrix s (residues q c)).shares
  pub row : LastRow p N g P.matrix ys

-- the end of an attempt as the code tells it: E is the definition's, xs and ys are the signature's buffer before and after
abbrev pub EndedBy : AttemptEnd → Attempted → List ℕ → List ℕ → Type 0
EndedBy AttemptEnd.Made E xs ys = E ≡ made ys
EndedBy AttemptEnd.Over E xs ys = (E ≡ over) × (ys ≡ xs)
EndedBy AttemptEnd.Stuck E xs ys = (E ≡ stuck) × (ys ≡ xs)
EndedBy AttemptEnd.Dry E xs ys = (E ≡ dry) × (ys ≡ xs)

-- .. and the shares that it leaves in the work buffer: without a response s is as it was, and r is in the transform domain; masks may run dry
-- before it or with it
abbrev pub HeldBy : AttemptEnd → Params → Public → Noise → MaskGen → List ℕ → List ℕ → Type 0
HeldBy AttemptEnd.Made p P N g s ys = Spent p P N g s ys
HeldBy AttemptEnd.Over p P N g s ys = Spent p P N g s ys
HeldBy AttemptEnd.Stuck p P N g s ys = Begun p N g s ys
HeldBy AttemptEnd.Dry p P N g s ys =
    ((masked_image p N g P.matrix).next.ok ≡ false → Begun p N g s ys) × ((masked_image p N g P.matrix).next.ok ≡ true → Spent p P N g s ys)

-- one attempt, as `attempted` has it: r is the end that it tells, work the work buffer behind it
pub record EndedAs (p : Params) (P : Public) (N : Noise) (g : MaskGen) (s : List ℕ) (r : AttemptEnd) (xs ys work : List ℕ) : Type 0 where
  pub told : EndedBy r (attempted p P N g s) xs ys
  pub held : HeldBy r p P N g s work

-- .. attempt number i + 1
abbrev pub EndedAt : Params → Public → Coins → ℕ → List ℕ → AttemptEnd → List ℕ → List ℕ → List ℕ → Type 0
EndedAt p P T i s r xs ys work = EndedAs p P (noise_at p T i) (mask_at T i) s r xs ys work

-- an answer with what the signature's buffer, out before, holds afterwards
abbrev pub answer_in : Outcome → List ℕ → Outcome
answer_in A out = answer A.status A.reported (written A.status A.bytes out)
