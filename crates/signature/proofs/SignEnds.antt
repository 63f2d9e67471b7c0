-- The ends of a signing call: the bytes of either form of key, what is left behind the checks, and the call.
use mathlib.Core.Path.{◌≡◌, refl, sym, ap, ◌∙◌}
use mathlib.Core.Bool.{Bool, true, false}
use mathlib.Core.List.{List, [], ◌∷◌, ◌++◌}
use mathlib.Core.Option.{Option, some, none}
use Prim.Native.Nat.{ℕ, zero, suc, ◌-◌, ◌/◌, ◌≤◌, ◌<◌}
use native.Mathlib.Omega.{arith}
use borrow.Author.Tests.{le-leb, lt-leb}
use lib.Dec.{leb}
use lib.ListN.{length, take}
use lib.Seq.{length-take-le}
use Rattle.hash.specs.Lists.{zeros, pick}
use Rattle.hash.specs.Params.{lookup_of, refusal_of}
use Rattle.hash.specs.Refusal.{number_of}
use Rattle.hash.specs.declared.params.Edition.{Edition}
use Rattle.hash.specs.declared.params.Params.{Params}
use Rattle.std.specs.Prelude.{Ok, Err}
use Rattle.hash.specs.declared.params.Unknown.{Unknown}
use Rattle.signature.specs.AttemptSteps.{key_lent, key_bytes, BytesHeld}
use Rattle.signature.specs.Checks.{both, key_sized, key_checks}
use Rattle.signature.specs.Keys.{vk_seed, public_of, digest_of, shares_of}
use Rattle.signature.specs.Matrix.{matrix, filled}
use Rattle.signature.specs.Sign.{Public, Attempted, made, over, stuck, dry, Coins, ended, refreshed_key, attempted, noise_at, mask_at, sign_from}
use Rattle.signature.specs.Outcome.{Outcome, signing, answer, refused_or, wiped, first_no, held_or}
use Rattle.signature.specs.SignCalls.{Key, call_checks, public_for, attempts_of, sign_by, left_by, sign_call, sign_of}
use Rattle.signature.specs.SignSteps.{sign_no, sign_made, answer_in}
use Rattle.signature.specs.Table.{Tabled}
use Rattle.signature.specs.declared.lent.LentKey.{LentKey}
use Rattle.signature.proofs.Digests.{public-is, public-held}
use Rattle.ring.proofs.Checks.{both_yes, right-no, no-before, yes-before}
use Rattle.ring.proofs.Filled.{not-filled}
use Rattle.signature.proofs.Loads.{packed-long, expanded-long}
use Rattle.signature.proofs.Expanded.{vk-in}

-- ---- what a key of either form that passed check 3 holds

module _ (p : Params) (h : Tabled p) where
  pub bytes-held : (K : LentKey) → key_sized p (key_lent K) ≡ true → BytesHeld p K
  bytes-held (LentKey.Signing key) s = vk-in p h key.now (packed-long p key.now s)
  bytes-held (LentKey.Expanded bytes words) s = (expanded-long p bytes.now words.now s).0

  pub public-in : (K : LentKey) → key_sized p (key_lent K) ≡ true → p.vk_bytes ≤ length (key_bytes K)
  public-in K s = public-held p K (bytes-held K s)

  pub public-long : (K : LentKey) → key_sized p (key_lent K) ≡ true → length (public_of p (key_lent K)) ≡ p.vk_bytes
  public-long K s = ap (λ (l : List ℕ). length l) (public-is p K) ∙ length-take-le p.vk_bytes (key_bytes K) (public-in K s)

-- the matrix seed is the front of the public key
pub seed-front : (p : Params) (vk : List ℕ) → take (p.kappa / 8 - 0) vk ≡ vk_seed p vk
unfolding vk_seed
seed-front p vk = let e : p.kappa / 8 - 0 ≡ p.kappa / 8 = omega arith in ap (λ (n : ℕ). take n vk) e

-- ---- the attempts end with 0, 10, 11, 12 or 20

-- from 1 to 8: the work buffer is then as it was
abbrev early : Outcome → Bool
early A = both (leb 1 A.status) (leb A.status 8)

ended-late : (a : ℕ) (X : Attempted) (later : Outcome) → early later ≡ false → early (ended a X later) ≡ false
ended-late a (made b) later h = refl
ended-late a over later h = h
ended-late a stuck later h = refl
ended-late a dry later h = refl

from-late : (p : Params) (P : Public) (T : Coins) (n a : ℕ) (s : List ℕ) → early (sign_from p P T n a s) ≡ false
unfolding sign_from
from-late p P T zero a s = refl
from-late p P T (suc n) a s =
    ended-late a (attempted p P (noise_at p T a) (mask_at T a) s) (sign_from p P T n (suc a) (refreshed_key p (noise_at p T a) (mask_at T a) P.matrix s).shares)
    (from-late p P T n (suc a) (refreshed_key p (noise_at p T a) (mask_at T a) P.matrix s).shares)

module _ (p : Params) (vk digest msg : List ℕ) (T : Coins) (n : ℕ) where
  made-late : (m s : Option (List ℕ)) → early (sign_made p vk digest msg T n m s) ≡ false
  made-late none s = refl
  made-late (some A) none = refl
  made-late (some A) (some s) = from-late p (public_for p vk digest msg A) T n 0 s

  no-shares : (m : Option (List ℕ)) → sign_made p vk digest msg T n m none ≡ answer 10 0 []
  no-shares none = refl
  no-shares (some A) = refl

-- ---- behind the checks: out and work are the buffers before, w the work buffer where it is cleared

module _ (p : Params) (key : Key) (msg : List ℕ) (T : Coins) (n : ℕ) (out work w : List ℕ) (long : length w ≡ length work) where
  abbrev front : List ℕ
  front = public_of p key

  -- what is signed with it, with the matrix and the shares that are there
  abbrev ends : Outcome
  ends = sign_made p front (digest_of p key) msg T n (matrix p (vk_seed p front)) (shares_of p key)

  -- check 10, the share seeds: x and a are what `reported` gives
  pub end-unfilled : filled (shares_of p key) ≡ false → (x a : ℕ) → x ≡ 10 → a ≡ 0
      → signing x a out (zeros (length w)) ≡ left_by ends out work
  end-unfilled f x a ex ea =
      let M = matrix p (vk_seed p front) in
      let e = ap (sign_made p front (digest_of p key) msg T n M) (not-filled (shares_of p key) f) ∙ no-shares p front (digest_of p key) msg T n M in
      ap (λ (k : ℕ). signing k a out (zeros (length w))) ex ∙ ap (λ (k : ℕ). signing 10 k out (zeros (length w))) ea
      ∙ ap (λ (k : ℕ). signing 10 0 out (zeros k)) long ∙ ap (λ (A : Outcome). left_by A out work) (sym e)

  cleared-late : (A : Outcome) → early A ≡ false → zeros (length w) ≡ wiped A.status work
  cleared-late A e = ap (λ (k : ℕ). zeros k) long ∙ ap (λ (b : Bool). pick b work (zeros (length work))) (sym e)

  kept-left : (A : Outcome) → early A ≡ false → (st at : ℕ) (ys : List ℕ) → answer st at ys ≡ answer_in A out → signing st at ys (zeros (length w)) ≡ left_by A out work
  kept-left A e st at ys h =
      ap (λ (B : Outcome). signing B.status B.reported B.bytes (zeros (length w))) h
      ∙ ap (signing (answer_in A out).status (answer_in A out).reported (answer_in A out).bytes) (cleared-late A e)

  -- the shares X were loaded, and the attempts made with the public key vk and the digest dg
  pub end-made : (vk dg X : List ℕ) → vk ≡ front → dg ≡ digest_of p key → shares_of p key ≡ some X → (st at : ℕ) (ys : List ℕ)
      → answer st at ys ≡ answer_in (sign_made p vk dg msg T n (matrix p (vk_seed p vk)) (some X)) out → signing st at ys (zeros (length w)) ≡ left_by ends out work
  end-made vk dg X ev ed es st at ys h =
      let e : sign_made p vk dg msg T n (matrix p (vk_seed p vk)) (some X) ≡ ends =
      ap (λ (v : List ℕ). sign_made p v dg msg T n (matrix p (vk_seed p v)) (some X)) ev
      ∙ ap (λ (x : List ℕ). sign_made p front x msg T n (matrix p (vk_seed p front)) (some X)) ed
      ∙ ap (sign_made p front (digest_of p key) msg T n (matrix p (vk_seed p front))) (sym es) in
      kept-left ends (made-late p front (digest_of p key) msg T n (matrix p (vk_seed p front)) (shares_of p key)) st at ys
      (h ∙ ap (λ (A : Outcome). answer_in A out) e)

-- ---- the call

-- check 10 and the attempts are the call's end behind its other checks
pub made-is : (p : Params) (vk digest msg : List ℕ) (T : Coins) (n : ℕ) (m s : Option (List ℕ))
    → sign_made p vk digest msg T n m s
    ≡ refused_or (first_no ((10, both (filled m) (filled s)) ∷ [])) (sign_from p (public_for p vk digest msg (held_or m [])) T n 0 (held_or s []))
unfolding filled
made-is p vk digest msg T n none s = refl
made-is p vk digest msg T n (some A) none = refl
made-is p vk digest msg T n (some A) (some s) = refl

module _ (p : Params) (key : Key) (n : ℕ) (msg : List ℕ) (T : Coins) (out work : List ℕ) (k : ℕ) (f : k ≡ sign_no p key n msg T out work) where
  abbrev found : Outcome
  found = left_by (sign_by (Ok p) p key n msg T out work) out work

  abbrev last : List (ℕ × Bool)
  last = (10, both (filled (matrix p (vk_seed p (public_of p key)))) (filled (shares_of p key))) ∷ []

  pub found-on : k ≡ 0 → left_by (sign_made p (public_of p key) (digest_of p key) msg T n (matrix p (vk_seed p (public_of p key))) (shares_of p key)) out work ≡ found
  unfolding sign_no
  found-on z =
      ap (λ (A : Outcome). left_by A out work)
      (made-is p (public_of p key) (digest_of p key) msg T n (matrix p (vk_seed p (public_of p key))) (shares_of p key)
      ∙ ap (λ (m : ℕ). refused_or m (attempts_of p key n msg T))
      (sym (yes-before (key_checks p key ++ call_checks p n msg T out work) last refl (sym f ∙ z))))

  module _ (no : k ≡ 0 → ⊥) where
    -- k is not 0
    above : (m : ℕ) → (m ≡ 0 → ⊥) → (1 ≤ m) × (signing m 0 out (wiped m work) ≡ left_by (refused_or m (attempts_of p key n msg T)) out work)
    above zero z = absurd (z refl)
    above (suc m) z = (omega arith, refl)

    refused : signing k 0 out (wiped k work) ≡ found
    unfolding sign_no
    refused =
        (above k no).1
        ∙ ap (λ (m : ℕ). left_by (refused_or m (attempts_of p key n msg T)) out work) (no-before (key_checks p key ++ call_checks p n msg T out work) last k f no)

    pub found-refused : k ≤ 8 → signing k 0 out work ≡ found
    found-refused m =
        ap (λ (b : Bool). signing k 0 out (pick b work (zeros (length work)))) (sym (both_yes (le-leb 1 k (above k no).0) (le-leb k 8 m))) ∙ refused

    -- check 9
    pub found-cleared : 8 < k → signing k 0 out (zeros (length work)) ≡ found
    found-cleared m = ap (λ (b : Bool). signing k 0 out (pick b work (zeros (length work)))) (sym (right-no (leb 1 k) (lt-leb k 8 m))) ∙ refused

module _ (e : Edition) (set d : ℕ) (key : Key) (n : ℕ) (msg : List ℕ) (T : Coins) (out work : List ℕ) where
  pub sign-unknown : (u : Unknown) → lookup_of set d e ≡ Err u → signing (number_of (refusal_of u)) 0 out work ≡ sign_call e set d key n msg T out work
  unfolding sign_call sign_of
  sign-unknown Unknown.Set h = rw h refl
  sign-unknown Unknown.Shares h = rw h refl

  pub sign-on : (p : Params) → lookup_of set d e ≡ Ok p
      → left_by (sign_by (Ok p) p key n msg T out work) out work ≡ sign_call e set d key n msg T out work
  unfolding sign_call sign_of
  sign-on p h = rw h refl
