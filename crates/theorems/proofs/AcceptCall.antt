-- The verifier accepts what a signing call answers with 0, of a signing key as of an expanded key. Nothing is supposed but the 0 and that the
-- digest is true, which a signing key's always is.
use mathlib.Core.Path.{◌≡◌, refl, sym, ap, subst, ◌∙◌}
use mathlib.Core.Bool.{true}
use mathlib.Core.List.{List, []}
use mathlib.Core.Option.{some}
use Prim.Native.Nat.{ℕ, zero, suc}
use native.Mathlib.Omega.{arith}
use borrow.Author.Tests.{eqb-true, eq-eqb}
use lib.ListN.{length, take}
use lib.Seq.{length-take-le}
use Rattle.hash.specs.Params.{lookup_of}
use Rattle.hash.specs.declared.params.Edition.{Edition}
use Rattle.hash.specs.declared.params.Params.{Params}
use Rattle.std.specs.Prelude.{Result, Ok, Err}
use Rattle.hash.specs.declared.params.Unknown.{Unknown}
use Rattle.hash.proofs.Rows.{order-count, Rule, found}
use Rattle.hash.proofs.Sets.{Beside, beside}
use Rattle.ring.proofs.Checks.{both_true}
use Rattle.ring.proofs.Filled.{filled-held}
use Rattle.signature.specs.Checks.{first_no, public_key_sized, expanded_bytes_sized, key_sized}
use Rattle.signature.specs.Digest.{digest_for}
use Rattle.signature.specs.ExpandedKey.{expanded_bytes}
use Rattle.signature.specs.Keys.{vk_seed, public_of, shares_of, DigestTrue}
use Rattle.signature.specs.Matrix.{matrix, filled}
use Rattle.signature.specs.Outcome.{Outcome, refused_or, held_or, found_in}
use Rattle.signature.specs.Sign.{Coins, sign_from}
use Rattle.signature.specs.SignCalls.{Key, sign_checks, public_for, attempts_of, sign_by, sign_of}
use Rattle.signature.specs.SignCalls.Key.{packed, expanded}
use Rattle.signature.specs.Verify.{verify_call}
use Rattle.signature.proofs.SignChecks.{AllPassed, all_yes}
use Rattle.signature.proofs.Verified.{verify-found}
use Rattle.theorems.proofs.ShareCount.{matrix-same, sized_same, good-same}
use Rattle.theorems.proofs.Accept.{Good, verify-good, from-good}

-- the public key of a key that passed check 3 passes it
sized-public : (p : Params) → Rule p → (key : Key) → key_sized p key ≡ true → public_key_sized p (public_of p key) ≡ true
sized-public p r (packed key) e =
    let l : length key ≡ p.sk_bytes = eqb-true (length key) p.sk_bytes e in
    eq-eqb (length (take p.vk_bytes key)) p.vk_bytes (length-take-le p.vk_bytes key (omega (arith, r.sk)))
sized-public p r (expanded K) e =
    let l = eqb-true (length K.bytes) (expanded_bytes p) (both_true (expanded_bytes_sized p K.bytes) _ e).0 in
    eq-eqb (length (take p.vk_bytes K.bytes)) p.vk_bytes (length-take-le p.vk_bytes K.bytes (omega (arith, l)))

-- ---- the call

-- an answer with status 0 is no refusal
pub not-refused : (m : ℕ) (A : Outcome) → (refused_or m A).status ≡ 0 → (m ≡ 0) × (refused_or m A ≡ A)
not-refused zero A h = (refl, refl)
not-refused (suc m) A h = absurd (omega (arith, h))

module _ (e : Edition) (set d : ℕ) (p : Params) (is : lookup_of set d e ≡ Ok p) where
  one : Beside set 1 e p
  one = beside set d 1 e p is (order-count 1 (omega arith))

  attempts-accepted : (key : Key) (n : ℕ) (msg : List ℕ) (T : Coins) (out work : List ℕ) → DigestTrue p key → AllPassed p key n msg T out work
      → filled (matrix p (vk_seed p (public_of p key))) ≡ true → (attempts_of p key n msg T).status ≡ 0
      → verify_call e set (public_of p key) msg (attempts_of p key n msg T).bytes ≡ 0
  attempts-accepted key n msg T out work t a f h =
      let vk = public_of p key in
      let A = held_or (matrix p (vk_seed p vk)) [] in
      let r = one.other in
      let m : matrix r (vk_seed r vk) ≡ some A = sym (matrix-same p r one.same vk) ∙ filled-held (matrix p (vk_seed p vk)) f in
      let s = held_or (shares_of p key) [] in
      let bound : attempts_of p key n msg T ≡ sign_from p (public_for p vk (digest_for p vk) msg A) T n 0 s = ap (λ (x : List ℕ). sign_from p (public_for p vk x msg A) T n 0 s) t in
      sym (verify-found e set vk msg (attempts_of p key n msg T).bytes r one.is)
      ∙ verify-good r vk msg A m (attempts_of p key n msg T).bytes
      (sym (sized_same p r one.same vk) ∙ sized-public p (found set d e p is).rule key a.sized) (sym (good-same p r one.same vk) ∙ a.good) a.message
      (subst (λ (x : Outcome). Good r vk msg A m x.bytes) (sym bound)
      (from-good p r one.same vk msg A m T n 0 s (ap (λ (x : Outcome). x.status) (sym bound) ∙ h)))

  pub known-accepted : (key : Key) (n : ℕ) (msg : List ℕ) (T : Coins) (out work : List ℕ) → DigestTrue p key → (sign_of e set d key n msg T out work).status ≡ 0
      → verify_call e set (public_of p key) msg (sign_of e set d key n msg T out work).bytes ≡ 0
  unfolding sign_of
  known-accepted key n msg T out work t h =
      let A = attempts_of p key n msg T in
      let f : sign_by (lookup_of set d e) (found_in (lookup_of set d e)) key n msg T out work ≡ sign_by (Ok p) p key n msg T out work =
      ap (λ (s : Result Params Unknown). sign_by s (found_in s) key n msg T out work) is in
      let z = not-refused (first_no (sign_checks (Ok p) p key n msg T out work)) A (ap (λ (x : Outcome). x.status) (sym f) ∙ h) in
      let a = all_yes p key n msg T out work z.0 in
      ap (λ (x : Outcome). verify_call e set (public_of p key) msg x.bytes) (f ∙ z.1)
      ∙ attempts-accepted key n msg T out work t a.0 a.1
      (ap (λ (x : Outcome). x.status) (sym (f ∙ z.1)) ∙ h)

-- with status 0 the set and the share count were found
pub found-with : (e : Edition) (set d : ℕ) (key : Key) (n : ℕ) (msg : List ℕ) (T : Coins) (out work : List ℕ)
    → (sign_of e set d key n msg T out work).status ≡ 0 → (p : Params) × (lookup_of set d e ≡ Ok p)
unfolding sign_of
found-with e set d key n msg T out work h = go (lookup_of set d e) refl h
  where
    go : (s : Result Params Unknown) → lookup_of set d e ≡ s → (sign_by s (found_in s) key n msg T out work).status ≡ 0 → (p : Params) × (lookup_of set d e ≡ Ok p)
    go (Err Unknown.Set) i h = absurd (omega arith)
    go (Err Unknown.Shares) i h = absurd (omega arith)
    go (Ok p) i h = (p, i)
