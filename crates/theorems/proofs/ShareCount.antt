-- Plain signing, and what signing does from line 9 on, look at nothing in the record that depends on the share count (set_of).
use mathlib.Core.Path.{◌≡◌, refl, sym, ap, ◌∙◌}
use mathlib.Core.List.{List, []}
use mathlib.Core.Option.{Option, some, none}
use Prim.Native.Nat.{ℕ, zero, suc}
use lib.IntN.{ℤ}
use lib.ListN.{take, drop}
use Rattle.hash.specs.declared.params.Params.{Params}
use Rattle.hash.proofs.Sets.{set_of}
use Rattle.ring.specs.Words.{q}
use Rattle.ring.specs.Round.{round_w, residues}
use Rattle.signature.specs.Challenge.{chal_hash, chal_poly}
use Rattle.signature.specs.Checks.{public_key_sized, public_key_good}
use Rattle.signature.specs.Digest.{key_hash, digest_for}
use Rattle.signature.specs.ExpandedKey.{ExpandedKey, vk_in, digest_in}
use Rattle.signature.specs.Form.{hash_bytes, write}
use Rattle.signature.specs.Keys.{vk_seed, vk_vector, DigestTrue}
use Rattle.signature.specs.Matrix.{matrix}
use Rattle.signature.specs.Outcome.{refused_or, first_no, held_or}
use Rattle.signature.specs.Recover.{recovered}
use Rattle.signature.specs.Sign.{Public, signed_fields, finished, responded, challenged, concluded}
use Rattle.signature.specs.SignCalls.{Key, public_for}
use Rattle.theorems.specs.Plain.{Totals, plain_commitment, plain_response, plain_attempt, plain_from, plain_checks, plain_public, sign_plain}

module _ (p : Params) where
  responded-set : (P : Public) (w hash : List ℕ) (c : List ℤ) (o : Option (List ℕ)) → responded p P w hash c o ≡ responded (set_of p) P w hash c o
  unfolding signed_fields finished recovered write
  responded-set P w hash c none = refl
  responded-set P w hash c (some z) = refl

  challenged-set : (P : Public) (w hash : List ℕ) (z : List ℕ → Option (List ℕ)) (o : Option (List ℤ))
      → challenged p P w hash z o ≡ challenged (set_of p) P w hash z o
  challenged-set P w hash z none = refl
  challenged-set P w hash z (some c) = responded-set P w hash c (z (residues q c))

  concluded-set : (P : Public) (w : Option (List ℕ)) (z : List ℕ → Option (List ℕ)) → concluded p P w z ≡ concluded (set_of p) P w z
  unfolding concluded chal_hash chal_poly
  concluded-set P none z = refl
  concluded-set P (some w) z = challenged-set P (round_w w) (chal_hash p (round_w w) P.mu) z (chal_poly p (chal_hash p (round_w w) P.mu))

  attempt-set : (P : Public) (s : List ℕ) (e : Totals) → plain_attempt p P s e ≡ plain_attempt (set_of p) P s e
  unfolding plain_attempt plain_commitment plain_response
  attempt-set P s e = concluded-set P (some (plain_commitment p P.matrix e)) (λ (c : List ℕ). some (plain_response p s e c))

  from-set : (P : Public) (e : ℕ → Totals) (left a : ℕ) (s : List ℕ) → plain_from p P e left a s ≡ plain_from (set_of p) P e left a s
  unfolding plain_from
  from-set P e zero a s = refl
  from-set P e (suc left) a s = cc (attempt-set P s (e a), from-set P e left (suc a) s)

  public-set : (vk digest msg A : List ℕ) → public_for p vk digest msg A ≡ public_for (set_of p) vk digest msg A
  unfolding vk_vector
  public-set vk digest msg A = refl

  matrix-set : (vk : List ℕ) → matrix p (vk_seed p vk) ≡ matrix (set_of p) (vk_seed (set_of p) vk)
  unfolding vk_seed
  matrix-set vk = refl

  -- checks 3 and 4 of a public key
  key_set : (vk : List ℕ) → (public_key_sized p vk ≡ public_key_sized (set_of p) vk) × (public_key_good p vk ≡ public_key_good (set_of p) vk)
  unfolding vk_vector
  key_set vk = (refl, refl)

  checks-set : (bytes : List ℕ) (n : ℕ) (msg : List ℕ) → first_no (plain_checks p bytes n msg) ≡ first_no (plain_checks (set_of p) bytes n msg)
  unfolding vk_vector vk_seed
  checks-set bytes n msg = refl

  sign_set : (bytes : List ℕ) (n : ℕ) (msg s : List ℕ) (e : ℕ → Totals) → sign_plain p bytes n msg s e ≡ sign_plain (set_of p) bytes n msg s e
  unfolding sign_plain
  sign_set bytes n msg s e =
      let vk = vk_in p bytes in
      let P : Public = plain_public p bytes msg in
      let same : P ≡ plain_public (set_of p) bytes msg =
      public-set vk (digest_in p bytes) msg (held_or (matrix p (vk_seed p vk)) [])
      ∙ ap (λ (m : Option (List ℕ)). public_for (set_of p) vk (digest_in p bytes) msg (held_or m [])) (matrix-set vk) in
      ap (λ (m : ℕ). refused_or m (plain_from p P e n 0 s)) (checks-set bytes n msg)
      ∙ ap (refused_or (first_no (plain_checks (set_of p) bytes n msg)))
      (from-set P e n 0 s ∙ ap (λ (X : Public). plain_from (set_of p) X e n 0 s) same)

-- of two records of one set
module _ (p r : Params) (h : set_of p ≡ set_of r) where
  pub k-same : p.k ≡ r.k
  k-same = ap (λ (x : Params). x.k) h

  pub l-same : p.l ≡ r.l
  l-same = ap (λ (x : Params). x.l) h

  pub concluded-same : (P : Public) (w : Option (List ℕ)) (z : List ℕ → Option (List ℕ)) → concluded p P w z ≡ concluded r P w z
  concluded-same P w z = concluded-set p P w z ∙ ap (λ (x : Params). concluded x P w z) h ∙ sym (concluded-set r P w z)

  pub hash-bytes-same : hash_bytes p ≡ hash_bytes r
  hash-bytes-same = ap (λ (x : Params). hash_bytes x) h

  pub vk-same : p.vk_bytes ≡ r.vk_bytes
  vk-same = ap (λ (x : Params). x.vk_bytes) h

  pub true_same : (K : ExpandedKey) → DigestTrue p (Key.expanded K) → DigestTrue r (Key.expanded K)
  true_same K t =
      ap (λ (n : ℕ). drop n K.bytes) (sym vk-same) ∙ t ∙ ap (λ (n : ℕ). key_hash n (vk_in p K.bytes)) hash-bytes-same
      ∙ ap (λ (n : ℕ). digest_for r (take n K.bytes)) vk-same

  pub public-same : (vk digest msg A : List ℕ) → public_for p vk digest msg A ≡ public_for r vk digest msg A
  public-same vk digest msg A = public-set p vk digest msg A ∙ ap (λ (x : Params). public_for x vk digest msg A) h ∙ sym (public-set r vk digest msg A)

  pub matrix-same : (vk : List ℕ) → matrix p (vk_seed p vk) ≡ matrix r (vk_seed r vk)
  matrix-same vk = matrix-set p vk ∙ ap (λ (x : Params). matrix x (vk_seed x vk)) h ∙ sym (matrix-set r vk)

  pub sized_same : (vk : List ℕ) → public_key_sized p vk ≡ public_key_sized r vk
  sized_same vk = (key_set p vk).0 ∙ ap (λ (x : Params). public_key_sized x vk) h ∙ sym (key_set r vk).0

  pub good-same : (vk : List ℕ) → public_key_good p vk ≡ public_key_good r vk
  good-same vk = (key_set p vk).1 ∙ ap (λ (x : Params). public_key_good x vk) h ∙ sym (key_set r vk).1

  pub plain-same : (bytes : List ℕ) (n : ℕ) (msg s : List ℕ) (e : ℕ → Totals) → sign_plain p bytes n msg s e ≡ sign_plain r bytes n msg s e
  plain-same bytes n msg s e = sign_set p bytes n msg s e ∙ ap (λ (x : Params). sign_plain x bytes n msg s e) h ∙ sym (sign_set r bytes n msg s e)
