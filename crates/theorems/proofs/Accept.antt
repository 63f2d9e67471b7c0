-- The verifier accepts what signing makes, with a signing key or an expanded key, from seeds or with explicit noise: the fields are read back as
-- they were written, the response is the one that was added up, and y + h is the rounded commitment, so the challenge hash comes out again.
use mathlib.Core.Path.{◌≡◌, refl, sym, ap, ◌∙◌, subst}
use mathlib.Core.Bool.{Bool, true, false}
use mathlib.Core.List.{List}
use mathlib.Core.Option.{Option, some, none}
use Prim.Native.Nat.{ℕ, zero, suc, ◌+◌, ◌*◌, ◌/◌, ◌<◌}
use native.Mathlib.Omega.{arith}
use borrow.Author.Tests.{eq-eqb}
use lib.Dec.{eqb}
use lib.IntN.{ℤ}
use lib.ListN.{length}
use Rattle.hash.specs.Lists.{pick}
use Rattle.hash.specs.declared.params.Params.{Params}
use Rattle.std.specs.Prelude.{Ok}
use Rattle.hash.proofs.Output.{output-length, output-bytes}
use Rattle.hash.proofs.Sets.{set_of}
use Rattle.ring.specs.Words.{q, subq, Words}
use Rattle.ring.specs.Transform.{mul}
use Rattle.ring.specs.Round.{rounded, round_w, scaled_t, residues}
use Rattle.ring.proofs.Mapped.{length-map}
use Rattle.ring.proofs.Sums.{length-zip}
use Rattle.sharing.specs.Blocks.{block, totals}
use Rattle.sharing.specs.declared.masks.MaskGen.{MaskGen}
use Rattle.sharing.proofs.Decode.{words-sum, totals-words}
use Rattle.sharing.proofs.Lists.{length-build}
use Rattle.signature.specs.Bounds.{check_bounds}
use Rattle.signature.specs.Challenge.{chal_hash, chal_poly}
use Rattle.signature.specs.Checks.{first_no, public_key_sized, public_key_good, message_sized, proper_form, hash_equal}
use Rattle.signature.specs.Digest.{key_hash, digest_for}
use Rattle.signature.specs.Form.{Fields, write, read}
use Rattle.signature.specs.Keys.{vk_seed}
use Rattle.signature.specs.Masked.{Noise, decoded, masked_image}
use Rattle.signature.specs.Matrix.{matrix, filled}
use Rattle.signature.specs.Outcome.{Outcome}
use Rattle.signature.specs.Recover.{product_row, recovered_row, recovered, hint_of, adjusted}
use Rattle.signature.specs.Sign.{Public, Attempted, Coins, signed_fields, wrote, finished, responded, challenged, concluded, refreshed_key, refreshed_response, attempted, noise_at, mask_at, ended, sign_from}
use Rattle.signature.specs.Sign.Attempted.{made, over, stuck, dry}
use Rattle.signature.specs.SignCalls.{public_for}
use Rattle.signature.specs.Verify.{recomputed, fields_in, verify_checks}
use Rattle.signature.specs.VerifySteps.{field_checks}
use Rattle.signature.proofs.Canonical.{Sized, write_read, write-length}
use Rattle.signature.proofs.Centred.{length-centred}
use Rattle.signature.proofs.SameBytes.{same_refl}
use Rattle.theorems.proofs.ShareCount.{k-same, l-same, hash-bytes-same, concluded-same, public-same}
use Rattle.theorems.proofs.Dry.{picked-some}
use Rattle.theorems.proofs.Hint.{residues-centred, length-hint, hint-back}

-- k rows of 512 words
recovered-long : (p : Params) (A z c t : List ℕ) → length (recovered p A z c t) ≡ p.k * 512
unfolding recovered recovered_row product_row
recovered-long p A z c t =
    length-build 512 p.k (recovered_row p.l A z c t)
    (λ (i : ℕ) (h : i < p.k).
    length-zip subq (product_row p.l A z i) (mul c (scaled_t (block 512 i t)))
    ∙ (words-sum 512 p.l (λ (m : ℕ). mul (block 512 (i * p.l + m) A) (block 512 m z))).long)

module _ (p : Params) (vk msg A : List ℕ) (e_a : matrix p (vk_seed p vk) ≡ some A) where
  abbrev P : Public
  P = public_for p vk (digest_for p vk) msg A

  -- ---- what the verifier makes of fields that the signer made

  module _ (w z : List ℕ) (c : List ℤ) (lw : length w ≡ p.k * 512) (wz : Words (p.l * 512) z) where
    abbrev hash : List ℕ
    hash = chal_hash p (round_w w) P.mu

    abbrev fields : Fields
    fields = signed_fields p P (round_w w) hash z c

    abbrev y : List ℕ
    y = recovered p A z (residues q c) P.vector

    sized : Sized p fields
    unfolding signed_fields chal_hash
    sized =
        record {
          hash-long = output-length _ (p.kappa / 4);
          hash-bytes = output-bytes _ (p.kappa / 4);
          hint-long = length-hint (round_w w) y ∙ length-map (rounded 44 31) w ∙ lw;
          response-long = length-centred q z ∙ wz.long;
        }

    hash-back : recomputed p A P.vector P.mu fields c ≡ fields.hash
    unfolding recomputed signed_fields
    hash-back =
        ap (λ (x : List ℕ). chal_hash p (adjusted (recovered p A x (residues q c) P.vector) (hint_of (round_w w) y)) P.mu) (residues-centred z wz.low)
        ∙ ap (λ (x : List ℕ). chal_hash p x P.mu) (hint-back w y (lw ∙ sym (recovered-long p A z (residues q c) P.vector)))

    hash-good : hash_equal fields (recomputed p A P.vector P.mu fields c) ≡ true
    hash-good = rw (hash-back, same_refl fields.hash) refl

    hash-is : (x : List ℤ) → chal_poly p hash ≡ some x → chal_poly p fields.hash ≡ some x
    unfolding signed_fields
    hash-is x e = e

    fields-good : (b : List ℕ) → chal_poly p hash ≡ some c → check_bounds p fields ≡ true → write p fields ≡ some b
        → (proper_form p b ≡ true) × (first_no (field_checks p vk msg (fields_in (read p b))) ≡ 0)
    unfolding proper_form filled
    fields-good b ec eb ew =
        let r : read p b ≡ some fields = write_read p fields b sized ew in
        let ch : chal_poly p fields.hash ≡ some c = hash-is c ec in
        (rw (r, ew) (same_refl b), rw (r, eb, e_a, ch, hash-good) refl)

  -- ---- what a signature is to be

  pub record Good (b : List ℕ) : Type 0 where
    pub long : length b ≡ p.sig_bytes
    pub form : proper_form p b ≡ true
    pub fields : first_no (field_checks p vk msg (fields_in (read p b))) ≡ 0

  pick-made : (t : Bool) (x : Attempted) (b : List ℕ) → pick t x over ≡ made b → (t ≡ true) × (x ≡ made b)
  pick-made true x b e = (refl, e)
  pick-made false x b e = let z : ◌≡◌ {A = ℕ} 0 1 = cc in absurd (omega arith)

  wrote-made : (o : Option (List ℕ)) (b : List ℕ) → wrote o ≡ made b → o ≡ some b
  wrote-made none b e = let z : ◌≡◌ {A = ℕ} 0 1 = cc in absurd (omega arith)
  wrote-made (some x) b e = cc

  module _ (z : List ℕ → Option (List ℕ)) (wz : (c x : List ℕ) → z c ≡ some x → Words (p.l * 512) x) (b : List ℕ) where
    module _ (w : List ℕ) (lw : length w ≡ p.k * 512) where
      responded-good : (c : List ℤ) (o : Option (List ℕ)) → z (residues q c) ≡ o → chal_poly p (chal_hash p (round_w w) P.mu) ≡ some c
          → responded p P (round_w w) (chal_hash p (round_w w) P.mu) c o ≡ made b → Good b
      unfolding finished
      responded-good c none o e r = let z : ◌≡◌ {A = ℕ} 0 1 = cc in absurd (omega arith)
      responded-good c (some x) o e r =
          let f : Fields = signed_fields p P (round_w w) (chal_hash p (round_w w) P.mu) x c in
          let m = pick-made (check_bounds p f) (wrote (write p f)) b r in
          let k : write p f ≡ some b = wrote-made (write p f) b m.1 in
          let g = fields-good w x c lw (wz (residues q c) x o) b e m.0 k in
          record { long = write-length p f b k; form = g.0; fields = g.1 }

      challenged-good : (o : Option (List ℤ)) → chal_poly p (chal_hash p (round_w w) P.mu) ≡ o
          → challenged p P (round_w w) (chal_hash p (round_w w) P.mu) z o ≡ made b → Good b
      challenged-good none e r = let z : ◌≡◌ {A = ℕ} 0 1 = cc in absurd (omega arith)
      challenged-good (some c) e r = responded-good c (z (residues q c)) refl e r

    concluded-good : (o : Option (List ℕ)) → ((w : List ℕ) → o ≡ some w → length w ≡ p.k * 512) → concluded p P o z ≡ made b → Good b
    unfolding concluded
    concluded-good none l r = let z : ◌≡◌ {A = ℕ} 0 1 = cc in absurd (omega arith)
    concluded-good (some w) l r = challenged-good w (l w refl) (chal_poly p (chal_hash p (round_w w) P.mu)) refl r

  -- the verifier's first checks are among those that signing passed
  pub verify-good : (sig : List ℕ) → public_key_sized p vk ≡ true → public_key_good p vk ≡ true → message_sized msg ≡ true → Good sig
      → first_no (verify_checks (Ok p) p vk msg sig) ≡ 0
  verify-good sig a3 a4 a9 g =
      let a13 : eqb (length sig) p.sig_bytes ≡ true = eq-eqb (length sig) p.sig_bytes g.long in
      let a14 : proper_form p sig ≡ true = g.form in
      rw (a3, a4, a9, a13, a14) g.fields

-- ---- all attempts, of a record p; the verifier has a record r of the same set

module _ (p r : Params) (h : set_of p ≡ set_of r) (vk msg A : List ℕ) (e_a : matrix r (vk_seed r vk) ≡ some A) where
  abbrev signer : Public
  signer = public_for p vk (digest_for p vk) msg A

  verifier-same : signer ≡ public_for r vk (digest_for r vk) msg A
  verifier-same = public-same p r h vk (digest_for p vk) msg A ∙ ap (λ (n : ℕ). public_for r vk (key_hash n vk) msg A) (hash-bytes-same p r h)

  attempt-good : (N : Noise) (g : MaskGen) (s b : List ℕ) → attempted p signer N g s ≡ made b → Good r vk msg A e_a b
  unfolding attempted
  attempt-good N g s b e =
      let W : List ℕ = totals p.k p.shares (masked_image p N g A).shares in
      let Z : List ℕ → List ℕ = λ (c : List ℕ). totals p.l p.shares (refreshed_response p N g A s c).shares in
      let w : Option (List ℕ) = decoded p.k p.shares (masked_image p N g A) in
      let z : List ℕ → Option (List ℕ) = λ (c : List ℕ). decoded p.l p.shares (refreshed_response p N g A s c) in
      concluded-good r vk msg A e_a z
      (λ (c x : List ℕ) (o : z c ≡ some x).
      subst (λ (y : List ℕ). Words (r.l * 512) y) (picked-some (refreshed_response p N g A s c).next.ok (Z c) x o)
      (subst (λ (n : ℕ). Words (n * 512) (Z c)) (l-same p r h) (totals-words p.l p.shares (refreshed_response p N g A s c).shares)))
      b w
      (λ (x : List ℕ) (o : w ≡ some x).
      ap (λ (l : List ℕ). length l) (sym (picked-some (masked_image p N g A).next.ok W x o))
      ∙ (totals-words p.k p.shares (masked_image p N g A).shares).long ∙ ap (λ (n : ℕ). n * 512) (k-same p r h))
      (ap (λ (X : Public). concluded r X w z) (sym verifier-same) ∙ sym (concluded-same p r h signer w z) ∙ e)

  ended-good : (a : ℕ) (t : Attempted) (later : Outcome) → ((b : List ℕ) → t ≡ made b → Good r vk msg A e_a b)
      → (later.status ≡ 0 → Good r vk msg A e_a later.bytes) → (ended a t later).status ≡ 0 → Good r vk msg A e_a (ended a t later).bytes
  ended-good a (made b) later f g e = f b refl
  ended-good a over later f g e = g e
  ended-good a stuck later f g e = absurd (omega arith)
  ended-good a dry later f g e = absurd (omega arith)

  pub from-good : (T : Coins) (left a : ℕ) (s : List ℕ) → (sign_from p signer T left a s).status ≡ 0
      → Good r vk msg A e_a (sign_from p signer T left a s).bytes
  unfolding sign_from
  from-good T zero a s e = absurd (omega arith)
  from-good T (suc left) a s e =
      ended-good a (attempted p signer (noise_at p T a) (mask_at T a) s)
      (sign_from p signer T left (suc a) (refreshed_key p (noise_at p T a) (mask_at T a) A s).shares)
      (attempt-good (noise_at p T a) (mask_at T a) s)
      (from-good T left (suc a) (refreshed_key p (noise_at p T a) (mask_at T a) A s).shares) e
