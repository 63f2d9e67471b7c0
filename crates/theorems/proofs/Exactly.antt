-- The verdict, both ways: verifying gives 0 exactly for the byte string that the writer makes of some fields which pass the bounds and whose
-- challenge hash is the one recomputed from them (000, Algorithm 3, in the one byte form of 2.5.1).
use mathlib.Core.Path.{◌≡◌, refl, sym, ap, subst, ◌∙◌}
use mathlib.Core.Bool.{true}
use mathlib.Core.List.{List, []}
use mathlib.Core.Option.{Option, some}
use Prim.Native.Nat.{ℕ}
use native.Mathlib.Omega.{arith}
use lib.IntN.{ℤ}
use lib.ListN.{length}
use borrow.Author.Tests.{eq-eqb, eqb-true}
use Rattle.hash.specs.Lists.{Bytes}
use Rattle.hash.specs.Params.{lookup_of}
use Rattle.hash.specs.declared.params.Edition.{Edition}
use Rattle.hash.specs.declared.params.Params.{Params}
use Rattle.std.specs.Prelude.{Result, Ok, Err}
use Rattle.hash.specs.declared.params.Unknown.{Unknown}
use Rattle.signature.specs.Bounds.{check_bounds}
use Rattle.signature.specs.Challenge.{chal_poly}
use Rattle.signature.specs.Checks.{public_key_sized, public_key_good, message_sized, signature_sized, proper_form, hash_equal}
use Rattle.signature.specs.Form.{Fields, write, read}
use Rattle.signature.specs.Keys.{vk_seed, vk_vector}
use Rattle.signature.specs.Matrix.{matrix, filled}
use Rattle.signature.specs.Outcome.{first_no, held_or, found_in}
use Rattle.signature.specs.Digest.{mu_of}
use Rattle.signature.specs.Verify.{recomputed, recomputed_for, fields_in, verify_checks, verify_call}
use Rattle.signature.specs.VerifySteps.{field_checks}
use Rattle.signature.proofs.Listing.{tabled}
use Rattle.signature.proofs.Canonical.{Sized, write_read, write-length, read-sized}
use Rattle.ring.proofs.Checks.{asked}
use Rattle.ring.proofs.Filled.{filled-held}
use Rattle.signature.proofs.Proper.{proper-some, proper-is}
use Rattle.signature.proofs.SameBytes.{same_refl, same-eq}
use Rattle.signature.proofs.Verified.{never-shares}

-- what the submission accepts, with the limits of paper 01
pub record Accepts (e : Edition) (set : ℕ) (vk msg sig : List ℕ) : Type 0 where
  pub p : Params
  pub row : lookup_of set 1 e ≡ Ok p
  pub key-sized : public_key_sized p vk ≡ true
  pub key-good : public_key_good p vk ≡ true
  pub message-sized : message_sized msg ≡ true
  -- the fields, of the set's sizes, and their byte form
  pub f : Fields
  pub sized : Sized p f
  pub written : write p f ≡ some sig
  pub bounds : check_bounds p f ≡ true
  -- the matrix of the key's seed and the challenge polynomial of the hash
  pub A : List ℕ
  pub expanded : matrix p (vk_seed p vk) ≡ some A
  pub c : List ℤ
  pub sampled : chal_poly p f.hash ≡ some c
  pub equal : f.hash ≡ recomputed p A (vk_vector p vk) (mu_of p vk msg) f c

module _ (e : Edition) (set : ℕ) (vk msg sig : List ℕ) (byte : Bytes sig) where
  -- .. of the record of the set and the fields read: each check in its turn
  of_fields : (p : Params) → lookup_of set 1 e ≡ Ok p → public_key_sized p vk ≡ true → public_key_good p vk ≡ true → message_sized msg ≡ true
      → signature_sized p sig ≡ true → (f : Fields) → read p sig ≡ some f → write p f ≡ some sig → first_no (field_checks p vk msg f) ≡ 0
      → Accepts e set vk msg sig
  of_fields p l a3 a4 a9 a13 f r w z =
      let A = held_or (matrix p (vk_seed p vk)) [] in
      let x = held_or (chal_poly p f.hash) [] in
      let a15 = asked 14 (check_bounds p f) _ z in
      let a10 = asked 9 (filled (matrix p (vk_seed p vk))) _ a15.1 in
      let a11 = asked 10 (filled (chal_poly p f.hash)) _ a10.1 in
      let a16 = asked 15 (hash_equal f (recomputed_for p vk msg f)) 0 a11.1 in
      let n = eqb-true (length sig) p.sig_bytes a13 in
      let t = tabled set 1 e p l in
      record {
        p = p;
        row = l;
        key-sized = a3;
        key-good = a4;
        message-sized = a9;
        f = f;
        sized = read-sized p sig f byte (omega (arith, n, t.hash-fits)) r;
        written = w;
        bounds = a15.0;
        A = A;
        expanded = filled-held (matrix p (vk_seed p vk)) a10.0;
        c = x;
        sampled = filled-held (chal_poly p f.hash) a11.0;
        equal = same-eq f.hash (recomputed_for p vk msg f) a16.0;
      }

  pub only-accepted : verify_call e set vk msg sig ≡ 0 → Accepts e set vk msg sig
  unfolding verify_call
  only-accepted z = look (lookup_of set 1 e) refl z
    where
      look : (s : Result Params Unknown) → lookup_of set 1 e ≡ s → first_no (verify_checks s (found_in s) vk msg sig) ≡ 0 → Accepts e set vk msg sig
      look (Err Unknown.Set) l v = absurd (omega (arith, v))
      look (Err Unknown.Shares) l v = absurd (never-shares e set l)
      look (Ok p) l v =
          let a3 = asked 2 (public_key_sized p vk) _ v in
          let a4 = asked 3 (public_key_good p vk) _ a3.1 in
          let a9 = asked 8 (message_sized msg) _ a4.1 in
          let a13 = asked 12 (signature_sized p sig) _ a9.1 in
          let a14 = asked 13 (proper_form p sig) _ a13.1 in
          let w = proper-is p sig a14.0 in
          of_fields p l a3.0 a4.0 a9.0 a13.0 w.f w.read_is w.write-is
          (ap (λ (o : Option Fields). first_no (field_checks p vk msg (fields_in o))) (sym w.read_is) ∙ a14.1)

-- no hypothesis on the bytes: the writer makes bytes
pub all-accepted : (e : Edition) (set : ℕ) (vk msg sig : List ℕ) → Accepts e set vk msg sig → verify_call e set vk msg sig ≡ 0
unfolding verify_call filled
all-accepted e set vk msg sig a =
    let p = a.p in
    let f = a.f in
    let r : read p sig ≡ some f = write_read p f sig a.sized a.written in
    let n : signature_sized p sig ≡ true = eq-eqb (length sig) p.sig_bytes (write-length p f sig a.written) in
    let w = proper-some p sig f r a.written in
    let h : hash_equal f (recomputed p a.A (vk_vector p vk) (mu_of p vk msg) f a.c) ≡ true =
    subst (λ (x : List ℕ). hash_equal f x ≡ true) a.equal (same_refl f.hash) in
    rw (a.row, a.key-sized, a.key-good, a.message-sized, n, w, r, a.bounds, a.expanded, a.sampled, h) refl
