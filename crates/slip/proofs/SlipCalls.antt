-- Both calls on slips (02, #101): what the reader can answer, the round trips from call to call, and slips whose signature the verifier accepts.
use mathlib.Core.Path.{◌≡◌, refl, sym, ap, subst, ◌∙◌}
use mathlib.Core.Bool.{Bool, true, false}
use mathlib.Core.List.{List, [], ◌∷◌, ◌++◌, append_assoc}
use mathlib.Core.Logic.{◌⊎◌, inl, inr}
use Prim.Native.Nat.{ℕ, zero, suc, ◌^◌, ◌≤◌, ◌<◌}
use native.Mathlib.Decide.{ℕ_discrete}
use native.Mathlib.Omega.{arith}
use borrow.Author.Tests.{eqb-true, eq-eqb, ne_eqb, leb-true, le-leb}
use lib.Dec.{eqb, leb}
use lib.ListN.{length, drop, length-append, length-drop}
use lib.Seq.{length-take-le, take-length}
use Rattle.hash.specs.Lists.{Bytes, pick}
use Rattle.hash.specs.Params.{lookup_of}
use Rattle.hash.specs.declared.params.Edition.{Edition}
use Rattle.std.specs.Prelude.{Result, Ok, Err}
use Rattle.hash.specs.declared.params.Params.{Params}
use Rattle.hash.specs.declared.params.Unknown.{Unknown}
use Rattle.ring.proofs.Checks.{absurd-bool, asked, both_true, both_yes, yes-here, first_passes, first-low}
use Rattle.signature.specs.Bounds.{check_bounds}
use Rattle.signature.specs.Checks.{first_no, proper_form, public_key_sized, public_key_good, message_sized, signature_sized}
use Rattle.signature.specs.Form.{read}
use Rattle.signature.specs.Outcome.{set_known, found_in, written}
use Rattle.signature.specs.Verify.{hash_checks, fields_in, verify_checks, verify_call}
use Rattle.signature.proofs.Verified.{never-shares}
use Rattle.slip.specs.Calls.{parts_fit, slip_checks, verdict_on, fields_beside, no_fields, read_by, read_slip_call, told_of, write_slip_call}
use Rattle.slip.specs.Format.{Slip, slip_of, slip_message, slip_bytes, text_length, signature_at, message_in, signature_in, slip_in, set_by_size, set_in}
use Rattle.slip.specs.declared.read.ReadSlip.{ReadSlip}
use Rattle.slip.proofs.SetSizes.{SizeFits, size_fits, size-of-set, set-pos}
use Rattle.slip.proofs.SlipTrip.{FieldsFit, slip-passed, text-low, checks-left, slip-long, message-back, signature-back, slip-back, written-passes, slip-again}
use Rattle.slip.proofs.SlipWritten.{write-yes, size-unknown}

-- ---- numbers that checks can answer with

abbrev pub one_of : List ℕ → ℕ → Bool
one_of [] n = false
one_of (k ∷ ks) n = pick (eqb n k) true (one_of ks n)

-- the reader's own
abbrev pub own_refusals : List ℕ
own_refusals = 17 ∷ 18 ∷ 19 ∷ []

own-or-none : (b : List ℕ) → (one_of (0 ∷ own_refusals) (first_no (slip_checks b)) ≡ true)
own-or-none b = first_passes (one_of (0 ∷ own_refusals)) (slip_checks b) refl refl

-- which are from 17 to 19
own_range : (n : ℕ) → one_of own_refusals n ≡ true → (17 ≤ n) × (n ≤ 19)
own_range n = go (eqb n 17) (eqb n 18) (eqb n 19) refl refl refl
  where
    go : (a b c : Bool) → eqb n 17 ≡ a → eqb n 18 ≡ b → eqb n 19 ≡ c → pick a true (pick b true (pick c true false)) ≡ true → (17 ≤ n) × (n ≤ 19)
    go true b c i j k h = let e = eqb-true n 17 i in (omega (arith, e), omega (arith, e))
    go false true c i j k h = let e = eqb-true n 18 j in (omega (arith, e), omega (arith, e))
    go false false true i j k h = let e = eqb-true n 19 k in (omega (arith, e), omega (arith, e))
    go false false false i j k h = absurd-bool (sym h)

own : (b : List ℕ) (n : ℕ) → first_no (slip_checks b) ≡ suc n → one_of own_refusals (suc n) ≡ true
own b n i =
    ap (λ (t : Bool). pick t true (one_of own_refusals (suc n))) (sym (ne_eqb (suc n) 0 (λ e. omega (arith, e))))
    ∙ subst (λ (k : ℕ). one_of (0 ∷ own_refusals) k ≡ true) i (own-or-none b)

-- ---- the verdict on a slip that passed the reader's own checks

abbrev pub verdicts : List ℕ
verdicts = 0 ∷ 3 ∷ 4 ∷ 10 ∷ 11 ∷ 14 ∷ 15 ∷ 16 ∷ []

module _ (vk b : List ℕ) (z : first_no (slip_checks b) ≡ 0) where
  abbrev s : Result Params Unknown
  s = lookup_of (set_in b) 1 Edition.Printed

  its-size : SizeFits (set_in b) (length (signature_in b))
  its-size = size_fits (length (signature_in b)) (slip-passed b z).known

  set_found : set_known s ≡ true
  set_found = go s its-size.size
    where
      go : (s : Result Params Unknown) → (found_in s).sig_bytes ≡ length (signature_in b) → set_known s ≡ true
      go (Ok p) e = refl
      go (Err Unknown.Shares) e = refl
      go (Err Unknown.Set) e = absurd (omega (arith, e, its-size.low))

  short-message : message_sized (message_in b) ≡ true
  short-message =
      let a = slip-passed b z in
      le-leb (length (message_in b)) 4096 (omega (arith, length-take-le (signature_at b) b a.inside, a.text-short))

  right-size : signature_sized (found_in s) (signature_in b) ≡ true
  right-size = eq-eqb (length (signature_in b)) (found_in s).sig_bytes (sym its-size.size)

  -- the checks that are left: the set is one of the three, no message is longer than 522 bytes, and the signature's length is the set's
  abbrev left-checks : List (ℕ × Bool)
  left-checks =
      let p = found_in s in
      let f = fields_in (read p (signature_in b)) in
      (3, public_key_sized p vk)
      ∷ (4, public_key_good p vk)
      ∷ (14, proper_form p (signature_in b))
      ∷ (15, check_bounds p f)
      ∷ hash_checks p vk (message_in b) f

  verdict-left : verdict_on vk b ≡ first_no left-checks
  unfolding verify_call
  verdict-left = rw (set_found, short-message, right-size) refl

  -- so it is 0, 3, 4, 10, 11, 14, 15 or 16
  verdict-is : (one_of verdicts (verdict_on vk b) ≡ true) × (verdict_on vk b ≤ 16)
  verdict-is = (
    ap (one_of verdicts) verdict-left ∙ first_passes (one_of verdicts) left-checks refl refl,
    omega (arith, verdict-left, first-low 16 left-checks refl),
  )

-- ---- what the reader answers

module _ (vk b : List ℕ) where
  abbrev r : ReadSlip
  r = read_slip_call vk b

  -- with a status below 17 it is the verifier's, and all fields stand beside it
  pub fields-with : r.status < 17 → (first_no (slip_checks b) ≡ 0) × (r ≡ fields_beside (verdict_on vk b) b)
  unfolding read_slip_call
  fields-with = go (first_no (slip_checks b)) refl
    where
      go : (n : ℕ) → first_no (slip_checks b) ≡ n → (read_by n vk b).status < 17 → (first_no (slip_checks b) ≡ 0) × (read_by n vk b ≡ fields_beside (verdict_on vk b) b)
      go zero i h = (i, refl)
      go (suc n) i h = absurd (omega (arith, h, (own_range (suc n) (own b n i)).0))

  -- with 17, 18 and 19, which are the reader's own, there are none
  pub none-with : 17 ≤ r.status → (r.status ≤ 19) × (r ≡ no_fields r.status)
  unfolding read_slip_call
  none-with = go (first_no (slip_checks b)) refl
    where
      go : (n : ℕ) → first_no (slip_checks b) ≡ n → 17 ≤ (read_by n vk b).status → ((read_by n vk b).status ≤ 19) × (read_by n vk b ≡ no_fields (read_by n vk b).status)
      go zero i h = absurd (omega (arith, h, (verdict-is vk b i).1))
      go (suc n) i h = ((own_range (suc n) (own b n i)).1, refl)

  -- nothing else is answered; 1, 9 and 13 never
  pub reader-answers : (one_of own_refusals r.status ≡ true) ⊎ (one_of verdicts r.status ≡ true)
  unfolding read_slip_call
  reader-answers = go (first_no (slip_checks b)) refl
    where
      go : (n : ℕ) → first_no (slip_checks b) ≡ n → (one_of own_refusals (read_by n vk b).status ≡ true) ⊎ (one_of verdicts (read_by n vk b).status ≡ true)
      go zero i = inr (verdict-is vk b i).0
      go (suc n) i = inl (own b n i)

  -- ---- a slip that was read writes back to its bytes

  told-slip : (v : ℕ) → told_of (fields_beside v b) b ≡ slip_in b
  told-slip v = ap (slip_of (slip_in b).movement (slip_in b).track (slip_in b).text) (take-length (signature_in b))

  pub read-writes : Bytes b → r.status < 17 → (out : List ℕ) → length out ≡ length b → write_slip_call (told_of r b) out ≡ (0, b)
  read-writes l h out e =
      let f = fields-with h in
      let z = f.0 in
      let a = slip-passed b z in
      let s = slip_in b in
      let again = slip-again b l z in
      let long : length s.text ≡ text_length b = length-take-le (text_length b) (drop 10 b) (omega (arith, length-drop 10 b, a.inside)) in
      let parts : parts_fit (length s.text) (length s.signature) ≡ true =
      both_yes (le-leb (length s.text) 512 (omega (arith, long, a.text-short))) (le-leb 1 (set_by_size (length s.signature)) a.known) in
      let size : eqb (length out) (length (slip_bytes s)) ≡ true = eq-eqb (length out) (length (slip_bytes s)) (e ∙ ap length (sym again)) in
      ap (λ (x : ReadSlip). write_slip_call (told_of x b) out) f.1
      ∙ ap (λ (x : Slip). write_slip_call x out) (told-slip (verdict_on vk b))
      ∙ sym (write-yes s out b (yes-here 19 parts (yes-here 8 size refl)) (sym again))

-- ---- a written slip reads back to its fields

reads : (vk b : List ℕ) → first_no (slip_checks b) ≡ 0 → read_slip_call vk b ≡ fields_beside (verdict_on vk b) b
unfolding read_slip_call
reads vk b z = ap (λ (n : ℕ). read_by n vk b) z

-- what is read of the bytes of a slip: its fields, its set, and the verdict on its signature, alone
pub record ReadsBack (vk b : List ℕ) (s : Slip) : Type 0 where
  pub fields : told_of (read_slip_call vk b) b ≡ s
  pub set_told : (read_slip_call vk b).set ≡ set_by_size (length s.signature)
  pub verdict : (read_slip_call vk b).status ≡ verify_call Edition.Printed (set_by_size (length s.signature)) vk (slip_message s) s.signature

reads-back : (vk : List ℕ) (s : Slip) → FieldsFit s → ReadsBack vk (slip_bytes s) s
reads-back vk s f =
    let b = slip_bytes s in
    let e = reads vk b (written-passes s f) in
    let l = text-low s f in
    let g = signature-back s l in
    record {
      fields = ap (λ (r : ReadSlip). told_of r b) e ∙ told-slip vk b (verdict_on vk b) ∙ slip-back s f;
      set_told = ap (λ (r : ReadSlip). r.set) e ∙ ap (λ (x : List ℕ). set_by_size (length x)) g;
      verdict =
          ap (λ (r : ReadSlip). r.status) e
          ∙ ap (λ (x : List ℕ). verify_call Edition.Printed (set_by_size (length x)) vk (message_in b) x) g
          ∙ ap (λ (x : List ℕ). verify_call Edition.Printed (set_by_size (length s.signature)) vk x s.signature) (message-back s l);
    }

module _ (s : Slip) (out : List ℕ) where
  -- it is written, whole, where it fits and the buffer has its length, and nowhere else
  pub fits-written : FieldsFit s → length out ≡ length (slip_bytes s) → write_slip_call s out ≡ (0, slip_bytes s)
  fits-written f e = sym (write-yes s out (slip_bytes s) (yes-here 19 f.parts (yes-here 8 (eq-eqb (length out) (length (slip_bytes s)) e) refl)) refl)

  module _ (hm : s.movement < 2 ^ 16) (ht : s.track < 2 ^ 8) (w : (write_slip_call s out).0 ≡ 0) where
    pub written-fits : FieldsFit s
    unfolding write_slip_call
    written-fits =
        record { movement-low = hm; track-low = ht; parts = (asked 18 (parts_fit (length s.text) (length s.signature)) _ w).0 }

    pub written-sized : length out ≡ length (slip_bytes s)
    unfolding write_slip_call
    written-sized =
        let a = asked 18 (parts_fit (length s.text) (length s.signature)) _ w in
        eqb-true (length out) (length (slip_bytes s)) (asked 7 (eqb (length out) (length (slip_bytes s))) 0 a.1).0

    pub written-whole : (write_slip_call s out).1 ≡ slip_bytes s
    unfolding write_slip_call
    written-whole = ap (λ (n : ℕ). written n (slip_bytes s) out) w

    pub write-reads : (vk : List ℕ) → ReadsBack vk (write_slip_call s out).1 s
    write-reads vk = subst (λ (x : List ℕ). ReadsBack vk x s) (sym written-whole) (reads-back vk s written-fits)

-- ---- two slips behind each other are none

signature-low : (s : Slip) → FieldsFit s → 11524 ≤ length s.signature
signature-low s f =
    let k = length s.signature in
    (size_fits k (leb-true 1 (set_by_size k) (both_true (leb (length s.text) 512) (leb 1 (set_by_size k)) f.parts).1)).low

too_long : (k : ℕ) → 20330 < k → set_by_size k ≡ 0
too_long k h = go (ℕ_discrete (set_by_size k) 0)
  where
    go : Dec (set_by_size k ≡ 0) → set_by_size k ≡ 0
    go (yes e) = e
    go (no n) = absurd (omega (arith, h, (size_fits k (omega (arith, n))).high))

refused : (vk b : List ℕ) (n : ℕ) → first_no (slip_checks b) ≡ suc n → read_slip_call vk b ≡ no_fields (suc n)
unfolding read_slip_call
refused vk b n z = ap (λ (k : ℕ). read_by k vk b) z

pub joined-refused : (vk : List ℕ) (s t : Slip) → FieldsFit s → FieldsFit t → read_slip_call vk (slip_bytes s ++ slip_bytes t) ≡ no_fields 19
joined-refused vk s t f g =
    let u = slip_of s.movement s.track s.text (s.signature ++ slip_bytes t) in
    let k = length (s.signature ++ slip_bytes t) in
    let a = signature-low s f in
    let c = signature-low t g in
    let long : 23058 ≤ k = omega (arith, length-append s.signature (slip_bytes t), slip-long t, a, c) in
    let e : set_by_size k ≡ 0 = too_long k (omega (arith, long)) in
    let p : parts_fit (length s.text) k ≡ false = size-unknown (length s.text) k e in
    ap (read_slip_call vk) (append_assoc (slip_message s) s.signature (slip_bytes t))
    ∙ refused vk (slip_bytes u) 18 (checks-left u (text-low s f) ∙ ap (λ (x : Bool). pick x 0 19) p)

-- ---- a slip is good where the verifier accepts its signature

module _ (set : ℕ) (vk : List ℕ) (s : Slip) (v : verify_call Edition.Printed set vk (slip_message s) s.signature ≡ 0) where
  of-set : (set_by_size (length s.signature) ≡ set) × (1 ≤ set)
  unfolding verify_call
  of-set = go (lookup_of set 1 Edition.Printed) refl v
    where
      go : (x : Result Params Unknown) → lookup_of set 1 Edition.Printed ≡ x → first_no (verify_checks x (found_in x) vk (slip_message s) s.signature) ≡ 0
          → (set_by_size (length s.signature) ≡ set) × (1 ≤ set)
      go (Ok p) i h =
          let a3 = asked 2 (public_key_sized p vk) _ h in
          let a4 = asked 3 (public_key_good p vk) _ a3.1 in
          let a9 = asked 8 (message_sized (slip_message s)) _ a4.1 in
          let a13 = asked 12 (signature_sized p s.signature) _ a9.1 in (
            ap set_by_size (eqb-true (length s.signature) p.sig_bytes a13.0) ∙ size-of-set set 1 Edition.Printed p i,
            set-pos set 1 Edition.Printed p i,
          )
      go (Err Unknown.Set) i h = absurd (omega (arith, h))
      go (Err Unknown.Shares) i h = absurd (never-shares Edition.Printed set i)

  -- the set is the one that follows from the signature's length
  pub accepted-set : set_by_size (length s.signature) ≡ set
  accepted-set = of-set.0

  module _ (hm : s.movement < 2 ^ 16) (ht : s.track < 2 ^ 8) (short : length s.text ≤ 512) where
    -- it fits, and read under that public key it is good
    pub accepted-fits : FieldsFit s
    accepted-fits =
        record {
          movement-low = hm;
          track-low = ht;
          parts = both_yes (le-leb (length s.text) 512 short) (le-leb 1 (set_by_size (length s.signature)) (omega (arith, of-set.0, of-set.1)));
        }

    pub accepted-reads : (read_slip_call vk (slip_bytes s)).status ≡ 0
    accepted-reads = (reads-back vk s accepted-fits).verdict ∙ ap (λ (x : ℕ). verify_call Edition.Printed x vk (slip_message s) s.signature) accepted-set ∙ v
