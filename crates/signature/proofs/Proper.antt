-- Check 14 from what the reader of the code answers, and the checks of lengths and bounds around it.
use mathlib.Core.Path.{◌≡◌, refl, sym, ap, ◌∙◌}
use mathlib.Core.Bool.{Bool, true, false}
use mathlib.Core.List.{List, [], ◌∷◌}
use mathlib.Core.Option.{Option, some, none}
use Prim.Native.Nat.{ℕ, suc, ◌*◌, ◌≤◌, ◌<◌}
use native.Mathlib.Omega.{arith}
use lib.IntN.{ℤ, pos, nat_abs}
use lib.ListN.{length, get_or, take}
use Rattle.hash.specs.Lists.{pick, Bytes}
use Rattle.hash.specs.declared.params.Params.{Params}
use Rattle.signature.specs.AnswerSteps.{fields_of, ReadOf}
use Rattle.signature.specs.Checks.{first_no, written_as, proper_fields, proper_form}
use Rattle.signature.specs.Form.{Fields, hash_bytes, write, read_both, read}
use Rattle.signature.specs.Verify.{hash_checks, fields_in}
use Rattle.signature.specs.VerifySteps.{field_checks, form_checks}
use Rattle.signature.proofs.Canonical.{behind, read-accepted, read-refused, read-sized}
use Rattle.signature.proofs.Reading.{ZeroFilled, read-true, read-false}
use Rattle.ring.proofs.Checks.{absurd-bool}
use Rattle.signature.proofs.SameBytes.{same_refl, same-eq}

-- what the writer makes of the fields read
pub record Written (p : Params) (b : List ℕ) : Type 0 where
  pub f : Fields
  pub read_is : read p b ≡ some f
  pub write-is : write p f ≡ some b

pub proper-some : (p : Params) (b : List ℕ) (f : Fields) → read p b ≡ some f → write p f ≡ some b → proper_form p b ≡ true
unfolding proper_form
proper-some p b f e g = ap (proper_fields p b) e ∙ ap (written_as b) g ∙ same_refl b

pub proper-is : (p : Params) (b : List ℕ) → proper_form p b ≡ true → Written p b
unfolding proper_form
proper-is p b e = go (read p b) refl e
  where
    fits : (f : Fields) → read p b ≡ some f → (o : Option (List ℕ)) → write p f ≡ o → written_as b o ≡ true → Written p b
    fits f r none w t = absurd-bool (sym t)
    fits f r (some c) w t = record { f = f; read_is = r; write-is = w ∙ ap some (sym (same-eq b c t)) }

    go : (o : Option Fields) → read p b ≡ o → proper_fields p b o ≡ true → Written p b
    go none r t = absurd-bool (sym t)
    go (some f) r t = fits f r (write p f) refl t

pub proper-none : (p : Params) (b : List ℕ) → ((f : Fields) → read p b ≡ some f → write p f ≡ some b → ⊥) → proper_form p b ≡ false
proper-none p b n = go (proper_form p b) refl
  where
    go : (t : Bool) → proper_form p b ≡ t → proper_form p b ≡ false
    go true e = let w = proper-is p b e in absurd (n w.f w.read_is w.write-is)
    go false e = e

-- ---- the code's reader

pub Bytes-low : (b : List ℕ) → ((j : ℕ) → get_or b j 0 < 256) → Bytes b
Bytes-low [] h = tt
Bytes-low (x ∷ b) h = (h 0, Bytes-low b (λ (j : ℕ). h (suc j)))

module _ (p : Params) (vk msg b : List ℕ) (byte : Bytes b) (long : length b ≡ p.sig_bytes) (size : hash_bytes p ≤ length b) where
  pub status-14 : ((h z : List ℤ) → ZeroFilled (p.k * 512) (p.l * 512) (behind p b) h z → ⊥) → first_no (form_checks p vk msg b) ≡ 14
  status-14 never =
      ap (λ (t : Bool). pick t (first_no (field_checks p vk msg (fields_in (read p b)))) 14)
      (proper-none p b (λ (f : Fields). λ (r : read p b ≡ some f) (w : write p f ≡ some b). read-refused p b byte long size f never r w))

  pub status-read : (h z : List ℤ) → ZeroFilled (p.k * 512) (p.l * 512) (behind p b) h z
      → first_no (form_checks p vk msg b) ≡ first_no (field_checks p vk msg (fields_of (take (hash_bytes p) b) h z))
  status-read h z e =
      let a = read-accepted p b byte long size h z e in
      ap (λ (t : Bool). pick t (first_no (field_checks p vk msg (fields_in (read p b)))) 14) (proper-some p b (fields_of (take (hash_bytes p) b) h z) a.0 a.1)
      ∙ ap (λ (o : Option Fields). first_no (field_checks p vk msg (fields_in o))) a.0

  -- the fields have the set's sizes
  pub sizes-read : (h z : List ℤ) → ZeroFilled (p.k * 512) (p.l * 512) (behind p b) h z → (length h ≡ p.k * 512) × (length z ≡ p.l * 512)
  sizes-read h z e =
      let s = read-sized p b (fields_of (take (hash_bytes p) b) h z) byte size (read-accepted p b byte long size h z e).0 in
      (s.hint-long, s.response-long)

-- what the reader's answer says of the definition, where its lists have n and m numbers
module _ (t : List ℕ) (n m n' m' : ℕ) (r : Bool) (h z : List ℤ) (a : n' ≡ n) (b : m' ≡ m) (u : ReadOf (read_both n' m' t) t r h z) where
  pub read-yes : r ≡ true → ZeroFilled n m t h z
  read-yes e = read-true n m t h z (rw (a, b, e) at u)

  pub read_no : r ≡ false → (h' z' : List ℤ) → ZeroFilled n m t h' z' → ⊥
  read_no e = read-false n m t h z (rw (a, b, e) at u)

-- ---- the same of equal lists

pub bounded-part : {xs ys : List ℤ} (m n : ℕ) → xs ≡ ys → n < m → ((i : ℕ) → i < length xs → nat_abs (get_or xs i (pos 0)) ≤ n) → (i : ℕ) → i < length xs → nat_abs (get_or xs i (pos 0)) < m
bounded-part m n e l f i h = omega (arith, f i h, l)

pub hash-same : {c c' : List ℕ} {h h' z z' : List ℤ} (p : Params) (vk msg : List ℕ) → c ≡ c' → h ≡ h' → z ≡ z'
    → first_no (hash_checks p vk msg (fields_of c h z)) ≡ first_no (hash_checks p vk msg (fields_of c' h' z'))
hash-same p vk msg a b e = cc (a, b, e)
