-- What the two calls tell, by the checks in their order, and the largest number of bits (02, #103).
use mathlib.Core.Path.{◌≡◌, refl, sym, ap, ◌∙◌}
use mathlib.Core.Bool.{Bool, true, false, ◌&&◌}
use mathlib.Core.List.{List}
use Prim.Native.Nat.{ℕ, zero, suc, ◌+◌, ◌^◌, ◌≤◌}
use native.Mathlib.Omega.{arith}
use lib.Dec.{leb}
use lib.IntN.{ℤ, pos, negsuc, nat_abs}
use mir.Syntax.{w8, w64}
use mir.Val.{SFits, to_z, of_z}
use mir.ValLaws.{to_z-of_z}
use Rattle.std.specs.Ordering.{is_le, nat_cmp}
use Rattle.std.proofs.lemmas.Bool.Decides.{nat_tests}
use Rattle.hash.specs.Lists.{pick}
use Rattle.hash.specs.Params.{lookup_of, refusal_of}
use Rattle.hash.specs.Refusal.{number_of}
use Rattle.signature.proofs.Verified.{never-shares}
use Rattle.hash.specs.declared.params.Edition.{Edition}
use Rattle.hash.specs.declared.params.Params.{Params}
use Rattle.std.specs.Prelude.{Result, Ok, Err}
use Rattle.hash.specs.declared.params.Unknown.{Unknown}
use Rattle.ring.proofs.Signs.{byte-is, byte-wide}
use Rattle.signature.specs.Code.{code_bits}
use Rattle.signature.specs.Form.{hash_bytes, signature_bits}
use Rattle.signature.proofs.Counts.{code-low}
use Rattle.signature.specs.Checks.{attempts_allowed, noise_seed_bytes, mask_seed_bytes, work_words}
use Rattle.sizes.specs.Count.{fields_sized, bits_told, bits_by, signature_bits_call}
use Rattle.sizes.specs.Lengths.{no_lengths, lengths_told, lengths_by, lengths_call}
use Rattle.sizes.specs.declared.count.CountedBits.{CountedBits}
use Rattle.sizes.specs.declared.lengths.SigningLengths.{SigningLengths}

-- ---- lengths

-- check 6, as a range is asked
is_le-is : (a b : ℕ) → is_le (nat_cmp a b) ≡ leb a b
is_le-is a b = grind (arith, nat_tests)

pub allowed-as : (n : ℕ) {r : Bool} → r ≡ (is_le (nat_cmp 1 n) && is_le (nat_cmp n 16)) → r ≡ attempts_allowed n
allowed-as n {r} e = go (leb 1 n) (rw (is_le-is 1 n, is_le-is n 16) at e)
  where
    go : (b : Bool) → r ≡ (b && leb n 16) → r ≡ pick b (leb n 16) false
    go true h = h
    go false h = h

module _ (p : Params) (n : ℕ) where
  abbrev asked-for : Bool → SigningLengths
  asked-for b = lengths_told (pick b 0 6) p n

  pub told_none : attempts_allowed n ≡ false → no_lengths 6 ≡ lengths_by (Ok p) n
  told_none e = ap asked-for (sym e)

  pub told-all : (a b c : ℕ) → attempts_allowed n ≡ true → a ≡ noise_seed_bytes p n → b ≡ mask_seed_bytes n → c ≡ work_words p
      → record { status = 0; noise_seed_bytes = a; mask_seed_bytes = b; work_words = c } ≡ lengths_by (Ok p) n
  told-all a b c e x y z = rw (x, y, z) (ap asked-for (sym e))

pub told-status : (m : ℕ) (p : Params) (n : ℕ) → (lengths_told m p n).status ≡ m
told-status zero p n = refl
told-status (suc m) p n = refl

module _ (set d n : ℕ) where
  abbrev told-by : Result Params Unknown → SigningLengths
  told-by s = lengths_by s n

  pub lengths-unknown : (u : Unknown) → lookup_of set d Edition.Printed ≡ Err u → no_lengths (number_of (refusal_of u)) ≡ lengths_call set d n
  unfolding lengths_call
  lengths-unknown Unknown.Set e = ap told-by (sym e)
  lengths-unknown Unknown.Shares e = ap told-by (sym e)

  pub lengths-found : (p : Params) → lookup_of set d Edition.Printed ≡ Ok p
      → lengths_by (Ok p) n ≡ lengths_call set d n
  unfolding lengths_call
  lengths-found p e = ap told-by (sym e)

-- ---- bits

module _ (p : Params) (h z : List ℤ) where
  abbrev counted-for : Bool → CountedBits
  counted-for b = bits_told (pick b 0 13) (signature_bits (hash_bytes p) h z)

  pub bits_none : fields_sized p h z ≡ false
      → record { status = 13; bits = 0 } ≡ bits_by (Ok p) h z
  bits_none e = ap counted-for (sym e)

  pub bits-all : (n : ℕ) → fields_sized p h z ≡ true → n ≡ signature_bits (hash_bytes p) h z
      → record { status = 0; bits = n } ≡ bits_by (Ok p) h z
  bits-all n e x = rw x (ap counted-for (sym e))

module _ (set : ℕ) (h z : List ℤ) where
  abbrev counted-by : Result Params Unknown → CountedBits
  counted-by s = bits_by s h z

  pub bits-unknown : (u : Unknown) → lookup_of set 1 Edition.Printed ≡ Err u
      → record { status = number_of (refusal_of u); bits = 0 } ≡ signature_bits_call set h z
  unfolding signature_bits_call
  bits-unknown Unknown.Set e = ap counted-by (sym e)
  bits-unknown Unknown.Shares e = absurd (never-shares Edition.Printed set e)

  pub bits-found : (p : Params) → lookup_of set 1 Edition.Printed ≡ Ok p
      → bits_by (Ok p) h z ≡ signature_bits_call set h z
  unfolding signature_bits_call
  bits-found p e = ap counted-by (sym e)

-- ---- numbers of 8 bits

module _ (z : ℤ) (f : SFits w8 z) where
  pub byte_low : nat_abs z ≤ 128
  byte_low = go z f
    where
      go : (z : ℤ) → SFits w8 z → nat_abs z ≤ 128
      go (pos n) f = omega (arith, f.sfits)
      go (negsuc n) f = f.sfits

  pub byte-same : to_z w64 (of_z w64 (to_z w8 (of_z w8 z))) ≡ z
  byte-same = to_z-of_z w64 (to_z w8 (of_z w8 z)) (byte-wide z f) ∙ byte-is z f

-- ---- the largest number: 130 bits for a hint of 8 bits, 2^23 + 42 for a response of 64

pub hint-code : (z : ℤ) → nat_abs z ≤ 128 → code_bits 0 z ≤ 130
hint-code z l = omega (arith, code-low 0 z)

pub response-code : (z : ℤ) → nat_abs z ≤ 2 ^ 63 → code_bits 40 z ≤ 2 ^ 23 + 42
response-code z l = omega (arith, code-low 40 z)
