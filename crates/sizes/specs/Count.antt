-- How many bits the fields of a signature take (02, #103): the number that the writer holds against the signature's length.
use Rattle.std.specs.Prelude.{Bool, List, [], ◌∷◌, ℕ, zero, suc, ◌*◌, eqb, ℤ, length, Result}
use Rattle.hash.specs.Params.{lookup_of}
use Rattle.hash.specs.declared.params.Edition.{Edition}
use Rattle.hash.specs.declared.params.Params.{Params}
use Rattle.hash.specs.declared.params.Unknown.{Unknown}
use Rattle.signature.specs.Form.{hash_bytes, signature_bits}
use Rattle.signature.specs.Outcome.{first_no, both, set_known, found_in}
use Rattle.sizes.specs.declared.count.CountedBits.{CountedBits}

-- 13, of fields that are lent: has the hint k × 512 numbers, and the response l × 512?
abbrev pub fields_sized : Params → List ℤ → List ℤ → Bool
fields_sized p h z = both (eqb (length h) (p.k * 512)) (eqb (length z) (p.l * 512))

-- s is the look-up's answer, with any share count and edition, on which nothing here depends; p is the record found in it
abbrev pub bits_checks : Result Params Unknown → Params → List ℤ → List ℤ → List (ℕ × Bool)
bits_checks s p h z = (1, set_known s) ∷ (13, fields_sized p h z) ∷ []

-- with status 0 the number, else 0
abbrev pub bits_told : ℕ → ℕ → CountedBits
bits_told zero n = record { status = 0; bits = n }
bits_told (suc m) n = record { status = suc m; bits = 0 }

abbrev pub bits_by : Result Params Unknown → List ℤ → List ℤ → CountedBits
bits_by s h z = bits_told (first_no (bits_checks s (found_in s) h z)) (signature_bits (hash_bytes (found_in s)) h z)

unfoldable pub signature_bits_call : ℕ → List ℤ → List ℤ → CountedBits
signature_bits_call set h z = bits_by (lookup_of set 1 Edition.Printed) h z
