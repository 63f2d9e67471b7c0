-- The byte form of a signature (000, 2.5.1): the challenge hash, the hint's code, the response's code, zero fill.
use Rattle.std.specs.Prelude.{List, ◌++◌, ℕ, ◌+◌, ◌-◌, ◌*◌, ◌/◌, leb, ℤ, length, take, drop, replicate}
use Rattle.std.proofs.Math.Option.{Option, some, none}
use Rattle.hash.specs.Lists.{pick}
use Rattle.hash.specs.declared.params.Params.{Params}
use Rattle.signature.specs.Bits.{bit_string, chop}
use Rattle.signature.specs.Code.{codes, codes_bits, read_codes}

-- what a signature holds: c_hash, h and z, the last two as signed whole numbers, not reduced
pub record Fields : Type 0 where
  pub hash : List ℕ
  pub hint : List ℤ
  pub response : List ℤ

-- bytes of a hash of 2 kappa bits
abbrev pub hash_bytes : Params → ℕ
hash_bytes p = p.kappa / 4

-- the bits of the fields
unfoldable pub form_bits : Fields → List ℕ
form_bits f = bit_string 8 f.hash ++ (codes 0 f.hint ++ codes 40 f.response)

-- their number, counted without making them: of a hash of n bytes, a hint and a response (02, #103); of fields
abbrev pub signature_bits : ℕ → List ℤ → List ℤ → ℕ
signature_bits n h z = 8 * n + (codes_bits 0 h + codes_bits 40 z)

unfoldable pub bit_count : Fields → ℕ
bit_count f = signature_bits (length f.hash) f.hint f.response

-- the bits with zero fill, to n bytes
abbrev pub with_fill : Fields → ℕ → List ℕ
with_fill f n = form_bits f ++ replicate (8 * n - bit_count f) 0

-- the writer: none where the bits do not fit
unfoldable pub write : Params → Fields → Option (List ℕ)
write p f = pick (leb (bit_count f) (8 * p.sig_bytes)) (some (chop 8 p.sig_bytes (with_fill f p.sig_bytes))) none

-- the response's numbers, behind the hint's
abbrev with_response : List ℤ × ℕ → Option (List ℤ × ℕ) → Option (List ℤ × List ℤ × ℕ)
with_response h none = none
with_response h (some z) = some (h.0, z.0, h.1 + z.1)

abbrev then_response : ℕ → List ℕ → Option (List ℤ × ℕ) → Option (List ℤ × List ℤ × ℕ)
then_response m t none = none
then_response m t (some h) = with_response h (read_codes 40 m (drop h.1 t))

-- n numbers of the hint's code, then m of the response's, from the front of the bits t, and how many bits they take
unfoldable pub read_both : ℕ → ℕ → List ℕ → Option (List ℤ × List ℤ × ℕ)
read_both n m t = then_response m t (read_codes 0 n t)

-- the reader: hint and response behind the hash; what comes behind them is not looked at here (check 14 does)
abbrev with_hash : List ℕ → Option (List ℤ × List ℤ × ℕ) → Option Fields
with_hash hash none = none
with_hash hash (some x) = some (record { hash = hash; hint = x.0; response = x.1 })

unfoldable pub read : Params → List ℕ → Option Fields
read p b = with_hash (take (hash_bytes p) b) (read_both (p.k * 512) (p.l * 512) (drop (8 * hash_bytes p) (bit_string 8 b)))
