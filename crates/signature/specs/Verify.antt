-- Verifying (000, Algorithm 3) with the checks of 01 around it: 1, 3, 4, 9, 13, 14, 15, 10, 11, 16. The status is all that a call gives.
use Rattle.std.specs.Prelude.{Bool, List, [], ◌∷◌, ℕ, ℤ, Result}
use Rattle.std.proofs.Math.Option.{Option, some, none}
use Rattle.hash.specs.Params.{lookup_of}
use Rattle.hash.specs.declared.params.Edition.{Edition}
use Rattle.hash.specs.declared.params.Params.{Params}
use Rattle.hash.specs.declared.params.Unknown.{Unknown}
use Rattle.ring.specs.Words.{q}
use Rattle.ring.specs.Round.{residues}
use Rattle.signature.specs.Bounds.{check_bounds}
use Rattle.signature.specs.Challenge.{chal_hash, chal_poly}
use Rattle.signature.specs.Checks.{public_key_sized, public_key_good, message_sized, signature_sized, proper_form, hash_equal}
use Rattle.signature.specs.Digest.{mu_of}
use Rattle.signature.specs.Form.{Fields, read}
use Rattle.signature.specs.Keys.{vk_seed, vk_vector}
use Rattle.signature.specs.Matrix.{matrix, filled}
use Rattle.signature.specs.Outcome.{first_no, held_or, set_known, found_in}
use Rattle.signature.specs.Recover.{recovered, adjusted}

-- lines 6 to 8: the challenge hash recomputed, of the matrix, t, mu, the fields and the challenge polynomial
unfoldable pub recomputed : Params → List ℕ → List ℕ → List ℕ → Fields → List ℤ → List ℕ
recomputed p A t mu f c = chal_hash p (adjusted (recovered p A (residues q f.response) (residues q c) t) f.hint) mu

-- .. of the matrix and the challenge polynomial that checks 10 and 11 are about
abbrev pub recomputed_for : Params → List ℕ → List ℕ → Fields → List ℕ
recomputed_for p vk msg f =
    recomputed p (held_or (matrix p (vk_seed p vk)) []) (vk_vector p vk) (mu_of p vk msg) f (held_or (chal_poly p f.hash) [])

-- lines 4, 5 and 9, of the fields
abbrev pub hash_checks : Params → List ℕ → List ℕ → Fields → List (ℕ × Bool)
hash_checks p vk msg f =
    (10, filled (matrix p (vk_seed p vk))) ∷ (11, filled (chal_poly p f.hash)) ∷ (16, hash_equal f (recomputed_for p vk msg f)) ∷ []

-- the fields that are read; where none can be, check 14 is a no, and these are not looked at
abbrev pub fields_in : Option Fields → Fields
fields_in (some f) = f
fields_in none = record { hash = []; hint = []; response = [] }

-- s is the look-up's answer, with any share count, on which no verdict depends; p is the record found in it
abbrev pub verify_checks : Result Params Unknown → Params → List ℕ → List ℕ → List ℕ → List (ℕ × Bool)
verify_checks s p vk msg sig =
    (1, set_known s)
    ∷ (3, public_key_sized p vk)
    ∷ (4, public_key_good p vk)
    ∷ (9, message_sized msg)
    ∷ (13, signature_sized p sig)
    ∷ (14, proper_form p sig)
    ∷ (15, check_bounds p (fields_in (read p sig)))
    ∷ hash_checks p vk msg (fields_in (read p sig))

unfoldable pub verify_call : Edition → ℕ → List ℕ → List ℕ → List ℕ → ℕ
verify_call e set vk msg sig =
    let s = lookup_of set 1 e in
    first_no (verify_checks s (found_in s) vk msg sig)
