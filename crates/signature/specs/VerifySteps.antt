-- Steps (what the code leaves on its way; no call's contract reaches these): the ends of verifying's checks that the code's functions
-- put, each behind those before it.
use Rattle.std.specs.Prelude.{Bool, List, ◌∷◌, ℕ}
use Rattle.hash.specs.declared.params.Params.{Params}
use Rattle.signature.specs.Bounds.{check_bounds}
use Rattle.signature.specs.Checks.{proper_form}
use Rattle.signature.specs.Form.{Fields, read}
use Rattle.signature.specs.Verify.{hash_checks, fields_in}

-- from 15 on, of the fields; from 14 on
abbrev pub field_checks : Params → List ℕ → List ℕ → Fields → List (ℕ × Bool)
field_checks p vk msg f = (15, check_bounds p f) ∷ hash_checks p vk msg f

abbrev pub form_checks : Params → List ℕ → List ℕ → List ℕ → List (ℕ × Bool)
form_checks p vk msg sig = (14, proper_form p sig) ∷ field_checks p vk msg (fields_in (read p sig))
