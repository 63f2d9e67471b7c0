-- What a signing call takes (02, #103): the lengths of its seeds and of its work buffer, by the definitions that checks 7 and 8 of signing cite.
use Rattle.std.specs.Prelude.{Bool, List, [], ◌∷◌, ℕ, zero, suc, Result}
use Rattle.hash.specs.Params.{lookup_of}
use Rattle.hash.specs.declared.params.Edition.{Edition}
use Rattle.hash.specs.declared.params.Params.{Params}
use Rattle.hash.specs.declared.params.Unknown.{Unknown}
use Rattle.signature.specs.Checks.{attempts_allowed, noise_seed_bytes, mask_seed_bytes, work_words}
use Rattle.signature.specs.Outcome.{first_no, set_known, shares_known, found_in}
use Rattle.sizes.specs.declared.lengths.SigningLengths.{SigningLengths}

-- n is the number of attempts allowed (01: tries), s the look-up's answer; the edition makes no difference here
abbrev pub lengths_checks : Result Params Unknown → ℕ → List (ℕ × Bool)
lengths_checks s n = (1, set_known s) ∷ (2, shares_known s) ∷ (6, attempts_allowed n) ∷ []

-- with status 0 the lengths, else zeros
abbrev pub no_lengths : ℕ → SigningLengths
no_lengths m = record { status = m; noise_seed_bytes = 0; mask_seed_bytes = 0; work_words = 0 }

abbrev pub lengths_told : ℕ → Params → ℕ → SigningLengths
lengths_told zero p n =
    record {
      status = 0;
      noise_seed_bytes = noise_seed_bytes p n;
      mask_seed_bytes = mask_seed_bytes n;
      work_words = work_words p;
    }
lengths_told (suc m) p n = no_lengths (suc m)

abbrev pub lengths_by : Result Params Unknown → ℕ → SigningLengths
lengths_by s n = lengths_told (first_no (lengths_checks s n)) (found_in s) n

unfoldable pub lengths_call : ℕ → ℕ → ℕ → SigningLengths
lengths_call set d n = lengths_by (lookup_of set d Edition.Printed) n
