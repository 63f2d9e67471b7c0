-- Steps (what the code leaves on its way; no call's contract reaches these): where a slip is split.
use Rattle.std.specs.Prelude.{List, ℕ, zero, suc, Result, Ok, Err}
use Rattle.hash.specs.Refusal.{number_of}
use Rattle.hash.specs.declared.refusal.Refusal.{Refusal}
use Rattle.signature.specs.Checks.{first_no}
use Rattle.slip.specs.Format.{signature_at, set_in}
use Rattle.slip.specs.Calls.{slip_checks}

-- the place of the signature and its set, or the number of the first no
abbrev pub split_by : ℕ → List ℕ → Result (ℕ × ℕ) ℕ
split_by zero b = Ok (signature_at b, set_in b)
split_by (suc n) b = Err (suc n)

unfoldable pub split_of : List ℕ → Result (ℕ × ℕ) ℕ
split_of b = split_by (first_no (slip_checks b)) b

-- the same of the code's answer
abbrev pub split_told : Result (ℕ × ℕ) Refusal → Result (ℕ × ℕ) ℕ
split_told (Ok s) = Ok s
split_told (Err e) = Err (number_of e)
