-- What a call gives and leaves (01, "Questions put to a call"), and the look-up's answer in a call's checks.
use Rattle.std.specs.Prelude.{Bool, true, false, List, [], ℕ, zero, suc, leb, length, Result, Ok, Err}
use Rattle.hash.specs.Lists.{zeros, pick}
use Rattle.hash.specs.Params.{params_of}
use Rattle.hash.specs.declared.params.Edition.{Edition}
use Rattle.hash.specs.declared.params.Params.{Params}
use Rattle.hash.specs.declared.params.Unknown.{Unknown}
pub use Rattle.ring.specs.Checks.{first_no, both, held_or, written}

pub record Outcome : Type 0 where
  -- 0, or the number of the first no
  pub status : ℕ
  -- the number that is reported beside it: the attempts of signing, 0 of the other calls
  pub reported : ℕ
  -- what the lent buffers of bytes and of words hold afterwards
  pub bytes : List ℕ
  pub words : List ℕ

abbrev pub outcome : ℕ → List ℕ → List ℕ → Outcome
outcome n b w = record { status = n; reported = 0; bytes = b; words = w }

abbrev pub signing : ℕ → ℕ → List ℕ → List ℕ → Outcome
signing n a b w = record { status = n; reported = a; bytes = b; words = w }

-- an answer alone: what is signed and no buffer; with a refusal nothing
abbrev pub answer : ℕ → ℕ → List ℕ → Outcome
answer n a b = record { status = n; reported = a; bytes = b; words = [] }

-- the refusal of checks whose first no is n; with none what follows them
abbrev pub refused_or : ℕ → Outcome → Outcome
refused_or zero A = A
refused_or (suc n) A = answer (suc n) 0 []

-- the work buffer after status n: as it was after 8 or an earlier no, all zero after any later end (results: `written`)
abbrev pub wiped : ℕ → List ℕ → List ℕ
wiped n work = pick (both (leb 1 n) (leb n 8)) work (zeros (length work))

-- ---- the look-up: the answers of checks 1 and 2, and the record found. Where none was found one of the two is a no, so that the record, here
-- all zero, is not looked at

abbrev pub set_known : Result Params Unknown → Bool
set_known (Ok p) = true
set_known (Err Unknown.Set) = false
set_known (Err Unknown.Shares) = true

abbrev pub shares_known : Result Params Unknown → Bool
shares_known (Ok p) = true
shares_known (Err Unknown.Set) = true
shares_known (Err Unknown.Shares) = false

abbrev pub found_in : Result Params Unknown → Params
found_in (Ok p) = p
found_in (Err e) = params_of [] Edition.Printed
