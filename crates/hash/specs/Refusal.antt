-- The numbers of the refusals (01, "Questions put to a call"; 02, #101 and #105), and the status of a call: 0, or the number of its refusal.
use Rattle.std.specs.Prelude.{Bool, true, false, ℕ, Result, Ok, Err}
use Rattle.hash.specs.declared.refusal.Refusal.{Refusal}

abbrev pub number_of : Refusal → ℕ
number_of Refusal.BadSet = 1
number_of Refusal.BadShareCount = 2
number_of Refusal.BadKeyLength = 3
number_of Refusal.BadPublicKey = 4
number_of Refusal.BadShareWords = 5
number_of Refusal.BadAttempts = 6
number_of Refusal.BadSeeds = 7
number_of Refusal.BadBuffer = 8
number_of Refusal.BadMessageLength = 9
number_of Refusal.UniformNotFilled = 10
number_of Refusal.ChallengeNotFilled = 11
number_of Refusal.NoAttemptPassed = 12
number_of Refusal.BadSignatureLength = 13
number_of Refusal.BadSignatureForm = 14
number_of Refusal.BadSignatureBounds = 15
number_of Refusal.BadSignatureHash = 16
number_of Refusal.BadSlipMark = 17
number_of Refusal.BadSlipVersion = 18
number_of Refusal.BadSlipLength = 19
number_of Refusal.MasksNotFilled = 20

abbrev pub status_of : Result Unit Refusal → ℕ
status_of (Ok x) = 0
status_of (Err e) = number_of e

-- a yes, or the refusal e
abbrev pub unless : Refusal → Bool → Result Unit Refusal
unless e true = Ok tt
unless e false = Err e
