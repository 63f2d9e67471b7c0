-- Steps (what the code leaves on its way; no call's contract reaches these): what a call tells of the answer inside it.
use Rattle.std.specs.Prelude.{ℕ, Result, Ok, Err}
use Rattle.hash.specs.Refusal.{number_of}
use Rattle.hash.specs.declared.refusal.Refusal.{Refusal}
use Rattle.sizes.specs.Lengths.{no_lengths}
use Rattle.sizes.specs.declared.count.CountedBits.{CountedBits}
use Rattle.sizes.specs.declared.lengths.SigningLengths.{SigningLengths}

abbrev pub bits_answered : Result ℕ Refusal → CountedBits
bits_answered (Ok n) = record { status = 0; bits = n }
bits_answered (Err e) = record { status = number_of e; bits = 0 }

-- the bytes of the noise seeds and of the mask seeds, and the words of the work buffer
abbrev pub lengths_answered : Result (ℕ × ℕ × ℕ) Refusal → SigningLengths
lengths_answered (Ok s) = record { status = 0; noise_seed_bytes = s.0; mask_seed_bytes = s.1; work_words = s.2 }
lengths_answered (Err e) = no_lengths (number_of e)
