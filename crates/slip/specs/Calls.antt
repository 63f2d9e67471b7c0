-- Reading and writing a slip (02, #101): 17, 18 and 19 ahead of the verifier's own checks; the writer puts 19, then 8. No call has a work buffer.
use Rattle.std.specs.Prelude.{Bool, List, [], ◌∷◌, ℕ, zero, suc, eqb, leb, length, take, drop}
use Rattle.hash.specs.declared.params.Edition.{Edition}
use Rattle.signature.specs.Checks.{first_no, both, same_bytes}
use Rattle.signature.specs.Outcome.{written}
use Rattle.signature.specs.Verify.{verify_call}
use Rattle.slip.specs.Format.{Slip, slip_of, slip_mark, slip_version, slip_bytes, text_length, signature_at, message_in, signature_in, slip_in, set_by_size, set_in}
use Rattle.slip.specs.declared.read.ReadSlip.{ReadSlip}

-- 17. Is the mark there?
abbrev pub mark_there : List ℕ → Bool
mark_there b = same_bytes (take 3 b) slip_mark

-- 18. Is the version there, and 1?
abbrev pub version_there : List ℕ → Bool
version_there b = same_bytes (take 2 (drop 3 b)) slip_version

-- 19. Has the text at most 512 bytes, and has a set signatures of as many bytes as this?
abbrev pub parts_fit : ℕ → ℕ → Bool
parts_fit text sig = both (leb text 512) (leb 1 (set_by_size sig))

-- .. of a slip that is read: are its 10 leading bytes there? A text that reaches past the end leaves no byte for the signature
abbrev pub slip_fits : List ℕ → Bool
slip_fits b = both (leb 10 (length b)) (parts_fit (text_length b) (length (signature_in b)))

-- ---- reading: b is the slip

abbrev pub slip_checks : List ℕ → List (ℕ × Bool)
slip_checks b = (17, mark_there b) ∷ (18, version_there b) ∷ (19, slip_fits b) ∷ []

-- the verdict, as of a bare signature
abbrev pub verdict_on : List ℕ → List ℕ → ℕ
verdict_on vk b = verify_call Edition.Printed (set_in b) vk (message_in b) (signature_in b)

-- the fields beside a verdict, text and signature by place
abbrev pub fields_beside : ℕ → List ℕ → ReadSlip
fields_beside verdict b =
    record {
      status = verdict;
      movement = (slip_in b).movement;
      track = (slip_in b).track;
      set = set_in b;
      text_at = 10;
      text_len = text_length b;
      signature_at = signature_at b;
      signature_len = length (signature_in b);
    }

-- the reader's own refusals bring none
abbrev pub no_fields : ℕ → ReadSlip
no_fields n =
    record { status = n; movement = 0; track = 0; set = 0; text_at = 0; text_len = 0; signature_at = 0; signature_len = 0 }

abbrev pub read_by : ℕ → List ℕ → List ℕ → ReadSlip
read_by zero vk b = fields_beside (verdict_on vk b) b
read_by (suc n) vk b = no_fields (suc n)

unfoldable pub read_slip_call : List ℕ → List ℕ → ReadSlip
read_slip_call vk b = read_by (first_no (slip_checks b)) vk b

-- the slip that an answer of the reader tells of the bytes b
abbrev pub told_of : ReadSlip → List ℕ → Slip
told_of r b =
    slip_of r.movement r.track (take r.text_len (drop r.text_at b)) (take r.signature_len (drop r.signature_at b))

-- ---- writing: the status, and what the buffer holds afterwards

abbrev pub write_checks : Slip → List ℕ → List (ℕ × Bool)
write_checks s out = (19, parts_fit (length s.text) (length s.signature)) ∷ (8, eqb (length out) (length (slip_bytes s))) ∷ []

unfoldable pub write_slip_call : Slip → List ℕ → ℕ × List ℕ
write_slip_call s out =
    let n = first_no (write_checks s out) in
    (n, written n (slip_bytes s) out)
