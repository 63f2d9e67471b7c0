-- Release slips (02, #101): one file for each order.
--
--   place    bytes
--   0        3        the mark, `TMR`
--   3        2        the version, 1
--   5        2        movement
--   7        1        track
--   8        2        n, the length of the text, at most 512
--   10       n        text
--   10 + n            signature, as long as the signatures of one of the sets
--
-- Numbers are little-endian. Everything before the signature is the signed message.
use Rattle.std.specs.Prelude.{List, [], ◌∷◌, ◌++◌, ℕ, ◌+◌, eqb, length, get_or, take, drop}
use Rattle.hash.specs.Endian.{le, le_bytes}
use Rattle.hash.specs.Lists.{pick}
use Rattle.hash.specs.Params.{lookup_of}
use Rattle.hash.specs.declared.params.Edition.{Edition}
use Rattle.signature.specs.Outcome.{found_in}

pub record Slip : Type 0 where
  pub movement : ℕ
  pub track : ℕ
  pub text : List ℕ
  pub signature : List ℕ

abbrev pub slip_of : ℕ → ℕ → List ℕ → List ℕ → Slip
slip_of m t text sig = record { movement = m; track = t; text = text; signature = sig }

-- ---- the bytes of a slip

abbrev pub slip_mark : List ℕ
slip_mark = 84 ∷ 77 ∷ 82 ∷ []

abbrev pub slip_version : List ℕ
slip_version = le_bytes 2 1

-- the 10 leading bytes: m movement, t track, n the length of the text
unfoldable pub leading : ℕ → ℕ → ℕ → List ℕ
leading m t n = slip_mark ++ (slip_version ++ (le_bytes 2 m ++ (le_bytes 1 t ++ le_bytes 2 n)))

-- what is signed
abbrev pub slip_message : Slip → List ℕ
slip_message s = leading s.movement s.track (length s.text) ++ s.text

abbrev pub slip_bytes : Slip → List ℕ
slip_bytes s = slip_message s ++ s.signature

-- ---- the slip in bytes

-- the number of n bytes from the place i on
abbrev pub number_at : List ℕ → ℕ → ℕ → ℕ
number_at b i n = le (λ (j : ℕ). get_or b (i + j) 0) n

abbrev pub text_length : List ℕ → ℕ
text_length b = number_at b 8 2

abbrev pub signature_at : List ℕ → ℕ
signature_at b = 10 + text_length b

abbrev pub message_in : List ℕ → List ℕ
message_in b = take (signature_at b) b

abbrev pub signature_in : List ℕ → List ℕ
signature_in b = drop (signature_at b) b

abbrev pub slip_in : List ℕ → Slip
slip_in b = slip_of (number_at b 5 2) (number_at b 7 1) (take (text_length b) (drop 10 b)) (signature_in b)

-- ---- the set follows from the length of the signature

-- the bytes of a signature of a set (000, Tables 2 to 4)
abbrev pub signature_bytes : ℕ → ℕ
signature_bytes set = (found_in (lookup_of set 1 Edition.Printed)).sig_bytes

-- the set whose signatures have n bytes; 0 where there is none
unfoldable pub set_by_size : ℕ → ℕ
set_by_size n = pick (eqb n (signature_bytes 128)) 128 (pick (eqb n (signature_bytes 192)) 192 (pick (eqb n (signature_bytes 256)) 256 0))

abbrev pub set_in : List ℕ → ℕ
set_in b = set_by_size (length (signature_in b))
