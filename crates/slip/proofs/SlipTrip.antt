-- The round trips of a slip (02, #101): what was written reads back to its fields, and what was read writes back to its bytes.
use mathlib.Core.Path.{◌≡◌, refl, sym, ap, ◌∙◌}
use mathlib.Core.Bool.{Bool, true}
use mathlib.Core.List.{List, ◌++◌, append_assoc}
use Prim.Native.Nat.{ℕ, ◌+◌, ◌^◌, ◌≤◌, ◌<◌}
use native.Mathlib.Omega.{arith}
use borrow.Author.Tests.{leb-true, le-leb}
use lib.Dec.{leb}
use lib.ListN.{length, take, drop, length-append, length-drop, take-append-drop}
use lib.Seq.{length-take-le, take-append_seam, drop-append_seam, take-add, drop-drop}
use Rattle.hash.specs.Endian.{le_bytes}
use Rattle.hash.specs.Lists.{Bytes, table, pick}
use Rattle.hash.proofs.Word.{bytes-entry}
use Rattle.ring.proofs.Checks.{asked, both_true}
use Rattle.signature.specs.Checks.{first_no, both}
use Rattle.signature.proofs.SameBytes.{same_refl, same-eq}
use Rattle.slip.specs.Calls.{mark_there, version_there, parts_fit, slip_fits, slip_checks}
use Rattle.slip.specs.Format.{Slip, slip_of, slip_mark, slip_version, leading, slip_message, slip_bytes, number_at, text_length, signature_at, message_in, signature_in, slip_in, set_by_size, set_in}
use Rattle.slip.proofs.Numbers.{number-there, bytes-there}
use Rattle.slip.proofs.SetSizes.{size_fits}

-- ---- a slip that was written

-- the fields that a slip has room for
pub record FieldsFit (s : Slip) : Type 0 where
  pub movement-low : s.movement < 2 ^ 16
  pub track-low : s.track < 2 ^ 8
  pub parts : parts_fit (length s.text) (length s.signature) ≡ true

pub length-leading : (m t n : ℕ) → length (leading m t n) ≡ 10
unfolding leading table
length-leading m t n = refl

message-long : (s : Slip) → length (slip_message s) ≡ 10 + length s.text
message-long s =
    let n = length s.text in
    length-append (leading s.movement s.track n) s.text ∙ ap (λ (k : ℕ). k + n) (length-leading s.movement s.track n)

pub slip-long : (s : Slip) → length (slip_bytes s) ≡ 10 + length s.text + length s.signature
slip-long s = length-append (slip_message s) s.signature ∙ ap (λ (k : ℕ). k + length s.signature) (message-long s)

module _ (m t n : ℕ) (r : List ℕ) where
  abbrev b : List ℕ
  b = leading m t n ++ r

  movement-at : m < 2 ^ 16 → number_at b 5 2 ≡ m
  unfolding leading table
  movement-at h = number-there (slip_mark ++ slip_version) (le_bytes 1 t ++ (le_bytes 2 n ++ r)) m 2 h

  track-at : t < 2 ^ 8 → number_at b 7 1 ≡ t
  unfolding leading table
  track-at h = number-there (slip_mark ++ (slip_version ++ le_bytes 2 m)) (le_bytes 2 n ++ r) t 1 h

  length_at : n < 2 ^ 16 → number_at b 8 2 ≡ n
  unfolding leading table
  length_at h = number-there (slip_mark ++ (slip_version ++ (le_bytes 2 m ++ le_bytes 1 t))) r n 2 h

  front-there : (mark_there b ≡ true) × (version_there b ≡ true)
  unfolding leading table
  front-there = (same_refl slip_mark, same_refl slip_version)

pub text-low : (s : Slip) → FieldsFit s → length s.text < 2 ^ 16
text-low s f = omega (arith, leb-true (length s.text) 512 (both_true (leb (length s.text) 512) _ f.parts).0)

module _ (s : Slip) where
  abbrev m : ℕ
  m = s.movement

  abbrev t : ℕ
  t = s.track

  abbrev n : ℕ
  n = length s.text

  abbrev r : List ℕ
  r = s.text ++ s.signature

  flat : slip_bytes s ≡ leading m t n ++ r
  flat = append_assoc (leading m t n) s.text s.signature

  module _ (l : n < 2 ^ 16) where
    text-length : text_length (slip_bytes s) ≡ n
    text-length = ap (λ (b : List ℕ). number_at b 8 2) flat ∙ length_at m t n r l

    signature-place : signature_at (slip_bytes s) ≡ length (slip_message s)
    signature-place = ap (λ (k : ℕ). 10 + k) text-length ∙ sym (message-long s)

    -- the signed message and the signature are where they were put
    pub message-back : message_in (slip_bytes s) ≡ slip_message s
    message-back = ap (λ (k : ℕ). take k (slip_bytes s)) signature-place ∙ take-append_seam (slip_message s) s.signature

    pub signature-back : signature_in (slip_bytes s) ≡ s.signature
    signature-back = ap (λ (k : ℕ). drop k (slip_bytes s)) signature-place ∙ drop-append_seam (slip_message s) s.signature

    text-back : take (text_length (slip_bytes s)) (drop 10 (slip_bytes s)) ≡ s.text
    text-back =
        let d : drop 10 (slip_bytes s) ≡ r =
        ap (λ (b : List ℕ). drop 10 b) flat ∙ ap (λ (k : ℕ). drop k (leading m t n ++ r)) (sym (length-leading m t n)) ∙ drop-append_seam (leading m t n) r in
        ap (λ (k : ℕ). take k (drop 10 (slip_bytes s))) text-length ∙ ap (λ (b : List ℕ). take n b) d ∙ take-append_seam s.text s.signature

    -- the reader's own checks: mark, version and leading bytes are there
    pub checks-left : first_no (slip_checks (slip_bytes s)) ≡ pick (parts_fit n (length s.signature)) 0 19
    checks-left =
        let w = front-there m t n r in
        let a : mark_there (slip_bytes s) ≡ true = ap mark_there flat ∙ w.0 in
        let c : version_there (slip_bytes s) ≡ true = ap version_there flat ∙ w.1 in
        let g : slip_fits (slip_bytes s) ≡ parts_fit n (length s.signature) =
        ap (λ (x : Bool). both x (parts_fit (text_length (slip_bytes s)) (length (signature_in (slip_bytes s))))) (le-leb 10 (length (slip_bytes s)) (omega (arith, slip-long s)))
        ∙ ap (λ (k : ℕ). parts_fit k (length (signature_in (slip_bytes s)))) text-length ∙ ap (λ (x : List ℕ). parts_fit n (length x)) signature-back in
        rw (a, c, g) refl

  module _ (f : FieldsFit s) where
    -- all fields come back
    pub slip-back : slip_in (slip_bytes s) ≡ s
    slip-back =
        let l = text-low s f in
        let a : number_at (slip_bytes s) 5 2 ≡ m = ap (λ (b : List ℕ). number_at b 5 2) flat ∙ movement-at m t n r f.movement-low in
        let c : number_at (slip_bytes s) 7 1 ≡ t = ap (λ (b : List ℕ). number_at b 7 1) flat ∙ track-at m t n r f.track-low in
        let x : slip_in (slip_bytes s) ≡ slip_of m t s.text s.signature = rw (a, c, text-back l, signature-back l) refl in
        x

    -- and the reader's own checks pass
    pub written-passes : first_no (slip_checks (slip_bytes s)) ≡ 0
    written-passes = checks-left (text-low s f) ∙ ap (λ (x : Bool). pick x 0 19) f.parts

-- ---- a slip that was read

-- what the reader's checks say of bytes that pass them
pub record SlipPassed (b : List ℕ) : Type 0 where
  pub mark-is : take 3 b ≡ slip_mark
  pub version-is : take 2 (drop 3 b) ≡ slip_version
  pub leading-there : 10 ≤ length b
  pub text-short : text_length b ≤ 512
  pub known : 1 ≤ set_in b
  pub inside : signature_at b ≤ length b

pub slip-passed : (b : List ℕ) → first_no (slip_checks b) ≡ 0 → SlipPassed b
slip-passed b h =
    let k = length (signature_in b) in
    let a17 = asked 16 (mark_there b) _ h in
    let a18 = asked 17 (version_there b) _ a17.1 in
    let a19 = (asked 18 (slip_fits b) 0 a18.1).0 in
    let x = both_true (leb 10 (length b)) (parts_fit (text_length b) k) a19 in
    let y = both_true (leb (text_length b) 512) (leb 1 (set_by_size k)) x.1 in
    let known : 1 ≤ set_by_size k = leb-true 1 (set_by_size k) y.1 in
    record {
      mark-is = same-eq (take 3 b) slip_mark a17.0;
      version-is = same-eq (take 2 (drop 3 b)) slip_version a18.0;
      leading-there = leb-true 10 (length b) x.0;
      text-short = leb-true (text_length b) 512 y.0;
      known = known;
      inside = omega (arith, (size_fits k known).low, length-drop (signature_at b) b);
    }

-- the first n bytes from i on, and the m behind them
next : (i n m : ℕ) (b : List ℕ) → take (n + m) (drop i b) ≡ take n (drop i b) ++ take m (drop (i + n) b)
next i n m b = take-add n m (drop i b) ∙ ap (λ (x : List ℕ). take n (drop i b) ++ take m x) (drop-drop n i b)

-- the leading bytes are those of the numbers in them
leading-again : (b : List ℕ) → Bytes b → SlipPassed b → leading (number_at b 5 2) (number_at b 7 1) (text_length b) ≡ take 10 b
unfolding leading
leading-again b l a =
    let n : ℕ → ℕ → List ℕ = λ i k. take k (drop i b) in
    let there : (i k : ℕ) → i + k ≤ 10 → le_bytes k (number_at b i k) ≡ n i k = λ i k h. bytes-there b i k (bytes-entry b l) (omega (arith, h, a.leading-there)) in
    let all : take 10 b ≡ n 0 3 ++ (n 3 2 ++ (n 5 2 ++ (n 7 1 ++ n 8 2))) =
    next 0 3 7 b ∙ ap (λ (x : List ℕ). n 0 3 ++ x) (next 3 2 5 b ∙ ap (λ (x : List ℕ). n 3 2 ++ x) (next 5 2 3 b ∙ ap (λ (x : List ℕ). n 5 2 ++ x) (next 7 1 2 b))) in
    let five : List ℕ → List ℕ → List ℕ → List ℕ → List ℕ → List ℕ = λ v w x y z. v ++ (w ++ (x ++ (y ++ z))) in
    let fields : List ℕ → List ℕ → List ℕ = λ v w. five v w (le_bytes 2 (number_at b 5 2)) (le_bytes 1 (number_at b 7 1)) (le_bytes 2 (text_length b)) in
    ap (λ (v : List ℕ). fields v slip_version) (sym a.mark-is) ∙ ap (fields (n 0 3)) (sym a.version-is)
    ∙ ap (λ (x : List ℕ). five (n 0 3) (n 3 2) x (le_bytes 1 (number_at b 7 1)) (le_bytes 2 (text_length b))) (there 5 2 (omega arith))
    ∙ ap (λ (y : List ℕ). five (n 0 3) (n 3 2) (n 5 2) y (le_bytes 2 (text_length b))) (there 7 1 (omega arith))
    ∙ ap (five (n 0 3) (n 3 2) (n 5 2) (n 7 1)) (there 8 2 (omega arith)) ∙ sym all

-- what was read is written again, byte for byte
pub slip-again : (b : List ℕ) → Bytes b → first_no (slip_checks b) ≡ 0 → slip_bytes (slip_in b) ≡ b
slip-again b l h =
    let a = slip-passed b h in
    let n = text_length b in
    let text = take n (drop 10 b) in
    let long : length text ≡ n = length-take-le n (drop 10 b) (omega (arith, length-drop 10 b, a.inside)) in
    let front : leading (number_at b 5 2) (number_at b 7 1) (length text) ≡ take 10 b =
    ap (λ (k : ℕ). leading (number_at b 5 2) (number_at b 7 1) k) long ∙ leading-again b l a in
    ap (λ (x : List ℕ). (x ++ text) ++ signature_in b) front
    ∙ ap (λ (x : List ℕ). x ++ signature_in b) (sym (take-add 10 n b))
    ∙ take-append-drop (10 + n) b
