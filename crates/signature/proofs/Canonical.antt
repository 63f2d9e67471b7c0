-- The byte form of a signature: what is written is read back, and a string is the one that the writer makes exactly if its fill is 0 (check 14).
use Prim.Native.Nat.{ℕ, zero, suc, ◌+◌, ◌*◌, ◌-◌, ◌^◌, ◌≤◌, ◌<◌}
use mathlib.Core.Path.{◌≡◌, refl, sym, ap, subst, ◌∙◌}
use mathlib.Core.Bool.{Bool, true, false}
use mathlib.Core.List.{List, [], ◌∷◌, ◌++◌, append_assoc}
use mathlib.Core.Option.{Option, some, none}
use native.Mathlib.Omega.{arith}
use native.Mathlib.Nat.{le_of_suc-le-suc, mod-eq_of_lt}
use lib.Dec.{lit<, leb}
use lib.IntN.{ℤ}
use lib.ListN.{length, get_or, take, drop, replicate, length-append, length-replicate, take-append-drop}
use lib.Seq.{take_at, drop_at, length-take-le}
use borrow.Author.Tests.{le-leb, lt-leb, leb-true, leb-false}
use Rattle.hash.specs.Lists.{pick, Bytes}
use Rattle.hash.specs.declared.params.Params.{Params}
use Rattle.signature.specs.Bits.{bits_of, val_of, bit_string, chop}
use Rattle.signature.specs.Code.{code, codes}
use Rattle.signature.specs.Form.{Fields, hash_bytes, form_bits, signature_bits, bit_count, with_fill, write, read_both, read}
use Rattle.signature.specs.AnswerSteps.{fields_of, all_zero}
use Rattle.signature.proofs.Strings.{Bits, bits-drop, bits-join, fields_bits, length-bits, length_fields}
use Rattle.signature.proofs.Packing.{val-bits, chop-fields, fields-append, length-chop, fields-chop, bytes_lt}
use Rattle.signature.proofs.Codes.{bits-replicate, code-are}
use Rattle.signature.proofs.Filled.{zeros-are, are-zeros, bits-length}
use Rattle.signature.proofs.Reading.{both-trip, both-canon, ZeroFilled}

-- ---- the bits of the fields are 0 and 1

codes-are : (w : ℕ) (zs : List ℤ) → Bits (codes w zs)
unfolding codes
codes-are w [] i = lit< tt
codes-are w (z ∷ zs) i = bits-join (code w z) (codes w zs) (code-are w z) (codes-are w zs) i

form-are : (f : Fields) → Bits (form_bits f)
unfolding form_bits
form-are f =
    bits-join (bit_string 8 f.hash) (codes 0 f.hint ++ codes 40 f.response) (fields_bits 8 f.hash)
    (bits-join (codes 0 f.hint) (codes 40 f.response) (codes-are 0 f.hint) (codes-are 40 f.response))

-- ---- numbers at the front of a bit string

take-chop : (w k n : ℕ) (l : List ℕ) → k ≤ n → take k (chop w n l) ≡ chop w k l
unfolding chop
take-chop w zero n l h = refl
take-chop w (suc k) zero l h = let x : ⊥ = omega arith in absurd x
take-chop w (suc k) (suc n) l h = ap (λ (m : List ℕ). val_of (take w l) ∷ m) (take-chop w k n (drop w l) (le_of_suc-le-suc h))

chop-front : (w : ℕ) (xs r : List ℕ) → ((i : ℕ) → get_or xs i 0 < 2 ^ w) → chop w (length xs) (bit_string w xs ++ r) ≡ xs
unfolding chop bit_string
chop-front w [] r h = refl
chop-front w (x ∷ xs) r h =
    let e = append_assoc (bits_of w x) (bit_string w xs) r in
    ap (λ (l : List ℕ). val_of (take w l) ∷ chop w (length xs) (drop w l)) e
    ∙ ap (λ (n : ℕ). n ∷ chop w (length xs) (drop w (bits_of w x ++ (bit_string w xs ++ r))))
    (ap val_of (take_at (bits_of w x) (bit_string w xs ++ r) w (length-bits w x)) ∙ val-bits w x ∙ mod-eq_of_lt (h 0))
    ∙ ap (λ (l : List ℕ). x ∷ chop w (length xs) l) (drop_at (bits_of w x) (bit_string w xs ++ r) w (length-bits w x))
    ∙ ap (λ (l : List ℕ). x ∷ l) (chop-front w xs r (λ i. h (suc i)))

-- ---- the writer

-- the count, as the code makes it
pub count-is : (c : List ℕ) (h z : List ℤ) → signature_bits (length c) h z ≡ bit_count (fields_of c h z)
unfolding bit_count
count-is c h z = refl

module _ (p : Params) (f : Fields) where
  pub write-fits : bit_count f ≤ 8 * p.sig_bytes → write p f ≡ some (chop 8 p.sig_bytes (with_fill f p.sig_bytes))
  unfolding write
  write-fits h = rw (le-leb _ _ h)

  pub write-none : 8 * p.sig_bytes < bit_count f → write p f ≡ none
  unfolding write
  write-none h = rw (lt-leb _ _ h)

  -- none only there
  pub none-long : write p f ≡ none → 8 * p.sig_bytes < bit_count f
  unfolding write
  none-long e = go (leb (bit_count f) (8 * p.sig_bytes)) refl e
    where
      go : (d : Bool) → leb (bit_count f) (8 * p.sig_bytes) ≡ d → pick d (some (chop 8 p.sig_bytes (with_fill f p.sig_bytes))) none ≡ none
          → 8 * p.sig_bytes < bit_count f
      go true d e = let x : ◌≡◌ {A = ℕ} 0 1 = cc in absurd (omega arith)
      go false d e = leb-false (bit_count f) (8 * p.sig_bytes) d

module _ (p : Params) (f : Fields) (b : List ℕ) where
  pub write-some : write p f ≡ some b → (bit_count f ≤ 8 * p.sig_bytes) × (b ≡ chop 8 p.sig_bytes (with_fill f p.sig_bytes))
  unfolding write
  write-some e = go (leb (bit_count f) (8 * p.sig_bytes)) refl e
    where
      go : (d : Bool) → leb (bit_count f) (8 * p.sig_bytes) ≡ d → pick d (some (chop 8 p.sig_bytes (with_fill f p.sig_bytes))) none ≡ some b
          → (bit_count f ≤ 8 * p.sig_bytes) × (b ≡ chop 8 p.sig_bytes (with_fill f p.sig_bytes))
      go true d e = (leb-true (bit_count f) (8 * p.sig_bytes) d, cc)
      go false d e = let x : ◌≡◌ {A = ℕ} 0 1 = cc in absurd (omega arith)

  pub write-length : write p f ≡ some b → length b ≡ p.sig_bytes
  write-length e = ap length (write-some e).1 ∙ length-chop 8 p.sig_bytes (with_fill f p.sig_bytes)

  with_fill-are : Bits (with_fill f p.sig_bytes)
  with_fill-are = bits-join (form_bits f) (replicate (8 * p.sig_bytes - bit_count f) 0) (form-are f) (bits-replicate (8 * p.sig_bytes - bit_count f) 0 (lit< tt))

  -- the bits of what is written
  pub write-bits : write p f ≡ some b → bit_string 8 b ≡ with_fill f p.sig_bytes
  write-bits e =
      let n = p.sig_bytes in
      let z : ℕ = 0 in
      let l : length (with_fill f n) ≡ n * 8 =
      length-append (form_bits f) (replicate (8 * n - bit_count f) z)
      ∙ omega (arith, bits-length f.hash f.hint f.response, length-replicate (8 * n - bit_count f) z, (write-some e).0) in
      ap (bit_string 8) (write-some e).1 ∙ fields-chop 8 n (with_fill f n) with_fill-are l

-- ---- the reader, by what the two lists give

module _ (p : Params) (b : List ℕ) where
  abbrev pub behind : List ℕ
  behind = drop (8 * hash_bytes p) (bit_string 8 b)

  none_read : read_both (p.k * 512) (p.l * 512) behind ≡ none → read p b ≡ none
  unfolding read
  none_read e = rw e

  read-fields : (h z : List ℤ) (k : ℕ) → read_both (p.k * 512) (p.l * 512) behind ≡ some (h, z, k) → read p b ≡ some (fields_of (take (hash_bytes p) b) h z)
  unfolding read
  read-fields h z k e = rw e

-- ---- what is written is read back

-- fields of the sizes of a set
pub record Sized (p : Params) (f : Fields) : Type 0 where
  pub hash-long : length f.hash ≡ hash_bytes p
  pub hash-bytes : Bytes f.hash
  pub hint-long : length f.hint ≡ p.k * 512
  pub response-long : length f.response ≡ p.l * 512

pub write_read : (p : Params) (f : Fields) (b : List ℕ) → Sized p f → write p f ≡ some b → read p b ≡ some f
unfolding form_bits bit_count
write_read p f b s e =
    let n = p.sig_bytes in
    let H = hash_bytes p in
    let F = bit_string 8 f.hash in
    let C = codes 0 f.hint in
    let D = codes 40 f.response in
    let Z : List ℕ = replicate (8 * n - bit_count f) 0 in
    let r : with_fill f n ≡ F ++ (C ++ (D ++ Z)) = append_assoc F (C ++ D) Z ∙ ap (λ (l : List ℕ). F ++ l) (append_assoc C D Z) in
    let o = write-some p f b e in
    let lf : length F ≡ 8 * H = length_fields 8 f.hash ∙ omega (arith, s.hash-long) in
    let t : drop (8 * H) (bit_string 8 b) ≡ C ++ (D ++ Z) =
    ap (drop (8 * H)) (write-bits p f b e ∙ r) ∙ drop_at F (C ++ (D ++ Z)) (8 * H) lf in
    let a : read_both (p.k * 512) (p.l * 512) (drop (8 * H) (bit_string 8 b)) ≡ some (f.hint, f.response, length C + length D) =
    ap (read_both (p.k * 512) (p.l * 512)) t ∙ ap (λ (m : ℕ). read_both m (p.l * 512) (C ++ (D ++ Z))) (sym s.hint-long)
    ∙ ap (λ (m : ℕ). read_both (length f.hint) m (C ++ (D ++ Z))) (sym s.response-long) ∙ both-trip f.hint f.response Z in
    let c : take H b ≡ f.hash =
    ap (take H) o.1 ∙ take-chop 8 H n (with_fill f n) (omega (arith, o.0, s.hash-long)) ∙ ap (λ (m : ℕ). chop 8 m (with_fill f n)) (sym s.hash-long)
    ∙ ap (chop 8 (length f.hash)) r ∙ chop-front 8 f.hash (C ++ (D ++ Z)) (bytes_lt f.hash s.hash-bytes) in
    read-fields p b f.hint f.response (length C + length D) a ∙ ap (λ (x : List ℕ). some (fields_of x f.hint f.response)) c

-- ---- what is read, and its bits

-- f was read from b: where the lists end, counted from the hash
pub record Found (p : Params) (b : List ℕ) (f : Fields) : Type 0 where
  pub place : ℕ
  pub hash-is : take (hash_bytes p) b ≡ f.hash
  pub both_is : read_both (p.k * 512) (p.l * 512) (behind p b) ≡ some (f.hint, f.response, place)

pub read_found : (p : Params) (b : List ℕ) (f : Fields) → read p b ≡ some f → Found p b f
read_found p b f e = go (read_both (p.k * 512) (p.l * 512) (behind p b)) refl
  where
    go : (o : Option (List ℤ × List ℤ × ℕ)) → read_both (p.k * 512) (p.l * 512) (behind p b) ≡ o → Found p b f
    go none g = let n = none_read p b g in let x : ◌≡◌ {A = ℕ} 0 1 = cc in absurd (omega arith)
    go (some x) g =
        let r = read-fields p b x.0 x.1 x.2 g in
        let q : fields_of (take (hash_bytes p) b) x.0 x.1 ≡ f = cc in
        record { place = x.2; hash-is = ap (λ (y : Fields). y.hash) q; both_is = g ∙ ap (λ (y : Fields). some (y.hint, y.response, x.2)) q }

behind-bits : (p : Params) (b : List ℕ) → Bits (behind p b)
behind-bits p b = bits-drop (8 * hash_bytes p) (bit_string 8 b) (fields_bits 8 b)

module _ (p : Params) (b : List ℕ) (f : Fields) (size : hash_bytes p ≤ length b) (r : Found p b f) where
  abbrev fill : List ℕ
  fill = drop r.place (behind p b)

  -- the bits of b are those of the fields, and the fill
  laid : bit_string 8 b ≡ form_bits f ++ fill
  unfolding form_bits
  laid =
      let H = hash_bytes p in
      let F = bit_string 8 b in
      let t = behind p b in
      let lf : length (bit_string 8 (take H b)) ≡ 8 * H = length_fields 8 (take H b) ∙ omega (arith, length-take-le H b size) in
      let s : F ≡ bit_string 8 (take H b) ++ bit_string 8 (drop H b) = ap (bit_string 8) (sym (take-append-drop H b)) ∙ fields-append 8 (take H b) (drop H b) in
      let a : take (8 * H) F ≡ bit_string 8 f.hash =
      ap (take (8 * H)) s ∙ take_at (bit_string 8 (take H b)) (bit_string 8 (drop H b)) (8 * H) lf ∙ ap (bit_string 8) r.hash-is in
      let c = (both-canon (p.k * 512) (p.l * 512) t f.hint f.response r.place (behind-bits p b) r.both_is).0 in
      sym (append_assoc (bit_string 8 f.hash) (codes 0 f.hint ++ codes 40 f.response) fill
      ∙ ap (λ (l : List ℕ). bit_string 8 f.hash ++ l) (ap (λ (l : List ℕ). l ++ fill) (sym c) ∙ take-append-drop r.place t)
      ∙ ap (λ (l : List ℕ). l ++ t) (sym a) ∙ take-append-drop (8 * H) F)

  pub fill_is : drop (bit_count f) (bit_string 8 b) ≡ fill
  fill_is = ap (drop (bit_count f)) laid ∙ drop_at (form_bits f) fill (bit_count f) (bits-length f.hash f.hint f.response)

  counted : bit_count f + length fill ≡ 8 * length b
  counted =
      let l = length_fields 8 b in
      omega (arith, ap length laid, length-append (form_bits f) fill, bits-length f.hash f.hint f.response)

  -- check 14: b is the very string that the writer makes of the fields read, exactly if every bit behind them is 0
  module _ (long : length b ≡ p.sig_bytes) where
    pub zero-canonical : Bytes b → all_zero (drop (bit_count f) (bit_string 8 b)) ≡ true → write p f ≡ some b
    zero-canonical byte z =
        let n = p.sig_bytes in
        let l : length fill ≡ 8 * n - bit_count f = omega (arith, counted) in
        let e : fill ≡ replicate (8 * n - bit_count f) 0 =
        are-zeros fill (ap all_zero (sym fill_is) ∙ z) ∙ ap (λ (k : ℕ). replicate k 0) l in
        write-fits p f (omega (arith, counted))
        ∙ ap (λ (x : List ℕ). some (chop 8 n x)) (sym (laid ∙ ap (λ (x : List ℕ). form_bits f ++ x) e))
        ∙ ap (λ (k : ℕ). some (chop 8 k (bit_string 8 b))) (sym long) ∙ ap some (chop-fields 8 b (bytes_lt b byte))

    pub canonical-zero : write p f ≡ some b → all_zero (drop (bit_count f) (bit_string 8 b)) ≡ true
    canonical-zero e =
        ap (λ (x : List ℕ). all_zero (drop (bit_count f) x)) (write-bits p f b e)
        ∙ ap all_zero (drop_at (form_bits f) (replicate (8 * p.sig_bytes - bit_count f) 0) (bit_count f) (bits-length f.hash f.hint f.response))
        ∙ zeros-are (8 * p.sig_bytes - bit_count f)

pub read-canonical : (p : Params) (b : List ℕ) (f : Fields) → Bytes b → length b ≡ p.sig_bytes → hash_bytes p ≤ length b → read p b ≡ some f
    → (all_zero (drop (bit_count f) (bit_string 8 b)) ≡ true → write p f ≡ some b) × (write p f ≡ some b → all_zero (drop (bit_count f) (bit_string 8 b)) ≡ true)
read-canonical p b f byte long size e = let r = read_found p b f e in (zero-canonical p b f size r long byte, canonical-zero p b f size r long)

-- fields that were read take no more bits than were there (02, #103)
pub read_fits : (p : Params) (b : List ℕ) (f : Fields) → hash_bytes p ≤ length b → read p b ≡ some f → bit_count f ≤ 8 * length b
read_fits p b f size e = omega (arith, counted p b f size (read_found p b f e))

-- what is read has the set's sizes
bytes_take : (n : ℕ) (xs : List ℕ) → Bytes xs → Bytes (take n xs)
bytes_take zero xs b = tt
bytes_take (suc n) [] b = tt
bytes_take (suc n) (x ∷ xs) b = (b.0, bytes_take n xs b.1)

pub read-sized : (p : Params) (b : List ℕ) (f : Fields) → Bytes b → hash_bytes p ≤ length b → read p b ≡ some f → Sized p f
read-sized p b f byte size e =
    let r = read_found p b f e in
    let c = both-canon (p.k * 512) (p.l * 512) (behind p b) f.hint f.response r.place (behind-bits p b) r.both_is in
    record {
      hash-long = ap length (sym r.hash-is) ∙ length-take-le (hash_bytes p) b size;
      hash-bytes = subst Bytes r.hash-is (bytes_take (hash_bytes p) b byte);
      hint-long = c.1;
      response-long = c.2;
    }

-- ---- the code's test

module _ (p : Params) (b : List ℕ) (byte : Bytes b) (long : length b ≡ p.sig_bytes) (size : hash_bytes p ≤ length b) where
  -- the code accepts: the fields are those that the definition reads, and b is what is written of them
  pub read-accepted : (h z : List ℤ) → ZeroFilled (p.k * 512) (p.l * 512) (behind p b) h z
      → (read p b ≡ some (fields_of (take (hash_bytes p) b) h z)) × (write p (fields_of (take (hash_bytes p) b) h z) ≡ some b)
  read-accepted h z a =
      let f = fields_of (take (hash_bytes p) b) h z in
      let r : Found p b f = record { place = a.place; hash-is = refl; both_is = a.both_is } in
      (read-fields p b h z a.place a.both_is, zero-canonical p b f size r long byte (ap all_zero (fill_is p b f size r) ∙ a.fill-zero))

  -- and it refuses where there are no such fields
  pub read-refused : (f : Fields) → ((h z : List ℤ) → ZeroFilled (p.k * 512) (p.l * 512) (behind p b) h z → ⊥) → read p b ≡ some f → write p f ≡ some b → ⊥
  read-refused f never g k =
      let r = read_found p b f g in
      let z = ap all_zero (sym (fill_is p b f size r)) ∙ canonical-zero p b f size r long k in
      never f.hint f.response (record { place = r.place; both_is = r.both_is; fill-zero = z })
