-- Laws of packing: numbers of one width as numbers of another.
use Prim.Native.Nat.{ℕ, zero, suc, ◌+◌, ◌*◌, ◌/◌, ◌%◌, ◌^◌, ◌<◌}
use mathlib.Core.Path.{◌≡◌, refl, sym, ap, ◌∙◌}
use mathlib.Core.List.{List, [], ◌∷◌, ◌++◌, append-nil, append_assoc}
use native.Mathlib.Omega.{arith}
use native.Mathlib.Nat.{mod-eq_of_lt, suc-mul, zero-mul, zero-add}
use native.Mathlib.Numerals.{add-one}
use lib.ListN.{length, get_or, set, take, drop, length-take, length-drop, take-append-drop}
use lib.Seq.{take_at, drop_at, take-suc, take-suc-set, drop-drop, sets, sets-eq, drop-length, length-take-le}
use lib.Pow.{mod-pow-add, pow_pos, pow_mono}
use Rattle.hash.specs.Lists.{Bytes}
use Rattle.signature.specs.Bits.{bits_of, val_of, bit_string, chop, repack}
use Rattle.signature.proofs.Strings.{length-bits, length_fields, Bits, bits-take, bits-drop, bits-val, fields_bits, val-lt}

pub val-bits : (w x : ℕ) → val_of (bits_of w x) ≡ x % 2 ^ w
unfolding val_of bits_of
val-bits zero x = omega arith
val-bits (suc w) x = omega (arith, val-bits w (x / 2), mod-pow-add x w 1, ap (λ (n : ℕ). x % 2 ^ n) (add-one w))

-- numbers that fit are read back
pub chop-fields : (w : ℕ) (xs : List ℕ) → ((i : ℕ) → get_or xs i 0 < 2 ^ w) → chop w (length xs) (bit_string w xs) ≡ xs
unfolding chop bit_string
chop-fields w [] h = refl
chop-fields w (x ∷ xs) h =
    ap (λ (n : ℕ). n ∷ chop w (length xs) (drop w (bits_of w x ++ bit_string w xs)))
    (ap val_of (take_at (bits_of w x) (bit_string w xs) w (length-bits w x)) ∙ val-bits w x ∙ mod-eq_of_lt (h 0))
    ∙ ap (λ (l : List ℕ). x ∷ chop w (length xs) l) (drop_at (bits_of w x) (bit_string w xs) w (length-bits w x))
    ∙ ap (λ (l : List ℕ). x ∷ l) (chop-fields w xs (λ i. h (suc i)))

pub fields-append : (w : ℕ) (xs ys : List ℕ) → bit_string w (xs ++ ys) ≡ bit_string w xs ++ bit_string w ys
unfolding bit_string
fields-append w [] ys = refl
fields-append w (x ∷ xs) ys = ap (λ (l : List ℕ). bits_of w x ++ l) (fields-append w xs ys) ∙ sym (append_assoc (bits_of w x) (bit_string w xs) (bit_string w ys))

pub fields-more : (w : ℕ) (xs : List ℕ) (i : ℕ) → i < length xs → bit_string w (take (i + 1) xs) ≡ bit_string w (take i xs) ++ bits_of w (get_or xs i 0)
unfolding bit_string
fields-more w xs i h = rw (add-one, take-suc xs i 0 h, fields-append) (ap (λ (l : List ℕ). bit_string w (take i xs) ++ l) (append-nil _))

-- bytes whose bits are those of the numbers
pub packed : (w : ℕ) (xs out out₀ : List ℕ) → ((i : ℕ) → get_or out i 0 < 2 ^ 8) → length out ≡ length out₀ → length xs * w ≡ length out * 8
    → bit_string 8 out ≡ sets (bit_string 8 out₀) 0 (bit_string w xs) → out ≡ repack w 8 (length out) xs
unfolding repack
packed w xs out out₀ h k n e =
    let a = length_fields w xs in
    let b = length_fields 8 out₀ in
    let s : length (bit_string w xs) ≡ length (bit_string 8 out₀) = omega arith in
    sym (chop-fields 8 out h)
    ∙ ap (chop 8 (length out)) (e ∙ sets-eq (bit_string w xs) (bit_string 8 out₀) 0 (omega arith) ∙ ap (λ (j : ℕ). bit_string w xs ++ drop j (bit_string 8 out₀)) (zero-add _ ∙ s)
    ∙ ap (λ (l : List ℕ). bit_string w xs ++ l) (drop-length (bit_string 8 out₀)) ∙ append-nil _)

-- a turn of the unpacker
chop-suc : (w n : ℕ) (l : List ℕ) → chop w (suc n) l ≡ chop w n l ++ (val_of (take w (drop (n * w) l)) ∷ [])
unfolding chop
chop-suc w zero l = ap (λ (k : ℕ). val_of (take w (drop k l)) ∷ []) (sym (zero-mul w))
chop-suc w (suc n) l =
    let e : w + n * w ≡ suc n * w = omega (arith, suc-mul n w) in
    ap (λ (m : List ℕ). val_of (take w l) ∷ m) (chop-suc w n (drop w l)
    ∙ ap (λ (m : List ℕ). chop w n (drop w l) ++ (val_of (take w m) ∷ [])) (drop-drop (n * w) w l ∙ ap (λ (k : ℕ). drop k l) e))

pub unpack-more : (w : ℕ) (l out : List ℕ) (i v : ℕ) → i < length out → take i out ≡ chop w i l → v ≡ val_of (take w (drop (i * w) l)) → take (i + 1) (set out i v) ≡ chop w (i + 1) l
unpack-more w l out i v h e f = rw (add-one, take-suc-set out i v h, chop-suc, ← e, ← f)

-- ---- there and back

pub length-chop : (w n : ℕ) (l : List ℕ) → length (chop w n l) ≡ n
unfolding chop
length-chop w zero l = refl
length-chop w (suc n) l = ap suc (length-chop w n (drop w l))

pub chop-lt : (w n : ℕ) (l : List ℕ) → Bits l → (i : ℕ) → get_or (chop w n l) i 0 < 2 ^ w
unfolding chop
chop-lt w zero l h i = pow_pos w
chop-lt w (suc n) l h zero = omega (arith, val-lt (take w l) (bits-take w l h), pow_mono {i = length (take w l)} {j = w} (omega (arith, length-take w l)))
chop-lt w (suc n) l h (suc i) = chop-lt w n (drop w l) (bits-drop w l h) i

pub fields-chop : (w n : ℕ) (l : List ℕ) → Bits l → length l ≡ n * w → bit_string w (chop w n l) ≡ l
unfolding bit_string chop
fields-chop w zero [] h e = refl
fields-chop w zero (b ∷ l) h e = let x : ⊥ = omega (arith, zero-mul w) in absurd x
fields-chop w (suc n) l h e =
    let k : length (take w l) ≡ w = length-take-le w l (omega (arith, suc-mul n w)) in
    let d : length (drop w l) ≡ n * w = length-drop w l ∙ omega (arith, suc-mul n w) in
    ap (λ (x : List ℕ). x ++ bit_string w (chop w n (drop w l))) (ap (λ (m : ℕ). bits_of m (val_of (take w l))) (sym k) ∙ bits-val (take w l) (bits-take w l h))
    ∙ ap (λ (x : List ℕ). take w l ++ x) (fields-chop w n (drop w l) (bits-drop w l h) d) ∙ take-append-drop w l

-- byte strings
pub bytes_lt : (xs : List ℕ) → Bytes xs → (i : ℕ) → get_or xs i 0 < 2 ^ 8
bytes_lt [] b i = pow_pos 8
bytes_lt (x ∷ xs) b zero = b.0
bytes_lt (x ∷ xs) b (suc i) = bytes_lt xs b.1 i

pub lt-bytes : (xs : List ℕ) → ((i : ℕ) → get_or xs i 0 < 2 ^ 8) → Bytes xs
lt-bytes [] h = tt
lt-bytes (x ∷ xs) h = (h 0, lt-bytes xs (λ i. h (suc i)))

pub length-repack : (v w n : ℕ) (xs : List ℕ) → length (repack v w n xs) ≡ n
unfolding repack
length-repack v w n xs = length-chop w n (bit_string v xs)

-- numbers of v bits as m numbers of w bits, and those as numbers of v bits again
round : (v w m n : ℕ) (xs : List ℕ) → ((i : ℕ) → get_or xs i 0 < 2 ^ v) → n * v ≡ m * w → n ≡ length xs → repack w v n (repack v w m xs) ≡ xs
unfolding repack
round v w m n xs h e k =
    ap (chop v n) (fields-chop w m (bit_string v xs) (fields_bits v xs) (length_fields v xs ∙ ap (λ (x : ℕ). x * v) (sym k) ∙ e))
    ∙ ap (λ (x : ℕ). chop v x (bit_string v xs)) k ∙ chop-fields v xs h

pub repack-trip : (w m n : ℕ) (xs : List ℕ) → ((i : ℕ) → get_or xs i 0 < 2 ^ w) → n * w ≡ m * 8 → n ≡ length xs → repack 8 w n (repack w 8 m xs) ≡ xs
repack-trip w m n xs h e k = round w 8 m n xs h e k
