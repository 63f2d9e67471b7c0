-- Laws of bit strings as words of eight bytes: a field of w bits is a word's, shifted.
use Prim.Native.Nat.{ℕ, zero, suc, ◌+◌, ◌*◌, ◌-◌, ◌/◌, ◌%◌, ◌^◌, ◌≤◌, ◌<◌}
use mathlib.Core.Path.{◌≡◌, sym, ap, subst, ◌∙◌}
use mathlib.Core.List.{List, [], ◌∷◌, ◌++◌, append-nil}
use native.Mathlib.Omega.{arith}
use native.Mathlib.Nat.{mod-eq_of_lt, mod-lt, pow-suc, mul_assoc, mul_comm, add_comm, add-mul}
use lib.ListN.{length, get_or, take, drop, length-take, length-drop, take-append-drop}
use lib.Arith.{digits_lt}
use lib.Seq.{take_all, take_at, drop_at, take-add, drop-drop, take-append-le, drop-append-le, split_at, sets, length-sets, length-take-le}
use lib.Pow.{high, low, pow_pos, pow-add, shl_exact, shr_lt, shr-shr}
use Rattle.hash.specs.Endian.{le, byte_of}
use Rattle.hash.specs.ShakeSteps.{pasted}
use Rattle.hash.specs.Lists.{table}
use Rattle.hash.proofs.Table.{table_none, table-next}
use Rattle.hash.proofs.Word.{le-none, le_next}
use Rattle.signature.specs.Bits.{bits_of, val_of, bit_string}
use Rattle.signature.proofs.Strings.{length-bits, length_fields, Bits, bits-take, bits-drop, fields_bits, bits-low, bits-val, val-lt, bits-append, bits-cat, sets-right, sets-left, sets-mid}
use Rattle.signature.proofs.Packing.{val-bits, fields-append}

pub val-append : (xs ys : List ℕ) → val_of (xs ++ ys) ≡ val_of xs + val_of ys * 2 ^ length xs
unfolding val_of
val-append [] ys = omega arith
val-append (x ∷ xs) ys =
    omega (arith, val-append xs ys, ap (λ (n : ℕ). val_of ys * n) (pow-suc 2 (length xs)), mul_assoc (val_of ys) (2 ^ length xs) 2)

-- number i of a string of numbers
module _ (w : ℕ) (xs : List ℕ) (i : ℕ) (h : i < length xs) where
  front : length (bit_string w (take i xs)) ≡ i * w
  front = length_fields w (take i xs) ∙ ap (λ (n : ℕ). n * w) (length-take-le i xs (omega arith))

  pub fields_split : bit_string w xs ≡ bit_string w (take i xs) ++ (bits_of w (get_or xs i 0) ++ bit_string w (drop (suc i) xs))
  unfolding bit_string
  fields_split = ap (bit_string w) (split_at xs i 0 h) ∙ fields-append w (take i xs) (get_or xs i 0 ∷ drop (suc i) xs)

  pub field_at : take w (drop (i * w) (bit_string w xs)) ≡ bits_of w (get_or xs i 0)
  field_at =
      ap (λ (l : List ℕ). take w (drop (i * w) l)) fields_split ∙ ap (take w) (drop_at (bit_string w (take i xs)) _ (i * w) front)
      ∙ take_at (bits_of w (get_or xs i 0)) _ w (length-bits w (get_or xs i 0))

-- the number of n bytes is the number of their bits
pub le_val : (xs : List ℕ) (a n : ℕ) → a + n ≤ length xs → ((i : ℕ) → get_or xs i 0 < 2 ^ 8)
    → le (λ j. get_or xs (a + j) 0) n ≡ val_of (take (n * 8) (drop (a * 8) (bit_string 8 xs)))
unfolding val_of
le_val xs a zero h b = le-none (λ j. get_or xs (a + j) 0)
le_val xs a (suc n) h b =
    let F = bit_string 8 xs in
    let D = drop (a * 8) F in
    let e : suc n * 8 ≡ n * 8 + 8 = omega arith in
    let d : a * 8 + n * 8 ≡ (a + n) * 8 = omega arith in
    let k : length (take (n * 8) D) ≡ n * 8 = length-take-le (n * 8) D (omega (arith, length-drop (a * 8) F, length_fields 8 xs)) in
    let c : 8 * n ≡ n * 8 = omega arith in
    le_next (λ j. get_or xs (a + j) 0) n ∙ ap (λ (x : ℕ). x + get_or xs (a + n) 0 * 2 ^ (8 * n)) (le_val xs a n (omega arith) b)
    ∙ ap (λ (x : ℕ). val_of (take (n * 8) D) + get_or xs (a + n) 0 * 2 ^ x) (c ∙ sym k)
    ∙ sym (ap (λ (x : ℕ). val_of (take x D)) e ∙ ap val_of (take-add (n * 8) 8 D) ∙ val-append (take (n * 8) D) (take 8 (drop (n * 8) D))
    ∙ ap (λ (l : List ℕ). val_of (take (n * 8) D) + val_of l * 2 ^ length (take (n * 8) D))
    (ap (take 8) (drop-drop (n * 8) (a * 8) F ∙ ap (λ (x : ℕ). drop x F) d) ∙ field_at 8 xs (a + n) (omega arith))
    ∙ ap (λ (x : ℕ). val_of (take (n * 8) D) + x * 2 ^ length (take (n * 8) D)) (val-bits 8 (get_or xs (a + n) 0) ∙ mod-eq_of_lt (b (a + n))))

-- ---- a field of a word

module _ (l : List ℕ) (all : Bits l) (k : ℕ) (h : k ≤ length l) where
  two : val_of l ≡ val_of (drop k l) * 2 ^ k + val_of (take k l)
  two =
      ap val_of (sym (take-append-drop k l)) ∙ val-append (take k l) (drop k l)
      ∙ ap (λ (n : ℕ). val_of (take k l) + val_of (drop k l) * 2 ^ n) (length-take-le k l h) ∙ add_comm _ _

  small : val_of (take k l) < 2 ^ k
  small = rw (length-take-le k l h) at (val-lt (take k l) (bits-take k l all))

  pub val-drop : val_of l / 2 ^ k ≡ val_of (drop k l)
  val-drop = ap (λ (n : ℕ). n / 2 ^ k) two ∙ high (val_of (drop k l)) k small

  pub val-take : val_of l % 2 ^ k ≡ val_of (take k l)
  val-take = ap (λ (n : ℕ). n % 2 ^ k) two ∙ low (val_of (drop k l)) k small

pub get-is : (bs : List ℕ) (at w x : ℕ) → at + w ≤ length bs * 8 → w ≤ 56 → x ≡ val_of (take 64 (drop (at / 8 * 8) (bit_string 8 bs)))
    → x / 2 ^ (at % 8) % 2 ^ w ≡ val_of (take w (drop at (bit_string 8 bs)))
get-is bs at w x h n e =
    let k = at % 8 in
    let F = bit_string 8 bs in
    let D = drop (at / 8 * 8) F in
    let T = take 64 D in
    let d : length D ≡ length bs * 8 - at / 8 * 8 = length-drop (at / 8 * 8) F ∙ ap (λ (m : ℕ). m - at / 8 * 8) (length_fields 8 bs) in
    let t = length-take 64 D in
    let ki : k ≤ length T = omega arith in
    let wi : w ≤ length (drop k T) = omega (arith, length-drop k T) in
    let b : Bits T = bits-take 64 D (bits-drop (at / 8 * 8) F (fields_bits 8 bs)) in
    let a : at / 8 * 8 + k ≡ at = omega arith in
    let g : drop at F ≡ drop k T ++ drop 64 D =
    ap (λ (m : ℕ). drop m F) (sym a) ∙ sym (drop-drop k (at / 8 * 8) F) ∙ ap (drop k) (sym (take-append-drop 64 D)) ∙ drop-append-le k T (drop 64 D) ki in
    ap (λ (m : ℕ). m / 2 ^ k % 2 ^ w) e ∙ ap (λ (m : ℕ). m % 2 ^ w) (val-drop T b k ki) ∙ val-take (drop k T) (bits-drop k T b) w wi
    ∙ sym (ap (λ (m : List ℕ). val_of (take w m)) g ∙ ap val_of (take-append-le w (drop k T) (drop 64 D) wi))

-- eight bytes, and what is left near the end
module _ (xs : List ℕ) (i : ℕ) (b : (j : ℕ) → get_or xs j 0 < 2 ^ 8) where
  pub word-whole : i + 8 ≤ length xs → le (λ j. get_or xs (i + j) 0) 8 ≡ val_of (take 64 (drop (i * 8) (bit_string 8 xs)))
  word-whole h = le_val xs i 8 h b

  pub word-rest : (n : ℕ) → n ≡ length xs - i → i ≤ length xs → n ≤ 8 → le (λ j. get_or xs (i + j) 0) n ≡ val_of (take 64 (drop (i * 8) (bit_string 8 xs)))
  word-rest n e h k =
      let D = drop (i * 8) (bit_string 8 xs) in
      let d : length D ≡ n * 8 = length-drop (i * 8) (bit_string 8 xs) ∙ omega (arith, length_fields 8 xs) in
      le_val xs i n (omega arith) b ∙ ap val_of (take_all (n * 8) D (omega arith) ∙ sym (take_all 64 D (omega arith)))

-- ---- a word with another field

module _ (x v k w : ℕ) (f : x < 2 ^ 64) (h : k + w < 64) where
  c : ℕ
  c = 64 - (k + w)

  sum : k + (w + c) ≡ 64
  unfolding c
  sum = omega arith

  above : x / 2 ^ (k + w) < 2 ^ c
  unfolding c
  above = let e : 64 ≡ 64 - (k + w) + (k + w) = omega arith in shr_lt (64 - (k + w)) (k + w) (subst (λ (n : ℕ). x < 2 ^ n) e f)

  above-exact : x / 2 ^ (k + w) * 2 ^ (k + w) % 2 ^ 64 ≡ x / 2 ^ (k + w) * 2 ^ (k + w)
  unfolding c
  above-exact = shl_exact (64 - (k + w)) (k + w) 64 above (omega arith)

  field-exact : v % 2 ^ w * 2 ^ k % 2 ^ 64 ≡ v % 2 ^ w * 2 ^ k
  field-exact = shl_exact w k 64 (mod-lt v (pow_pos w)) (omega arith)

  field-low : x % 2 ^ k + v % 2 ^ w * 2 ^ k < 2 ^ (k + w)
  field-low = rw (add_comm (x % 2 ^ k) (v % 2 ^ w * 2 ^ k), pow-add, mul_comm (2 ^ k) (2 ^ w)) (digits_lt (mod-lt v (pow_pos w)) (mod-lt x (pow_pos k)))

  splice-lt : x % 2 ^ k + v % 2 ^ w * 2 ^ k + x / 2 ^ (k + w) * 2 ^ (k + w) < 2 ^ 64
  unfolding c
  splice-lt =
      let d : 64 - (k + w) + (k + w) ≡ 64 = omega arith in
      let e : 2 ^ c * 2 ^ (k + w) ≡ 2 ^ 64 = sym (pow-add 2 c (k + w)) ∙ ap (λ (n : ℕ). 2 ^ n) d in
      omega (arith, e, digits_lt above field-low)

  -- the same as the machine sums it
  module _ (a b : ℕ) (low-is : a ≡ x % 2 ^ k) (field_is : b ≡ v % 2 ^ w) where
    pub summed-low : a + b * 2 ^ k % 2 ^ 64 ≡ x % 2 ^ k + v % 2 ^ w * 2 ^ k
    summed-low = rw (low-is, field_is) (ap (λ (n : ℕ). x % 2 ^ k + n) field-exact)

    pub summed-low-lt : a + b * 2 ^ k % 2 ^ 64 < 2 ^ 64
    summed-low-lt = omega (arith, summed-low, splice-lt)

    pub summed : a + b * 2 ^ k % 2 ^ 64 + x / 2 ^ (k + w) * 2 ^ (k + w) % 2 ^ 64 ≡ x % 2 ^ k + v % 2 ^ w * 2 ^ k + x / 2 ^ (k + w) * 2 ^ (k + w)
    summed = omega (arith, summed-low, above-exact)

    pub summed-lt : a + b * 2 ^ k % 2 ^ 64 + x / 2 ^ (k + w) * 2 ^ (k + w) % 2 ^ 64 < 2 ^ 64
    summed-lt = omega (arith, summed, splice-lt)

  splice-form : x % 2 ^ k + v % 2 ^ w * 2 ^ k + x / 2 ^ (k + w) * 2 ^ (k + w) ≡ x % 2 ^ k + (v % 2 ^ w + x / 2 ^ (k + w) * 2 ^ w) * 2 ^ k
  splice-form =
      let a : x / 2 ^ (k + w) * 2 ^ (k + w) ≡ x / 2 ^ (k + w) * 2 ^ w * 2 ^ k =
      ap (λ (n : ℕ). x / 2 ^ (k + w) * n) (pow-add 2 k w ∙ mul_comm (2 ^ k) (2 ^ w)) ∙ sym (mul_assoc (x / 2 ^ (k + w)) (2 ^ w) (2 ^ k)) in
      omega (arith, a, add-mul (v % 2 ^ w) (x / 2 ^ (k + w) * 2 ^ w) (2 ^ k))

  pub splice : bits_of 64 (x % 2 ^ k + v % 2 ^ w * 2 ^ k + x / 2 ^ (k + w) * 2 ^ (k + w)) ≡ sets (bits_of 64 x) k (bits_of w v)
  splice =
      let m = bits_of w (x / 2 ^ k) in
      let hi = bits_of c (x / 2 ^ (k + w)) in
      let l : length m ≡ length (bits_of w v) = length-bits w (x / 2 ^ k) ∙ sym (length-bits w v) in
      let old : bits_of 64 x ≡ bits_of k x ++ (m ++ hi) =
      ap (λ (n : ℕ). bits_of n x) (sym sum) ∙ bits-append k (w + c) x
      ∙ ap (λ (l : List ℕ). bits_of k x ++ l) (bits-append w c (x / 2 ^ k) ∙ ap (λ (n : ℕ). m ++ bits_of c n) (shr-shr x k w)) in
      ap (bits_of 64) splice-form ∙ ap (λ (n : ℕ). bits_of n (x % 2 ^ k + (v % 2 ^ w + x / 2 ^ (k + w) * 2 ^ w) * 2 ^ k)) (sym sum)
      ∙ bits-cat k (w + c) x (v % 2 ^ w + x / 2 ^ (k + w) * 2 ^ w) ∙ ap (λ (l : List ℕ). bits_of k x ++ l) (bits-cat w c v (x / 2 ^ (k + w)))
      ∙ sym (ap (λ (l : List ℕ). sets l k (bits_of w v)) old ∙ sets-mid (bits_of k x) m hi (bits_of w v) k (length-bits k x) l)

-- ---- a word stored

table-bits : (x n : ℕ) → bit_string 8 (table (byte_of x) n) ≡ bits_of (n * 8) x
unfolding bit_string bits_of
table-bits x zero = ap (bit_string 8) (table_none (byte_of x))
table-bits x (suc n) =
    let e : n * 8 + 8 ≡ suc n * 8 = omega arith in
    let d : n * 8 ≡ 8 * n = omega arith in
    ap (bit_string 8) (table-next (byte_of x) n) ∙ fields-append 8 (table (byte_of x) n) (byte_of x n ∷ [])
    ∙ ap (λ (l : List ℕ). l ++ (bits_of 8 (byte_of x n) ++ [])) (table-bits x n)
    ∙ ap (λ (l : List ℕ). bits_of (n * 8) x ++ l) (append-nil (bits_of 8 (byte_of x n)) ∙ bits-low 8 (x / 2 ^ (8 * n)) ∙ ap (λ (m : ℕ). bits_of 8 (x / 2 ^ m)) (sym d))
    ∙ sym (bits-append (n * 8) 8 x) ∙ ap (λ (m : ℕ). bits_of m x) e

pub stored : (l : List ℕ) (i x : ℕ) → i + 8 ≤ length l → bit_string 8 (pasted (byte_of x) l i 8) ≡ sets (bit_string 8 l) (i * 8) (bits_of 64 x)
stored l i x h =
    let a = take i l in
    let m = take 8 (drop i l) in
    let z = drop (i + 8) l in
    let t = table (byte_of x) 8 in
    let s : l ≡ a ++ (m ++ z) = sym (ap (λ (r : List ℕ). a ++ r) (ap (λ (r : List ℕ). m ++ r) (sym (drop-drop 8 i l)) ∙ take-append-drop 8 (drop i l)) ∙ take-append-drop i l) in
    let p : length (bit_string 8 a) ≡ i * 8 = length_fields 8 a ∙ ap (λ (n : ℕ). n * 8) (length-take-le i l (omega arith)) in
    let q : length (bit_string 8 m) ≡ length (bits_of 64 x) =
    length_fields 8 m ∙ ap (λ (n : ℕ). n * 8) (length-take-le 8 (drop i l) (omega (arith, length-drop i l))) ∙ sym (length-bits 64 x) in
    fields-append 8 a (t ++ z) ∙ ap (λ (r : List ℕ). bit_string 8 a ++ r) (fields-append 8 t z ∙ ap (λ (r : List ℕ). r ++ bit_string 8 z) (table-bits x 8))
    ∙ sym (ap (λ (r : List ℕ). sets (bit_string 8 r) (i * 8) (bits_of 64 x)) s
    ∙ ap (λ (r : List ℕ). sets r (i * 8) (bits_of 64 x)) (fields-append 8 a (m ++ z) ∙ ap (λ (r : List ℕ). bit_string 8 a ++ r) (fields-append 8 m z))
    ∙ sets-mid (bit_string 8 a) (bit_string 8 m) (bit_string 8 z) (bits_of 64 x) (i * 8) p q)

-- stores in a part that is itself stored
sets-part : (F S vs : List ℕ) (a n k : ℕ) → a + n ≤ length F → k + length vs ≤ n → S ≡ sets (take n (drop a F)) k vs → sets F a S ≡ sets F (a + k) vs
sets-part F S vs a n k h g e =
    let T = take n (drop a F) in
    let z = drop (a + n) F in
    let t : length T ≡ n = length-take-le n (drop a F) (omega (arith, length-drop a F)) in
    let p : length (take a F) ≡ a = length-take-le a F (omega arith) in
    let s : F ≡ take a F ++ (T ++ z) = sym (ap (λ (r : List ℕ). take a F ++ r) (ap (λ (r : List ℕ). T ++ r) (sym (drop-drop n a F)) ∙ take-append-drop n (drop a F)) ∙ take-append-drop a F) in
    let q : length T ≡ length (sets T k vs) = sym (length-sets T k vs) in
    ap (sets F a) e ∙ ap (λ (r : List ℕ). sets r a (sets T k vs)) s ∙ sets-mid (take a F) T z (sets T k vs) a p q
    ∙ sym (ap (λ (r : List ℕ). sets r (a + k) vs) s ∙ sets-right (take a F) (T ++ z) a k vs p
    ∙ ap (λ (r : List ℕ). take a F ++ r) (sets-left T z k vs (omega arith)))

-- the word x at byte i, spliced and stored, is the field stored
pub spliced-in : (l l' : List ℕ) (at v w x r : ℕ) → at / 8 + 8 ≤ length l → w ≤ 56
    → x ≡ val_of (take 64 (drop (at / 8 * 8) (bit_string 8 l))) → bits_of 64 r ≡ sets (bits_of 64 x) (at % 8) (bits_of w v)
    → l' ≡ pasted (byte_of r) l (at / 8) 8 → bit_string 8 l' ≡ sets (bit_string 8 l) at (bits_of w v)
spliced-in l l' at v w x r h n e f g =
    let i = at / 8 in
    let F = bit_string 8 l in
    let T = take 64 (drop (i * 8) F) in
    let lf = length_fields 8 l in
    let t : length T ≡ 64 = length-take-le 64 (drop (i * 8) F) (omega (arith, length-drop (i * 8) F)) in
    let b : bits_of 64 x ≡ T = ap (bits_of 64) e ∙ ap (λ (m : ℕ). bits_of m (val_of T)) (sym t) ∙ bits-val T (bits-take 64 (drop (i * 8) F) (bits-drop (i * 8) F (fields_bits 8 l))) in
    let a : i * 8 + at % 8 ≡ at = omega arith in
    ap (bit_string 8) g ∙ stored l i r h
    ∙ sets-part F (bits_of 64 r) (bits_of w v) (i * 8) 64 (at % 8) (omega arith) (omega (arith, length-bits w v)) (f ∙ ap (λ (m : List ℕ). sets m (at % 8) (bits_of w v)) b)
    ∙ ap (λ (m : ℕ). sets F m (bits_of w v)) a
