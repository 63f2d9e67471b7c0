-- Laws of bit strings.
use Prim.Native.Nat.{ℕ, zero, suc, ◌+◌, ◌*◌, ◌-◌, ◌/◌, ◌%◌, ◌^◌, ◌≤◌, ◌<◌}
use mathlib.Core.Path.{◌≡◌, refl, sym, ap, ◌∙◌}
use mathlib.Core.List.{List, [], ◌∷◌, ◌++◌, append-nil}
use native.Mathlib.Omega.{arith}
use native.Mathlib.Nat.{not-suc-le-zero, le_of_suc-le-suc, add-zero, zero-add, zero-mul, suc-mul, suc-add, add-suc, add_comm, pow-suc, mul_assoc, mod-lt}
use native.Mathlib.Numerals.{add-one, one-add}
use lib.Dec.{lit<}
use lib.ListN.{length, get_or, set, take, drop, replicate, length-append, length-set, get_or-append, replicate-append-replicate}
use lib.Seq.{get_or-append-add, set-append_left, sets, sets-eq, set-get_or, get_or-drop, drop-length}
use lib.Pow.{shr-shr, split, high, pow_pos}
use lib.Bits.{bit_xor, differ, xor_step, xor_zero_r}
use Rattle.ring.proofs.Pairs.{set_append_right}
use Rattle.signature.specs.Bits.{bits_of, val_of, bit_string}

pub length-bits : (w x : ℕ) → length (bits_of w x) ≡ w
unfolding bits_of
length-bits zero x = refl
length-bits (suc w) x = ap suc (length-bits w (x / 2))

pub get_d_bits : (w x k : ℕ) → k < w → get_or (bits_of w x) k 0 ≡ x / 2 ^ k % 2
unfolding bits_of
get_d_bits zero x k h = absurd (not-suc-le-zero h)
get_d_bits (suc w) x zero h = omega arith
get_d_bits (suc w) x (suc k) h = get_d_bits w (x / 2) k (le_of_suc-le-suc h) ∙ ap (λ (n : ℕ). n % 2) (shr-shr x 1 k ∙ ap (λ (n : ℕ). x / 2 ^ n) (one-add k))

-- ---- a bit is flipped

differ-zero : (a : ℕ) → differ a 0 ≡ a
differ-zero zero = refl
differ-zero (suc a) = refl

differ-one : (a : ℕ) → a < 2 → differ a 1 ≡ 1 - a
differ-one zero h = refl
differ-one (suc zero) h = refl
differ-one (suc (suc a)) h = absurd (not-suc-le-zero (le_of_suc-le-suc (le_of_suc-le-suc h)))

pub flip : (w x k : ℕ) → k < w → bits_of w (bit_xor x (2 ^ k)) ≡ set (bits_of w x) k (1 - get_or (bits_of w x) k 0)
unfolding bits_of
flip zero x k h = absurd (not-suc-le-zero h)
flip (suc w) x zero h =
    let e : bit_xor x 1 ≡ x / 2 * 2 + (1 - x % 2) =
    xor_step x 1 ∙ ap (λ (n : ℕ). n * 2 + differ (x % 2) 1) (xor_zero_r (x / 2)) ∙ ap (λ (n : ℕ). x / 2 * 2 + n) (differ-one (x % 2) (mod-lt x (lit< tt))) in
    let l : bit_xor x 1 % 2 ≡ 1 - x % 2 = omega arith in
    let r : bit_xor x 1 / 2 ≡ x / 2 = omega arith in
    ap (λ (n : ℕ). n ∷ bits_of w (bit_xor x 1 / 2)) l ∙ ap (λ (n : ℕ). (1 - x % 2) ∷ bits_of w n) r
flip (suc w) x (suc k) h =
    let p : 2 ^ suc k ≡ 2 ^ k * 2 = pow-suc 2 k in
    let q : 2 ^ suc k / 2 ≡ 2 ^ k = omega arith in
    let z : 2 ^ suc k % 2 ≡ 0 = omega arith in
    let e : bit_xor x (2 ^ suc k) ≡ bit_xor (x / 2) (2 ^ k) * 2 + x % 2 =
    xor_step x (2 ^ suc k) ∙ ap (λ (n : ℕ). bit_xor (x / 2) n * 2 + differ (x % 2) (2 ^ suc k % 2)) q
    ∙ ap (λ (n : ℕ). bit_xor (x / 2) (2 ^ k) * 2 + n) (ap (differ (x % 2)) z ∙ differ-zero (x % 2)) in
    let l : bit_xor x (2 ^ suc k) % 2 ≡ x % 2 = omega arith in
    let r : bit_xor x (2 ^ suc k) / 2 ≡ bit_xor (x / 2) (2 ^ k) = omega arith in
    ap (λ (n : ℕ). n ∷ bits_of w (bit_xor x (2 ^ suc k) / 2)) l ∙ ap (λ (n : ℕ). x % 2 ∷ bits_of w n) r
    ∙ ap (λ (m : List ℕ). x % 2 ∷ m) (flip w (x / 2) k (le_of_suc-le-suc h))

-- ---- the bits of numbers of w bits each

pub length_fields : (w : ℕ) (xs : List ℕ) → length (bit_string w xs) ≡ length xs * w
unfolding bit_string
length_fields w [] = omega arith
length_fields w (x ∷ xs) = length-append (bits_of w x) (bit_string w xs) ∙ omega (arith, length-bits w x, length_fields w xs, suc-mul (length xs) w)

-- bit k of number i
module _ (w k : ℕ) (h : k < w) where
  place : (x n : ℕ) → suc n * w + k ≡ length (bits_of w x) + (n * w + k)
  place x n = omega (arith, length-bits w x, suc-mul n w)

  pub get : (xs : List ℕ) (i : ℕ) → i < length xs → get_or (bit_string w xs) (i * w + k) 0 ≡ get_or xs i 0 / 2 ^ k % 2
  unfolding bit_string
  get [] i l = absurd (not-suc-le-zero l)
  get (x ∷ xs) zero l =
      ap (λ (n : ℕ). get_or (bits_of w x ++ bit_string w xs) n 0) (ap (λ (n : ℕ). n + k) (zero-mul w) ∙ zero-add k)
      ∙ get_or-append (bits_of w x) (bit_string w xs) 0 k (omega (arith, length-bits w x)) ∙ get_d_bits w x k h
  get (x ∷ xs) (suc i) l =
      ap (λ (n : ℕ). get_or (bits_of w x ++ bit_string w xs) n 0) (place x i) ∙ get_or-append-add (bits_of w x) (bit_string w xs) (i * w + k) 0
      ∙ get xs i (le_of_suc-le-suc l)

  pub put : (xs : List ℕ) (i v b : ℕ) → i < length xs → bits_of w v ≡ set (bits_of w (get_or xs i 0)) k b → bit_string w (set xs i v) ≡ set (bit_string w xs) (i * w + k) b
  unfolding bit_string
  put [] i v b l e = absurd (not-suc-le-zero l)
  put (x ∷ xs) zero v b l e =
      ap (λ (m : List ℕ). m ++ bit_string w xs) e ∙ sym (set-append_left (bits_of w x) (bit_string w xs) k b (omega (arith, length-bits w x)))
      ∙ ap (λ (n : ℕ). set (bits_of w x ++ bit_string w xs) n b) (sym (ap (λ (n : ℕ). n + k) (zero-mul w) ∙ zero-add k))
  put (x ∷ xs) (suc i) v b l e =
      ap (λ (m : List ℕ). bits_of w x ++ m) (put xs i v b (le_of_suc-le-suc l) e)
      ∙ sym (set_append_right (bits_of w x) (bit_string w xs) (i * w + k) b)
      ∙ ap (λ (n : ℕ). set (bits_of w x ++ bit_string w xs) n b) (sym (place x i))

-- ---- bit `at` of a byte string

module _ (bs : List ℕ) (at : ℕ) (l : at < length bs * 8) where
  at-is : at / 8 * 8 + at % 8 ≡ at
  at-is = omega arith

  pub bit_at_lem : get_or bs (at / 8) 0 / 2 ^ (at % 8) % 2 ≡ get_or (bit_string 8 bs) at 0
  bit_at_lem = sym (get 8 (at % 8) (omega arith) bs (at / 8) (omega arith)) ∙ ap (λ (n : ℕ). get_or (bit_string 8 bs) n 0) at-is

  module _ (b : ℕ) where
    pub flipped : b < 2 → (get_or bs (at / 8) 0 / 2 ^ (at % 8) % 2 ≡ b → ⊥) → bit_string 8 (set bs (at / 8) (bit_xor (get_or bs (at / 8) 0) (2 ^ (at % 8)))) ≡ set (bit_string 8 bs) at b
    flipped h n =
        let x = get_or bs (at / 8) 0 in
        let k = at % 8 in
        let d = get_d_bits 8 x k (omega arith) in
        let e : 1 - get_or (bits_of 8 x) k 0 ≡ b = omega arith in
        put 8 k (omega arith) bs (at / 8) _ b (omega arith) (flip 8 x k (omega arith) ∙ ap (set (bits_of 8 x) k) e)
        ∙ ap (λ (m : ℕ). set (bit_string 8 bs) m b) at-is

    pub left : get_or bs (at / 8) 0 / 2 ^ (at % 8) % 2 ≡ b → bit_string 8 bs ≡ set (bit_string 8 bs) at b
    left e = sym (set-get_or (bit_string 8 bs) at 0) ∙ ap (set (bit_string 8 bs) at) (sym bit_at_lem ∙ e)

-- ---- one more

pub sets-append : (l : List ℕ) (i : ℕ) (vs us : List ℕ) → sets l i (vs ++ us) ≡ sets (sets l i vs) (i + length vs) us
sets-append l i [] us = rw add-zero
sets-append l i (v ∷ vs) us = sets-append (set l i v) (suc i) vs us ∙ ap (λ (n : ℕ). sets (sets (set l i v) (suc i) vs) n us) (suc-add i (length vs) ∙ sym (add-suc i (length vs)))

bits-suc : (k v : ℕ) → bits_of (suc k) v ≡ bits_of k v ++ (v / 2 ^ k % 2 ∷ [])
unfolding bits_of
bits-suc zero v = let e : v % 2 ≡ v / 1 % 2 = omega arith in ap (λ (n : ℕ). n ∷ []) e
bits-suc (suc k) v = ap (λ (m : List ℕ). v % 2 ∷ m) (bits-suc k (v / 2) ∙ ap (λ (n : ℕ). bits_of k (v / 2) ++ (n % 2 ∷ [])) (shr-shr v 1 k ∙ ap (λ (n : ℕ). v / 2 ^ n) (one-add k)))

pub bits-more : (k v : ℕ) → bits_of (k + 1) v ≡ bits_of k v ++ (v / 2 ^ k % 2 ∷ [])
bits-more k v = rw add-one (bits-suc k v)

pub run_more : (k b : ℕ) → replicate (k + 1) b ≡ replicate k b ++ (b ∷ [])
run_more k b = sym (replicate-append-replicate k 1 b)

-- a store of the next bit
module _ (l : List ℕ) (at : ℕ) (vs : List ℕ) (k b : ℕ) (e : length vs ≡ k) where
  pub store-more : (m m' : List ℕ) → m ≡ sets l at vs → m' ≡ set m (at + k) b → m' ≡ sets l at (vs ++ (b ∷ []))
  store-more m m' p q = q ∙ ap (λ (x : List ℕ). set x (at + k) b) p ∙ sym (sets-append l at vs (b ∷ []) ∙ ap (λ (n : ℕ). set (sets l at vs) (at + n) b) e)

-- ---- lists of 0 and 1

abbrev pub Bits : List ℕ → Type 0
Bits l = (i : ℕ) → get_or l i 0 < 2

pub bits-take : (w : ℕ) (l : List ℕ) → Bits l → Bits (take w l)
bits-take zero l h i = lit< tt
bits-take (suc w) [] h i = lit< tt
bits-take (suc w) (b ∷ l) h zero = h 0
bits-take (suc w) (b ∷ l) h (suc i) = bits-take w l (λ j. h (suc j)) i

pub bits-drop : (n : ℕ) (t : List ℕ) → Bits t → Bits (drop n t)
bits-drop n t h i = rw get_or-drop (h (n + i))

pub bits-join : (xs ys : List ℕ) → Bits xs → Bits ys → Bits (xs ++ ys)
bits-join [] ys h k i = k i
bits-join (x ∷ xs) ys h k zero = h 0
bits-join (x ∷ xs) ys h k (suc i) = bits-join xs ys (λ j. h (suc j)) k i

pub are-bits : (w x : ℕ) → Bits (bits_of w x)
unfolding bits_of
are-bits zero x i = lit< tt
are-bits (suc w) x zero = mod-lt x (lit< tt)
are-bits (suc w) x (suc i) = are-bits w (x / 2) i

pub fields_bits : (w : ℕ) (xs : List ℕ) → Bits (bit_string w xs)
unfolding bit_string
fields_bits w [] i = lit< tt
fields_bits w (x ∷ xs) i = bits-join (bits_of w x) (bit_string w xs) (are-bits w x) (fields_bits w xs) i

-- ---- bits and the number that they stand for

pub bits-mod : (w x n : ℕ) → bits_of w (x + n * 2 ^ w) ≡ bits_of w x
unfolding bits_of
bits-mod zero x n = refl
bits-mod (suc w) x n =
    let p : n * 2 ^ suc w ≡ n * 2 ^ w * 2 = ap (λ (k : ℕ). n * k) (pow-suc 2 w) ∙ sym (mul_assoc n (2 ^ w) 2) in
    let a : (x + n * 2 ^ suc w) % 2 ≡ x % 2 = omega arith in
    let b : (x + n * 2 ^ suc w) / 2 ≡ x / 2 + n * 2 ^ w = omega arith in
    ap (λ (k : ℕ). k ∷ bits_of w ((x + n * 2 ^ suc w) / 2)) a ∙ ap (λ (l : List ℕ). x % 2 ∷ l) (ap (bits_of w) b ∙ bits-mod w (x / 2) n)

pub bits-low : (w x : ℕ) → bits_of w (x % 2 ^ w) ≡ bits_of w x
bits-low w x = sym (ap (bits_of w) (sym (split x w) ∙ add_comm _ _) ∙ bits-mod w (x % 2 ^ w) (x / 2 ^ w))

pub bits-val : (l : List ℕ) → Bits l → bits_of (length l) (val_of l) ≡ l
unfolding bits_of val_of
bits-val [] h = refl
bits-val (b ∷ l) h =
    let k = h 0 in
    let x : (b + 2 * val_of l) % 2 ≡ b = omega arith in
    let y : (b + 2 * val_of l) / 2 ≡ val_of l = omega arith in
    ap (λ (k : ℕ). k ∷ bits_of (length l) ((b + 2 * val_of l) / 2)) x ∙ ap (λ (m : List ℕ). b ∷ m) (ap (bits_of (length l)) y ∙ bits-val l (λ i. h (suc i)))

pub val-lt : (l : List ℕ) → Bits l → val_of l < 2 ^ length l
unfolding val_of
val-lt [] h = omega arith
val-lt (b ∷ l) h = omega (arith, h 0, val-lt l (λ i. h (suc i)), pow-suc 2 (length l))

pub bits-append : (a b x : ℕ) → bits_of (a + b) x ≡ bits_of a x ++ bits_of b (x / 2 ^ a)
unfolding bits_of
bits-append zero b x = let e : x / 2 ^ 0 ≡ x = omega arith in rw (zero-add, e)
bits-append (suc a) b x =
    ap (λ (n : ℕ). bits_of n x) (suc-add a b)
    ∙ ap (λ (l : List ℕ). x % 2 ∷ l) (bits-append a b (x / 2) ∙ ap (λ (n : ℕ). bits_of a (x / 2) ++ bits_of b n) (shr-shr x 1 a ∙ ap (λ (n : ℕ). x / 2 ^ n) (one-add a)))

-- the bits of a low part and of what stands above it
pub bits-cat : (a b x y : ℕ) → bits_of (a + b) (x % 2 ^ a + y * 2 ^ a) ≡ bits_of a x ++ bits_of b y
bits-cat a b x y =
    let e : (x % 2 ^ a + y * 2 ^ a) / 2 ^ a ≡ y = ap (λ (n : ℕ). n / 2 ^ a) (add_comm (x % 2 ^ a) (y * 2 ^ a)) ∙ high y a (mod-lt x (pow_pos a)) in
    bits-append a b (x % 2 ^ a + y * 2 ^ a) ∙ ap (λ (l : List ℕ). l ++ bits_of b ((x % 2 ^ a + y * 2 ^ a) / 2 ^ a)) (bits-mod a (x % 2 ^ a) y ∙ bits-low a x)
    ∙ ap (λ (n : ℕ). bits_of a x ++ bits_of b n) e

-- ---- stores in a part

pub sets-right : (p q : List ℕ) (n k : ℕ) (vs : List ℕ) → length p ≡ n → sets (p ++ q) (n + k) vs ≡ p ++ sets q k vs
sets-right p q n k [] e = refl
sets-right p q n k (v ∷ vs) e =
    ap (λ (l : List ℕ). sets l (suc (n + k)) vs) (ap (λ (m : ℕ). set (p ++ q) (m + k) v) (sym e) ∙ set_append_right p q k v)
    ∙ ap (λ (m : ℕ). sets (p ++ set q k v) m vs) (sym (add-suc n k)) ∙ sets-right p (set q k v) n (suc k) vs e

pub sets-left : (q r : List ℕ) (k : ℕ) (vs : List ℕ) → k + length vs ≤ length q → sets (q ++ r) k vs ≡ sets q k vs ++ r
sets-left q r k [] h = refl
sets-left q r k (v ∷ vs) h =
    let f : k + suc (length vs) ≡ suc k + length vs = omega arith in
    let g = length-set q k v in
    ap (λ (l : List ℕ). sets l (suc k) vs) (set-append_left q r k v (omega arith)) ∙ sets-left (set q k v) r (suc k) vs (omega arith)

pub sets-whole : (m vs : List ℕ) → length m ≡ length vs → sets m 0 vs ≡ vs
sets-whole m vs e =
    let d : 0 + length vs ≡ length m = omega arith in
    sets-eq vs m 0 (omega arith) ∙ ap (λ (n : ℕ). vs ++ drop n m) d ∙ ap (λ (l : List ℕ). vs ++ l) (drop-length m) ∙ append-nil vs

pub sets-mid : (p m r vs : List ℕ) (n : ℕ) → length p ≡ n → length m ≡ length vs → sets (p ++ (m ++ r)) n vs ≡ p ++ (vs ++ r)
sets-mid p m r vs n e f =
    ap (λ (k : ℕ). sets (p ++ (m ++ r)) k vs) (sym (add-zero n)) ∙ sets-right p (m ++ r) n 0 vs e
    ∙ ap (λ (l : List ℕ). p ++ l) (sets-left m r 0 vs (omega arith) ∙ ap (λ (l : List ℕ). l ++ r) (sets-whole m vs f))
