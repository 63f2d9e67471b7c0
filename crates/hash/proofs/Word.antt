-- Numbers by their bytes, the low one first.
use mathlib.Core.Path.{◌≡◌, refl, sym, ap, ◌∙◌}
use mathlib.Core.List.{List, [], ◌∷◌}
use mathlib.Core.Logic.{⊎_elim}
use Prim.Native.Nat.{ℕ, zero, suc, ◌+◌, ◌-◌, ◌*◌, ◌/◌, ◌%◌, ◌^◌, ◌<◌, ◌≤◌}
use native.Mathlib.Omega.{arith}
use native.Mathlib.Nat.{zero-add, add_comm, mul_assoc, mul-le-mul_right, eq-or-lt_of_le, le_of_suc-le-suc, mod-eq_of_lt, div-eq_of_lt, add-mul-div_right, add-mul-mod_self_right}
use lib.Bits.{bit_xor, xor_comm, xor_shifted}
use lib.ListN.{get_or}
use lib.Pow.{pow_pos, pow-add, mod-pow-add}
use Rattle.hash.specs.Endian.{le, byte_of}
use Rattle.hash.specs.Lists.{Bytes}

-- the number of n bytes, one byte more
pub le-none : (f : ℕ → ℕ) → le f 0 ≡ 0
unfolding le
le-none f = refl

pub le_next : (f : ℕ → ℕ) (n : ℕ) → le f (suc n) ≡ le f n + f n * 2 ^ (8 * n)
unfolding le
le_next f n = refl

-- equal bytes give equal numbers
pub le_same : (f g : ℕ → ℕ) (n : ℕ) → ((j : ℕ) → j < n → f j ≡ g j) → le f n ≡ le g n
unfolding le
le_same f g zero h = refl
le_same f g (suc n) h =
    let e : le f n ≡ le g n = le_same f g n (λ j l. h j (omega arith)) in
    let d : f n ≡ g n = h n (omega arith) in
    rw (e, d)

-- the number of a word's first n bytes is its rest
pub le-byte_of : (w n : ℕ) → le (byte_of w) n ≡ w % 2 ^ (8 * n)
unfolding le
le-byte_of w zero = omega arith
le-byte_of w (suc n) =
    let e : 8 * suc n ≡ 8 + 8 * n = omega arith in
    let m : w % 2 ^ (8 + 8 * n) ≡ w / 2 ^ (8 * n) % 256 * 2 ^ (8 * n) + w % 2 ^ (8 * n) = mod-pow-add w 8 (8 * n) in
    rw (e, le-byte_of w n, m) (add_comm _ _)

-- a byte more on top of a number
pub on-top : (x b k : ℕ) → x < 2 ^ k → b < 256 → (bit_xor x (b * 2 ^ k) ≡ x + b * 2 ^ k) × (x + b * 2 ^ k < 2 ^ (k + 8))
on-top x b k h l =
    let o : b + 1 ≤ 256 = omega arith in
    let m : (b + 1) * 2 ^ k ≤ 256 * 2 ^ k = mul-le-mul_right (2 ^ k) o in
    (xor_comm x (b * 2 ^ k) ∙ xor_shifted b k x h ∙ add_comm (b * 2 ^ k) x, rw (pow-add 2 k 8) (omega (arith, m)))

-- a number of n bytes is below 2^(8 n)
pub le_low : (f : ℕ → ℕ) (n : ℕ) → ((i : ℕ) → i < n → f i < 256) → le f n < 2 ^ (8 * n)
le_low f zero h = omega (arith, le-none f)
le_low f (suc n) h =
    let e : 8 * suc n ≡ 8 * n + 8 = omega arith in
    rw (e, le_next f n) (on-top (le f n) (f n) (8 * n) (le_low f n (λ i l. h i (omega arith))) (h n (omega arith))).1

-- a number of n bytes is that of its own bytes, and its bytes are those that it is of
pub le-back : (x n : ℕ) → x < 2 ^ (8 * n) → le (byte_of x) n ≡ x
le-back x n h = le-byte_of x n ∙ mod-eq_of_lt h

-- a byte on top leaves the lower ones
pub byte-under : (x b n j : ℕ) → j < n → byte_of (x + b * 2 ^ (8 * n)) j ≡ byte_of x j
byte-under x b n j l =
    let c = n - j - 1 in
    let e : 8 * n ≡ 8 * c + 8 + 8 * j = omega arith in
    let p : 2 ^ (8 * n) ≡ 2 ^ (8 * c) * 256 * 2 ^ (8 * j) = ap (λ (k : ℕ). 2 ^ k) e ∙ pow-add 2 (8 * c + 8) (8 * j) ∙ ap (λ (k : ℕ). k * 2 ^ (8 * j)) (pow-add 2 (8 * c) 8) in
    let m = 2 ^ (8 * j) in
    let q : b * 2 ^ (8 * n) ≡ b * 2 ^ (8 * c) * 256 * m = ap (λ (k : ℕ). b * k) p ∙ sym (mul_assoc b (2 ^ (8 * c) * 256) m) ∙ ap (λ (k : ℕ). k * m) (sym (mul_assoc b (2 ^ (8 * c)) 256)) in
    ap (λ (k : ℕ). (x + k) / m % 256) q ∙ ap (λ (k : ℕ). k % 256) (add-mul-div_right x (b * 2 ^ (8 * c) * 256) (pow_pos (8 * j)))
    ∙ add-mul-mod_self_right (x / m) (b * 2 ^ (8 * c)) 256

byte-top : (x b n : ℕ) → x < 2 ^ (8 * n) → b < 256 → byte_of (x + b * 2 ^ (8 * n)) n ≡ b
byte-top x b n h l =
    ap (λ (k : ℕ). k % 256) (add-mul-div_right x b (pow_pos (8 * n)) ∙ ap (λ (k : ℕ). k + b) (div-eq_of_lt h) ∙ zero-add b) ∙ mod-eq_of_lt l

pub byte-of-le : (f : ℕ → ℕ) (n j : ℕ) → ((i : ℕ) → i < n → f i < 256) → j < n → byte_of (le f n) j ≡ f j
byte-of-le f zero j h l = absurd (omega arith)
byte-of-le f (suc n) j h l =
    ap (λ (x : ℕ). byte_of x j) (le_next f n)
    ∙ ⊎_elim
    (λ (e : j ≡ n). rw e (byte-top (le f n) (f n) n (le_low f n (λ i k. h i (omega arith))) (h n (omega arith))))
    (λ (k : j < n). byte-under (le f n) (f n) n j k ∙ byte-of-le f n j (λ i k. h i (omega arith)) k)
    (eq-or-lt_of_le (le_of_suc-le-suc l))

-- each element of a list of bytes
pub bytes-entry : (b : List ℕ) → Bytes b → (j : ℕ) → get_or b j 0 < 256
bytes-entry [] l j = omega arith
bytes-entry (x ∷ b) l zero = l.0
bytes-entry (x ∷ b) l (suc j) = bytes-entry b l.1 j
