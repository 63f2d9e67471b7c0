-- Codes as numbers: one number for the bits of a code, and codes held in a word before they are stored.
use Prim.Native.Nat.{ℕ, zero, suc, ◌+◌, ◌*◌, ◌-◌, ◌/◌, ◌%◌, ◌^◌, ◌≤◌, ◌<◌}
use mathlib.Core.Path.{◌≡◌, refl, sym, ap, ◌∙◌}
use mathlib.Core.List.{List, ◌∷◌, ◌++◌}
use native.Mathlib.Omega.{arith}
use native.Mathlib.Nat.{mod-eq_of_lt, pow-suc, mul_assoc, mul_comm, add-mul, one-mul}
use lib.Dec.{lit<}
use lib.IntN.{ℤ, pos, negsuc, nat_abs}
use lib.ListN.{length, get_or, take, replicate, length-replicate}
use lib.Arith.{digits_lt}
use lib.Seq.{sets}
use lib.Pow.{shl_exact, ones_lt, pow_pos, pow-add, pow_mono}
use Rattle.signature.specs.Bits.{bits_of, val_of}
use Rattle.signature.specs.Code.{signs, neg_of, code_of, code, codes, code_bits}
use Rattle.signature.proofs.Strings.{length-bits, sets-append, bits-val, val-lt, bits-cat}
use Rattle.signature.proofs.Packing.{val-bits}
use Rattle.signature.proofs.Words.{val-append}
use Rattle.signature.proofs.Codes.{code-length, neg-lt, same_code, mag-code-are, code-are}
use Rattle.signature.proofs.Counts.{one-length, code-short}
use Rattle.signature.proofs.Lists.{write-more}

-- the number of a code is as long as the code
module _ (w : ℕ) (z : ℤ) where
  code-held : bits_of (code_bits w z) (val_of (code w z)) ≡ code w z
  code-held = ap (λ (n : ℕ). bits_of n (val_of (code w z))) (sym (one-length w z)) ∙ bits-val (code w z) (code-are w z)

  pub code-word-below : (n v : ℕ) → n ≡ code_bits w z → v ≡ val_of (code w z) → v < 2 ^ n
  code-word-below n v e f = rw (e, f, ← one-length w z) (val-lt (code w z) (code-are w z))

-- ---- its number

ones-val : (n : ℕ) → val_of (replicate n 1) ≡ 2 ^ n - 1
unfolding val_of
ones-val zero = refl
ones-val (suc n) = omega (arith, ones-val n, pow-suc 2 n, pow_pos n)

tail-val : (m s : ℕ) → (m ≡ 0 → s ≡ 0) → val_of (0 ∷ signs m s) ≡ s * 2
unfolding val_of
tail-val zero s h = omega (arith, h refl)
tail-val (suc m) s h = omega arith

zero-plus : (z : ℤ) → nat_abs z ≡ 0 → neg_of z ≡ 0
zero-plus (pos n) e = refl
zero-plus (negsuc n) e = let x : ⊥ = omega arith in absurd x

module _ (w m s n : ℕ) (is-n : n ≡ m / 2 ^ w) (plus : m ≡ 0 → s ≡ 0) where
  high_part : val_of (replicate n 1 ++ (0 ∷ signs m s)) ≡ 2 ^ n - 1 + s * 2 * 2 ^ n
  high_part =
      val-append (replicate n 1) (0 ∷ signs m s)
      ∙ ap (λ (k : ℕ). val_of (replicate n 1) + val_of (0 ∷ signs m s) * 2 ^ k) (length-replicate n 1)
      ∙ ap (λ (k : ℕ). k + val_of (0 ∷ signs m s) * 2 ^ n) (ones-val n) ∙ ap (λ (k : ℕ). 2 ^ n - 1 + k * 2 ^ n) (tail-val m s plus)

  sign-place : s * 2 * 2 ^ n * 2 ^ w ≡ s * 2 ^ (w + n + 1)
  sign-place =
      let e : 2 * (2 ^ n * 2 ^ w) ≡ 2 ^ (w + n + 1) = omega (arith, pow-add 2 (w + n) 1, pow-add 2 w n, mul_comm (2 ^ w) (2 ^ n)) in
      mul_assoc (s * 2) (2 ^ n) (2 ^ w) ∙ mul_assoc s 2 (2 ^ n * 2 ^ w) ∙ ap (λ (k : ℕ). s * k) e

  word-val : val_of (code_of w m s) ≡ m % 2 ^ w + (2 ^ n - 1) * 2 ^ w + s * 2 ^ (w + n + 1)
  unfolding code_of
  word-val =
      let R = replicate n 1 ++ (0 ∷ signs m s) in
      ap (λ (k : ℕ). val_of (bits_of w m ++ (replicate k 1 ++ (0 ∷ signs m s)))) (sym is-n)
      ∙ val-append (bits_of w m) R ∙ ap (λ (k : ℕ). val_of (bits_of w m) + val_of R * 2 ^ k) (length-bits w m)
      ∙ ap (λ (k : ℕ). k + val_of R * 2 ^ w) (val-bits w m) ∙ ap (λ (k : ℕ). m % 2 ^ w + k * 2 ^ w) high_part
      ∙ omega (arith, add-mul (2 ^ n - 1) (s * 2 * 2 ^ n) (2 ^ w), sign-place)

  -- as the machine sums it
  module _ (few : w + n + 2 ≤ 56) (bit : s < 2) where
    one-exact : 1 * 2 ^ n % 2 ^ 64 ≡ 2 ^ n
    one-exact = shl_exact {a = 1} 1 n 64 (lit< tt) (omega arith) ∙ one-mul _

    run-exact : (1 * 2 ^ n % 2 ^ 64 - 1) * 2 ^ w % 2 ^ 64 ≡ (2 ^ n - 1) * 2 ^ w
    run-exact = ap (λ (k : ℕ). (k - 1) * 2 ^ w % 2 ^ 64) one-exact ∙ shl_exact {a = 2 ^ n - 1} n w 64 (ones_lt n) (omega arith)

    sign-exact : s * 2 ^ (w + n + 1) % 2 ^ 64 ≡ s * 2 ^ (w + n + 1)
    sign-exact = shl_exact {a = s} 1 (w + n + 1) 64 bit (omega arith)

    sign-one : (k t : ℕ) → length (signs k t) ≤ 1
    sign-one zero t = omega arith
    sign-one (suc k) t = omega arith

    word_small : val_of (code_of w m s) < 2 ^ 56
    word_small =
        let e : w + m / 2 ^ w ≡ w + n = ap (λ (k : ℕ). w + k) (sym is-n) in
        let l : length (code_of w m s) ≤ 56 = omega (arith, code-length w m s, sign-one m s) in
        omega (arith, val-lt (code_of w m s) (mag-code-are w m s bit), pow_mono {i = length (code_of w m s)} {j = 56} l)

    module _ (lo : ℕ) (is-lo : lo ≡ m % 2 ^ w) where
      code_sum : lo + (1 * 2 ^ n % 2 ^ 64 - 1) * 2 ^ w % 2 ^ 64 + s * 2 ^ (w + n + 1) % 2 ^ 64 ≡ val_of (code_of w m s)
      code_sum = omega (arith, is-lo, run-exact, sign-exact, word-val)

      word_fits : lo + (1 * 2 ^ n % 2 ^ 64 - 1) * 2 ^ w % 2 ^ 64 + s * 2 ^ (w + n + 1) % 2 ^ 64 < 2 ^ 64
      word_fits = omega (arith, code_sum, word_small)

-- .. of a number z whose code is short: m is its absolute value
module _ (w : ℕ) (z : ℤ) (m : ℕ) (is-m : m ≡ nat_abs z) (narrow : w ≤ 40) (short : code_bits w z ≤ 56) where
  pub run-short : w + m / 2 ^ w + 2 ≤ 56
  run-short = rw is-m (code-short w z (omega arith) short)

  pub ones-fit : 1 ≤ 1 * 2 ^ (m / 2 ^ w) % 2 ^ 64
  ones-fit = omega (arith, one-exact w m 0 (m / 2 ^ w) refl (λ e. refl) run-short (omega arith), pow_pos (m / 2 ^ w))

  module _ (lo : ℕ) (is-lo : lo ≡ m % 2 ^ w) where
    pub unsigned-fits : lo + (1 * 2 ^ (m / 2 ^ w) % 2 ^ 64 - 1) * 2 ^ w % 2 ^ 64 < 2 ^ 64
    unsigned-fits = omega (arith, word_fits w m 0 (m / 2 ^ w) refl (λ e. refl) run-short (omega arith) lo is-lo)

    module _ (s : ℕ) (is-s : s ≡ neg_of z) where
      no-plus : m ≡ 0 → s ≡ 0
      no-plus e = is-s ∙ zero-plus z (sym is-m ∙ e)

      sign-lt : s < 2
      sign-lt = rw is-s (neg-lt z)

      pub signed-fits : lo + (1 * 2 ^ (m / 2 ^ w) % 2 ^ 64 - 1) * 2 ^ w % 2 ^ 64 + s * 2 ^ (w + m / 2 ^ w + 1) % 2 ^ 64 < 2 ^ 64
      signed-fits = word_fits w m s (m / 2 ^ w) refl no-plus run-short sign-lt lo is-lo

      pub number-is : lo + (1 * 2 ^ (m / 2 ^ w) % 2 ^ 64 - 1) * 2 ^ w % 2 ^ 64 + s * 2 ^ (w + m / 2 ^ w + 1) % 2 ^ 64 ≡ val_of (code w z)
      number-is = code_sum w m s (m / 2 ^ w) refl no-plus run-short sign-lt lo is-lo ∙ ap val_of (same_code w m s z is-m is-s)

-- ---- codes held: the `have` bits of `held` go to p

module _ (have held v n : ℕ) (l : held < 2 ^ have) (k : v < 2 ^ n) (room : have + n ≤ 56) where
  held-exact : v * 2 ^ have % 2 ^ 64 ≡ v * 2 ^ have
  held-exact = shl_exact {a = v} n have 64 k (omega arith)

  pub held-lt : held + v * 2 ^ have % 2 ^ 64 < 2 ^ (have + n)
  held-lt = omega (arith, held-exact, digits_lt k l, pow-add 2 have n, mul_comm (2 ^ have) (2 ^ n))

  pub held_fits : held + v * 2 ^ have % 2 ^ 64 < 2 ^ 64
  held_fits = omega (arith, held-lt, pow_mono {i = have + n} {j = 64} (omega arith))

hold-more : (B : List ℕ) (p have held v n : ℕ) (vs : List ℕ) → held < 2 ^ have → bits_of n v ≡ vs
    → sets B p (bits_of (have + n) (held + v * 2 ^ have)) ≡ sets (sets B p (bits_of have held)) (p + have) vs
hold-more B p have held v n vs l e =
    ap (λ (x : ℕ). sets B p (bits_of (have + n) (x + v * 2 ^ have))) (sym (mod-eq_of_lt l)) ∙ ap (sets B p) (bits-cat have n held v)
    ∙ sets-append B p (bits_of have held) (bits_of n v)
    ∙ ap (λ (k : ℕ). sets (sets B p (bits_of have held)) (p + k) (bits_of n v)) (length-bits have held)
    ∙ ap (sets (sets B p (bits_of have held)) (p + have)) e

-- a turn of the writer: the number at place i goes behind those that are stored or held
module _ (w : ℕ) (zs : List ℤ) (i : ℕ) (h : i < length zs) (F B : List ℕ) (at p have held : ℕ)
    (so_far : sets B p (bits_of have held) ≡ sets F at (codes w (take i zs))) (place : p + have ≡ at + length (codes w (take i zs))) where
  after-held : (m : List ℕ) → m ≡ sets (sets B p (bits_of have held)) (p + have) (code w (get_or zs i (pos 0))) → m ≡ sets F at (codes w (take (i + 1) zs))
  after-held m e =
      write-more w zs i h F (sets B p (bits_of have held)) m at so_far
      (e ∙ ap (λ (k : ℕ). sets (sets B p (bits_of have held)) k (code w (get_or zs i (pos 0)))) place)

  module _ (n v : ℕ) (is-n : n ≡ code_bits w (get_or zs i (pos 0))) (is-v : v ≡ val_of (code w (get_or zs i (pos 0)))) where
    bits_are : bits_of n v ≡ code w (get_or zs i (pos 0))
    bits_are = ap (λ (k : ℕ). bits_of k v) is-n ∙ ap (bits_of (code_bits w (get_or zs i (pos 0)))) is-v ∙ code-held w (get_or zs i (pos 0))

    pub turn-hold : held < 2 ^ have → have + n ≤ 56 → v < 2 ^ n
        → sets B p (bits_of (have + n) (held + v * 2 ^ have % 2 ^ 64)) ≡ sets F at (codes w (take (i + 1) zs))
    turn-hold l r k =
        after-held _ (ap (λ (x : ℕ). sets B p (bits_of (have + n) (held + x))) (held-exact have held v n l k r)
        ∙ hold-more B p have held v n (code w (get_or zs i (pos 0))) l bits_are)

    pub turn-store : (B' : List ℕ) → B' ≡ sets B p (bits_of have held) → sets B' (p + have) (bits_of n v) ≡ sets F at (codes w (take (i + 1) zs))
    turn-store B' e = after-held _ (ap (sets B' (p + have)) bits_are ∙ ap (λ (l : List ℕ). sets l (p + have) (code w (get_or zs i (pos 0)))) e)

  pub turn-slow : (B' B'' : List ℕ) → B' ≡ sets B p (bits_of have held) → B'' ≡ sets B' (p + have) (code w (get_or zs i (pos 0))) → B'' ≡ sets F at (codes w (take (i + 1) zs))
  turn-slow B' B'' e f = after-held B'' (f ∙ ap (λ (l : List ℕ). sets l (p + have) (code w (get_or zs i (pos 0)))) e)
