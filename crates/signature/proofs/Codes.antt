-- Laws of the code of one number.
use Prim.Native.Nat.{ℕ, zero, suc, ◌+◌, ◌*◌, ◌/◌, ◌%◌, ◌^◌, ◌≤◌, ◌<◌}
use mathlib.Core.Path.{◌≡◌, refl, sym, ap, ◌∙◌}
use mathlib.Core.List.{List, [], ◌∷◌, ◌++◌}
use mathlib.Core.Option.{some, none}
use native.Mathlib.Omega.{arith}
use native.Mathlib.Numerals.{add-one}
use lib.ListN.{length, get_or, set, take, drop, replicate, length-append, length-replicate, drop_of_length-le}
use lib.Seq.{sets, drop-cons, drop-drop}
use lib.Pow.{shl_exact, shl_lt, pow_mono}
use Rattle.signature.specs.Bits.{bits_of, val_of}
use Rattle.signature.specs.Code.{run_of, mag_of, read_code, signs, code_of, code, neg_of, signed_of}
use lib.IntN.{ℤ, pos, negsuc, nat_abs}
use lib.Dec.{lit<}
use borrow.Author.Tests.{lt-ltb, le-ltb, eq-eqb, ne_eqb}
use Rattle.signature.proofs.Strings.{length-bits, sets-append, Bits, bits-join, are-bits}

pub code-length : (w m s : ℕ) → length (code_of w m s) ≡ w + m / 2 ^ w + 1 + length (signs m s)
unfolding code_of
code-length w m s = simp (length-append, length-bits, length-replicate) (omega arith)

pub sign-length : (m s : ℕ) → (m ≡ 0 → ⊥) → signs m s ≡ s ∷ []
sign-length zero s h = absurd (h refl)
sign-length (suc m) s h = refl

-- the stores that write a code
module _ (l l₁ l₂ l₃ : List ℕ) (at w m s : ℕ) (p : l₁ ≡ sets l at (bits_of w m)) (q : l₂ ≡ sets l₁ (at + w) (replicate (m / 2 ^ w) 1)) (r : l₃ ≡ set l₂ (at + w + m / 2 ^ w) 0) where
  three : (vs : List ℕ) → sets l₃ (at + w + m / 2 ^ w + 1) vs ≡ sets l at (bits_of w m ++ (replicate (m / 2 ^ w) 1 ++ (0 ∷ vs)))
  three vs =
      ap (λ (n : ℕ). sets l₃ n vs) (add-one (at + w + m / 2 ^ w)) ∙ ap (λ (x : List ℕ). sets x (suc (at + w + m / 2 ^ w)) vs) r
      ∙ sym (sets-append l at (bits_of w m) (replicate (m / 2 ^ w) 1 ++ (0 ∷ vs))
      ∙ ap (λ (n : ℕ). sets (sets l at (bits_of w m)) (at + n) (replicate (m / 2 ^ w) 1 ++ (0 ∷ vs))) (length-bits w m)
      ∙ ap (λ (x : List ℕ). sets x (at + w) (replicate (m / 2 ^ w) 1 ++ (0 ∷ vs))) (sym p)
      ∙ sets-append l₁ (at + w) (replicate (m / 2 ^ w) 1) (0 ∷ vs)
      ∙ ap (λ (n : ℕ). sets (sets l₁ (at + w) (replicate (m / 2 ^ w) 1)) (at + w + n) (0 ∷ vs)) (length-replicate (m / 2 ^ w) 1)
      ∙ ap (λ (x : List ℕ). sets x (at + w + m / 2 ^ w) (0 ∷ vs)) (sym q))

  pub no_sign : m ≡ 0 → l₃ ≡ sets l at (code_of w m s)
  unfolding code_of
  no_sign e = three [] ∙ ap (λ (x : List ℕ). sets l at (bits_of w m ++ (replicate (m / 2 ^ w) 1 ++ (0 ∷ x)))) (sym (ap (λ (n : ℕ). signs n s) e))

  pub with-sign : (m ≡ 0 → ⊥) → (l₄ : List ℕ) → l₄ ≡ set l₃ (at + w + m / 2 ^ w + 1) s → l₄ ≡ sets l at (code_of w m s)
  unfolding code_of
  with-sign h l₄ e = e ∙ three (s ∷ []) ∙ ap (λ (x : List ℕ). sets l at (bits_of w m ++ (replicate (m / 2 ^ w) 1 ++ (0 ∷ x)))) (sym (sign-length m s h))

pub neg-lt : (z : ℤ) → neg_of z < 2
neg-lt (pos n) = lit< tt
neg-lt (negsuc n) = lit< tt

pub same_code : (w m s : ℕ) (z : ℤ) → m ≡ nat_abs z → s ≡ neg_of z → code_of w m s ≡ code w z
same_code w m s z e f = ap (λ (x : ℕ). code_of w x s) e ∙ ap (code_of w (nat_abs z)) f

-- ---- a code's bits are 0 and 1

pub bits-replicate : (n b : ℕ) → b < 2 → Bits (replicate n b)
bits-replicate zero b h i = lit< tt
bits-replicate (suc n) b h zero = h
bits-replicate (suc n) b h (suc i) = bits-replicate n b h i

sign-bits : (m s : ℕ) → s < 2 → Bits (0 ∷ signs m s)
sign-bits m s h zero = lit< tt
sign-bits zero s h (suc i) = lit< tt
sign-bits (suc m) s h (suc zero) = h
sign-bits (suc m) s h (suc (suc i)) = lit< tt

pub mag-code-are : (w m s : ℕ) → s < 2 → Bits (code_of w m s)
unfolding code_of
mag-code-are w m s h =
    bits-join (bits_of w m) (replicate (m / 2 ^ w) 1 ++ (0 ∷ signs m s)) (are-bits w m)
    (bits-join (replicate (m / 2 ^ w) 1) (0 ∷ signs m s) (bits-replicate (m / 2 ^ w) 1 (lit< tt)) (sign-bits m s h))

pub code-are : (w : ℕ) (z : ℤ) → Bits (code w z)
code-are w z = mag-code-are w (nat_abs z) (neg_of z) (neg-lt z)

-- ---- a run of ones

run-cons-on : (b : ℕ) (l : List ℕ) → (b ≡ 0 → ⊥) → run_of (b ∷ l) ≡ suc (run_of l)
unfolding run_of
run-cons-on zero l h = absurd (h refl)
run-cons-on (suc b) l h = refl

run-cons-stop : (b : ℕ) (l : List ℕ) → b ≡ 0 → run_of (b ∷ l) ≡ 0
unfolding run_of
run-cons-stop b l e = rw e

module _ (l : List ℕ) (at : ℕ) where
  pub run_on : at < length l → (get_or l at 0 ≡ 0 → ⊥) → run_of (drop at l) ≡ suc (run_of (drop (at + 1) l))
  run_on h n = ap run_of (drop-cons l at 0 h) ∙ run-cons-on _ _ n ∙ ap (λ (k : ℕ). suc (run_of (drop k l))) (sym (add-one at))

  pub run-stop : at < length l → get_or l at 0 ≡ 0 → run_of (drop at l) ≡ 0
  run-stop h e = ap run_of (drop-cons l at 0 h) ∙ run-cons-stop _ _ e

  pub run_end : length l ≤ at → run_of (drop at l) ≡ 0
  unfolding run_of
  run_end h = ap run_of (drop_of_length-le l h)

-- ---- what is read, by the tests of the code: n ones behind the low bits, the absolute value m, the sign s

module _ (w : ℕ) (t : List ℕ) where
  pub read_short : length t ≤ w + run_of (drop w t) → read_code w t ≡ none
  unfolding read_code
  read_short h = rw (le-ltb _ _ h)

  module _ (n m : ℕ) (is-n : n ≡ run_of (drop w t)) (is_m : m ≡ mag_of w t) (stop : w + n < length t) where
    pub read-zero : m ≡ 0 → read_code w t ≡ some (pos 0, w + n + 1)
    unfolding read_code
    read-zero e = rw (← is-n, lt-ltb _ _ stop, eq-eqb (val_of (take w t) + n * 2 ^ w) 0 (ap (λ (k : ℕ). val_of (take w t) + k * 2 ^ w) is-n ∙ sym is_m ∙ e))

    module _ (some-m : m ≡ 0 → ⊥) where
      m-is : m ≡ val_of (take w t) + n * 2 ^ w
      m-is = is_m ∙ ap (λ (k : ℕ). val_of (take w t) + k * 2 ^ w) (sym is-n)

      pub read-cut : length t ≤ w + n + 1 → read_code w t ≡ none
      unfolding read_code
      read-cut h = rw (← is-n, lt-ltb _ _ stop, ← m-is, ne_eqb m 0 some-m, le-ltb _ _ h)

      pub read_some : (s : ℕ) → s ≡ get_or t (w + n + 1) 0 → w + n + 1 < length t → read_code w t ≡ some (signed_of m s, w + n + 2)
      unfolding read_code
      read_some s e h = rw (← is-n, lt-ltb _ _ stop, ← m-is, ne_eqb m 0 some-m, lt-ltb _ _ h, ← e)

-- the code's own numbers are those of the definition
module _ (w n : ℕ) (few : n < 2 ^ 20) (narrow : w ≤ 40) where
  pub mag-exact : n * 2 ^ w % 2 ^ 64 ≡ n * 2 ^ w
  mag-exact = shl_exact {a = n} 20 w 64 few (omega arith)

  pub mag-lt : (low : ℕ) → low < 2 ^ w → low + n * 2 ^ w % 2 ^ 64 < 2 ^ 63
  mag-lt low h = omega (arith, mag-exact, shl_lt {a = n} 20 w few, pow_mono {i = 20 + w} {j = 60} (omega arith), pow_mono {i = w} {j = 40} narrow)

module _ (l : List ℕ) (at w n : ℕ) (is-run : n ≡ run_of (drop (at + w) l)) where
  pub run_is : n ≡ run_of (drop w (drop at l))
  run_is = is-run ∙ ap run_of (sym (drop-drop w at l))

  pub mag_is : n < 2 ^ 20 → w ≤ 40 → (low : ℕ) → low ≡ val_of (take w (drop at l)) → low + n * 2 ^ w % 2 ^ 64 ≡ mag_of w (drop at l)
  mag_is few narrow low e =
      ap (λ (k : ℕ). low + k) (mag-exact w n few narrow) ∙ ap (λ (k : ℕ). k + n * 2 ^ w) e ∙ ap (λ (k : ℕ). val_of (take w (drop at l)) + k * 2 ^ w) run_is
