-- What is written is read back; and what is read is what the writer writes of it.
use Prim.Native.Nat.{ℕ, zero, suc, ◌+◌, ◌*◌, ◌/◌, ◌^◌}
use mathlib.Core.Path.{◌≡◌, refl, sym, ap, ◌∙◌}
use mathlib.Core.List.{List, [], ◌∷◌, ◌++◌, append_assoc}
use mathlib.Core.Option.{some}
use native.Mathlib.Omega.{arith}
use lib.IntN.{ℤ, pos, negsuc}
use lib.ListN.{length, get_or, take, drop, replicate, length-append, length-replicate}
use lib.Seq.{take_at, drop_at, get_or_at}
use lib.Pow.{split}
use Rattle.signature.specs.Bits.{bits_of, val_of}
use Rattle.signature.specs.Code.{signs, code_of, code, signed_of, run_of, mag_of, read_code}
use Rattle.signature.proofs.Strings.{length-bits}
use Rattle.signature.proofs.Packing.{val-bits}
use Rattle.signature.proofs.Codes.{code-length, sign-length, read-zero, read_some}

run-ones : (n : ℕ) (l : List ℕ) → run_of (replicate n 1 ++ (0 ∷ l)) ≡ n
unfolding run_of
run-ones zero l = refl
run-ones (suc n) l = ap suc (run-ones n l)

module _ (w m s : ℕ) (rest : List ℕ) where
  n : ℕ
  n = m / 2 ^ w

  t : List ℕ
  unfolding n
  t = bits_of w m ++ (replicate n 1 ++ (0 ∷ (signs m s ++ rest)))

  t-is : code_of w m s ++ rest ≡ t
  unfolding code_of t n
  t-is = simp append_assoc

  ones : n ≡ run_of (drop w t)
  unfolding t
  ones = sym (ap run_of (drop_at (bits_of w m) _ w (length-bits w m)) ∙ run-ones n (signs m s ++ rest))

  value : m ≡ mag_of w t
  unfolding t n
  value =
      sym (ap (λ (k : ℕ). val_of (take w t) + k * 2 ^ w) (sym ones)
      ∙ ap (λ (k : ℕ). k + n * 2 ^ w) (ap val_of (take_at (bits_of w m) _ w (length-bits w m)) ∙ val-bits w m)
      ∙ omega (arith, split m w))

  long : length t ≡ w + n + 1 + length (signs m s) + length rest
  unfolding t n
  long = simp (length-append, length-bits, length-replicate) (omega arith)

  sign_at : (m ≡ 0 → ⊥) → s ≡ get_or t (w + n + 1) 0
  unfolding t n
  sign_at h =
      let p = bits_of w m ++ (replicate n 1 ++ (0 ∷ [])) in
      let k : length p ≡ w + n + 1 = simp (length-append, length-bits, length-replicate) (omega arith) in
      sym (ap (λ (x : List ℕ). get_or (bits_of w m ++ (replicate n 1 ++ (0 ∷ (x ++ rest)))) (w + n + 1) 0) (sign-length m s h)
      ∙ ap (λ (x : List ℕ). get_or x (w + n + 1) 0)
      (ap (λ (x : List ℕ). bits_of w m ++ x) (sym (append_assoc (replicate n 1) (0 ∷ []) (s ∷ rest))) ∙ sym (append_assoc (bits_of w m) (replicate n 1 ++ (0 ∷ [])) (s ∷ rest)))
      ∙ get_or_at p s rest 0 (w + n + 1) k)

  pub written-zero : m ≡ 0 → read_code w (code_of w m s ++ rest) ≡ some (pos 0, length (code_of w m s))
  unfolding n
  written-zero e =
      let l : w + n + 1 ≡ length (code_of w m s) = omega (arith, code-length w m s, ap (λ (k : ℕ). length (signs k s)) e) in
      ap (read_code w) t-is ∙ read-zero w t n m ones value (omega (arith, long)) e ∙ ap (λ (k : ℕ). some (pos 0, k)) l

  pub written-some : (m ≡ 0 → ⊥) → read_code w (code_of w m s ++ rest) ≡ some (signed_of m s, length (code_of w m s))
  unfolding n
  written-some h =
      let g = sign-length m s h in
      let l : w + n + 2 ≡ length (code_of w m s) = omega (arith, code-length w m s, ap length g) in
      ap (read_code w) t-is ∙ read_some w t n m ones value (omega (arith, long)) h s (sign_at h) (omega (arith, long, ap length g)) ∙ ap (λ (k : ℕ). some (signed_of m s, k)) l

-- reading what was written gives the number back, and its length
pub trip : (w : ℕ) (z : ℤ) (rest : List ℕ) → read_code w (code w z ++ rest) ≡ some (z, length (code w z))
trip w (pos zero) rest = written-zero w 0 0 rest refl
trip w (pos (suc k)) rest = written-some w (suc k) 0 rest (λ e. omega arith)
trip w (negsuc k) rest = written-some w (suc k) 1 rest (λ e. omega arith)
