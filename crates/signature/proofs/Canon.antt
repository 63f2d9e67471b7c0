-- What is read from bits is what the writer writes of it: no number has a second code.
use Prim.Native.Nat.{ℕ, zero, suc, ◌+◌, ◌*◌, ◌/◌, ◌^◌, ◌<◌}
use mathlib.Core.Path.{◌≡◌, refl, sym, ap, ◌∙◌}
use mathlib.Core.List.{List, [], ◌∷◌, ◌++◌, append_assoc}
use mathlib.Core.Option.{some}
use native.Mathlib.Omega.{arith}
use native.Mathlib.Nat.{le_of_suc-le-suc, add_comm, add_assoc}
use native.Mathlib.Numerals.{add-one}
use native.Mathlib.Decide.{ℕ_discrete, dec_lt}
use lib.IntN.{ℤ, pos}
use lib.ListN.{length, get_or, take, drop, replicate, length-drop}
use lib.Seq.{take-add, take-suc, length-take-le, get_or-drop}
use lib.Pow.{high}
use Rattle.signature.specs.Bits.{bits_of, val_of}
use Rattle.signature.specs.Code.{code_of, code, signed_of, run_of, mag_of, read_code}
use Rattle.signature.proofs.Strings.{Bits, bits-take, bits-mod, bits-val, val-lt}
use Rattle.signature.proofs.Codes.{sign-length, read_short, read-zero, read-cut, read_some}

run_take : (u : List ℕ) → Bits u → take (run_of u) u ≡ replicate (run_of u) 1
unfolding run_of
run_take [] h = refl
run_take (zero ∷ u) h = refl
run_take (suc b ∷ u) h =
    let e : suc b ≡ 1 = omega (arith, h 0) in
    ap (λ (k : ℕ). k ∷ take (run_of u) u) e ∙ ap (λ (m : List ℕ). 1 ∷ m) (run_take u (λ i. h (suc i)))

run-next : (u : List ℕ) → run_of u < length u → get_or u (run_of u) 0 ≡ 0
unfolding run_of
run-next [] h = refl
run-next (zero ∷ u) h = refl
run-next (suc b ∷ u) h = run-next u (le_of_suc-le-suc h)

code-signed : (w m s : ℕ) → (m ≡ 0 → ⊥) → s < 2 → code w (signed_of m s) ≡ code_of w m s
code-signed w zero s h k = absurd (h refl)
code-signed w (suc m) zero h k = refl
code-signed w (suc m) (suc zero) h k = refl
code-signed w (suc m) (suc (suc s)) h k = let x : ⊥ = omega arith in absurd x

module _ (w : ℕ) (t : List ℕ) (all : Bits t) (stop : w + run_of (drop w t) < length t) where
  part : Bits (take w t)
  part = bits-take w t all

  rest : Bits (drop w t)
  rest i = rw get_or-drop (all (w + i))

  wide : length (take w t) ≡ w
  wide = length-take-le w t (omega arith)

  low-is : bits_of w (mag_of w t) ≡ take w t
  low-is = bits-mod w (val_of (take w t)) (run_of (drop w t)) ∙ ap (λ (k : ℕ). bits_of k (val_of (take w t))) (sym wide) ∙ bits-val (take w t) part

  high_is : mag_of w t / 2 ^ w ≡ run_of (drop w t)
  high_is =
      let k : val_of (take w t) < 2 ^ w = rw wide at (val-lt (take w t) part) in
      ap (λ (x : ℕ). x / 2 ^ w) (add_comm (val_of (take w t)) (run_of (drop w t) * 2 ^ w)) ∙ high (run_of (drop w t)) w k

  front : take (w + run_of (drop w t) + 1) t ≡ bits_of w (mag_of w t) ++ (replicate (mag_of w t / 2 ^ w) 1 ++ (0 ∷ []))
  front =
      let u = drop w t in
      let l : run_of u < length u = simp length-drop (omega arith) in
      ap (λ (k : ℕ). take k t) (add_assoc w (run_of u) 1) ∙ take-add w (run_of u + 1) t
      ∙ ap (λ (m : List ℕ). m ++ take (run_of u + 1) u) (sym low-is)
      ∙ ap (λ (m : List ℕ). bits_of w (mag_of w t) ++ m)
      (ap (λ (k : ℕ). take k u) (add-one (run_of u)) ∙ take-suc u (run_of u) 0 l
      ∙ ap (λ (m : List ℕ). m ++ (get_or u (run_of u) 0 ∷ [])) (run_take u rest ∙ ap (λ (k : ℕ). replicate k 1) (sym high_is))
      ∙ ap (λ (b : ℕ). replicate (mag_of w t / 2 ^ w) 1 ++ (b ∷ [])) (run-next u l))

  zero_is : mag_of w t ≡ 0 → take (w + run_of (drop w t) + 1) t ≡ code w (pos 0)
  unfolding code_of
  zero_is e = front ∙ ap (λ (m : ℕ). bits_of w m ++ (replicate (m / 2 ^ w) 1 ++ (0 ∷ []))) e

  some_is : (mag_of w t ≡ 0 → ⊥) → w + run_of (drop w t) + 1 < length t → take (w + run_of (drop w t) + 2) t ≡ code w (signed_of (mag_of w t) (get_or t (w + run_of (drop w t) + 1) 0))
  unfolding code_of
  some_is h l =
      let k = w + run_of (drop w t) + 1 in
      let m = mag_of w t in
      let s = get_or t k 0 in
      let e : w + run_of (drop w t) + 2 ≡ suc k = omega arith in
      let g : (bits_of w m ++ (replicate (m / 2 ^ w) 1 ++ (0 ∷ []))) ++ (s ∷ []) ≡ bits_of w m ++ (replicate (m / 2 ^ w) 1 ++ (0 ∷ (s ∷ []))) = simp append_assoc in
      ap (λ (x : ℕ). take x t) e ∙ take-suc t k 0 l ∙ ap (λ (x : List ℕ). x ++ (s ∷ [])) front
      ∙ g ∙ ap (λ (x : List ℕ). bits_of w m ++ (replicate (m / 2 ^ w) 1 ++ (0 ∷ x))) (sym (sign-length m s h))
      ∙ sym (code-signed w m s h (all k))

-- the bits that a number was read from are its code
pub canon : (w : ℕ) (t : List ℕ) (z : ℤ) (k : ℕ) → Bits t → read_code w t ≡ some (z, k) → take k t ≡ code w z
canon w t z k all e = go₁ (dec_lt (w + run_of (drop w t)) (length t))
  where
    go₃ : w + run_of (drop w t) < length t → (mag_of w t ≡ 0 → ⊥) → Dec (w + run_of (drop w t) + 1 < length t) → take k t ≡ code w z
    go₃ s h (yes l) =
        let r = read_some w t _ _ refl refl s h _ refl l in
        let p : ◌≡◌ {A = ℤ × ℕ} (z, k) (signed_of (mag_of w t) (get_or t (w + run_of (drop w t) + 1) 0), w + run_of (drop w t) + 2) = cc in
        ap (λ (x : ℤ × ℕ). take x.1 t) p ∙ some_is w t all s h l ∙ ap (λ (x : ℤ × ℕ). code w x.0) (sym p)
    go₃ s h (no l) = let r = read-cut w t _ _ refl refl s h (omega (arith, l)) in let x : ◌≡◌ {A = ℕ} 0 1 = cc in absurd (omega arith)

    go₂ : w + run_of (drop w t) < length t → Dec (mag_of w t ≡ 0) → take k t ≡ code w z
    go₂ s (yes h) =
        let r = read-zero w t _ _ refl refl s h in
        let p : ◌≡◌ {A = ℤ × ℕ} (z, k) (pos 0, w + run_of (drop w t) + 1) = cc in
        ap (λ (x : ℤ × ℕ). take x.1 t) p ∙ zero_is w t all s h ∙ ap (λ (x : ℤ × ℕ). code w x.0) (sym p)
    go₂ s (no h) = go₃ s h (dec_lt (w + run_of (drop w t) + 1) (length t))

    go₁ : Dec (w + run_of (drop w t) < length t) → take k t ≡ code w z
    go₁ (yes s) = go₂ s (ℕ_discrete (mag_of w t) 0)
    go₁ (no s) = let r = read_short w t (omega (arith, s)) in let x : ◌≡◌ {A = ℕ} 0 1 = cc in absurd (omega arith)
