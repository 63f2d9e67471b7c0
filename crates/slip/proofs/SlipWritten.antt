-- Writing a slip, step by step: the leading bytes, three parts laid into the buffer, and what the checks say.
use mathlib.Core.Path.{◌≡◌, refl, ap, ◌∙◌}
use mathlib.Core.Bool.{true, false}
use mathlib.Core.List.{List, [], ◌∷◌, ◌++◌, append-nil}
use Prim.Native.Nat.{ℕ, suc, ◌+◌, ◌/◌, ◌%◌, ◌^◌, ◌≤◌, ◌<◌}
use native.Mathlib.Omega.{arith}
use borrow.Author.Tests.{lt-leb, le-leb}
use lib.Dec.{leb}
use lib.ListN.{length, drop, length-append, length-drop, drop_of_length-le}
use Rattle.hash.specs.Lists.{table}
use Rattle.ring.proofs.Checks.{left-no, right-no, both_yes}
use Rattle.sharing.specs.Region.{put}
use Rattle.signature.specs.Checks.{first_no}
use Rattle.signature.specs.Outcome.{written}
use Rattle.signature.proofs.KeyBytes.{laid-behind}
use Rattle.slip.specs.Calls.{parts_fit, write_checks, write_slip_call}
use Rattle.slip.specs.Format.{Slip, leading, slip_bytes, set_by_size}

pub leading-made : (m t n : ℕ) → t < 2 ^ 8
    → 84 ∷ 77 ∷ 82 ∷ 1 ∷ 0 ∷ (m % 256) ∷ (m / 256 % 256) ∷ t ∷ (n % 256) ∷ (n / 256 % 256) ∷ [] ≡ leading m t n
unfolding leading table
leading-made m t n k =
    let m0 : m / 1 % 256 ≡ m % 256 = omega arith in
    let t0 : t / 1 % 256 ≡ t = omega arith in
    let n0 : n / 1 % 256 ≡ n % 256 = omega arith in
    rw (m0, t0, n0) refl

-- three parts that fill a buffer
module _ (A B C o : List ℕ) (a b : ℕ) (la : length A ≡ a) (lb : length A + length B ≡ b) (lo : length o ≡ b + length C) where
  pub three-laid : (o₁ o₂ o₃ : List ℕ) → o₁ ≡ put o 0 (length A) A → o₂ ≡ put o₁ a (length B) B → o₃ ≡ put o₂ b (length C) C → o₃ ≡ (A ++ B) ++ C
  three-laid o₁ o₂ o₃ h₁ h₂ h₃ =
      let r = drop (length A) o in
      let s = drop (length B) r in
      let e₂ : o₂ ≡ (A ++ B) ++ s = h₂ ∙ laid-behind A r B o₁ a (length B) la h₁ in
      let l : length s ≤ length C = omega (arith, length-drop (length A) o, length-drop (length B) r) in
      h₃ ∙ laid-behind (A ++ B) s C o₂ b (length C) (length-append A B ∙ lb) e₂ ∙ ap (λ (x : List ℕ). ((A ++ B) ++ C) ++ x) (drop_of_length-le s l)
      ∙ append-nil ((A ++ B) ++ C)

-- ---- the checks

pub write-no : (s : Slip) (out : List ℕ) (n : ℕ) → suc n ≡ first_no (write_checks s out) → (suc n, out) ≡ write_slip_call s out
unfolding write_slip_call
write-no s out n e = ap (λ (k : ℕ). (k, written k (slip_bytes s) out)) e

pub write-yes : (s : Slip) (out o : List ℕ) → 0 ≡ first_no (write_checks s out) → o ≡ slip_bytes s → (0, o) ≡ write_slip_call s out
unfolding write_slip_call
write-yes s out o e h =
    let f : List ℕ → ℕ × List ℕ = λ x. (0, x) in
    ap f h ∙ ap (λ (k : ℕ). (k, written k (slip_bytes s) out)) e

pub text-over : (n k : ℕ) → 512 < n → parts_fit n k ≡ false
text-over n k h = left-no _ (lt-leb n 512 h)

pub size-unknown : (n k : ℕ) → set_by_size k ≡ 0 → parts_fit n k ≡ false
size-unknown n k h = right-no (leb n 512) (lt-leb 1 (set_by_size k) (omega (arith, h)))

pub parts-fit : (n k : ℕ) → n ≤ 512 → (set_by_size k ≡ 0 → ⊥) → parts_fit n k ≡ true
parts-fit n k h s = both_yes (le-leb n 512 h) (le-leb 1 (set_by_size k) (omega (arith, s)))
