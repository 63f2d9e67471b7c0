-- The fields of an attempt, and how it ends, by the tests in their order: the bounds, then the length (000, Algorithm 2, lines 19 and 20).
use mathlib.Core.Path.{◌≡◌, refl, ap, ◌∙◌}
use mathlib.Core.Bool.{true, false}
use mathlib.Core.List.{List, ◌++◌}
use Prim.Native.Nat.{ℕ, ◌+◌, ◌-◌, ◌*◌, ◌^◌, ◌≤◌, ◌<◌}
use native.Mathlib.Nat.{mod-lt}
use native.Mathlib.Omega.{arith}
use lib.Dec.{lit<}
use lib.IntN.{ℤ, pos, nat_abs}
use lib.ListN.{length, get_or, replicate}
use Rattle.hash.specs.declared.params.Params.{Params}
use Rattle.ring.specs.Words.{q, Below, zip_to}
use Rattle.ring.specs.Round.{round_w, residues}
use Rattle.ring.proofs.Sums.{below-zip, length-zip}
use Rattle.signature.specs.AnswerSteps.{fields_of, FinishedAs}
use Rattle.signature.specs.Bits.{chop}
use Rattle.signature.specs.Bounds.{check_bounds}
use Rattle.signature.specs.Form.{Fields, form_bits, bit_count}
use Rattle.signature.specs.Recover.{sub31, centred_all, hint_of, recovered}
use Rattle.signature.specs.Sign.{Public, signed_fields, finished}
use Rattle.signature.proofs.Canonical.{write-fits, write-none}
use Rattle.signature.proofs.Centred.{length-centred, centred-low}

-- the numbers of hint and response are small, so that they can be measured, counted and written
module _ (w y : List ℕ) {h : List ℤ} (e : h ≡ hint_of w y) where
  pub hint-low : Below 31 w → (i : ℕ) → nat_abs (get_or h i (pos 0)) ≤ 31
  unfolding hint_of
  hint-low b i = rw e (centred-low 31 (zip_to sub31 w (round_w y)) (below-zip 31 sub31 (λ (u v : ℕ). mod-lt (u + (31 - v)) (lit< tt)) w (round_w y) b) i)

  pub hint-small : Below 31 w → (i : ℕ) → nat_abs (get_or h i (pos 0)) < 2 ^ 50
  hint-small b i = omega (arith, hint-low b i)

  pub hint-length : length h ≡ length w
  unfolding hint_of
  hint-length = ap (λ (l : List ℤ). length l) e ∙ length-centred 31 (zip_to sub31 w (round_w y)) ∙ length-zip sub31 w (round_w y)

module _ (z : List ℕ) {r : List ℤ} (e : r ≡ centred_all q z) where
  pub response-small : Below q z → (i : ℕ) → nat_abs (get_or r i (pos 0)) < 2 ^ 50
  response-small b i = rw e (omega (arith, centred-low q z b i))

  pub response-length : length r ≡ length z
  response-length = ap (λ (l : List ℤ). length l) e ∙ length-centred q z

-- the fields are those of the definition
pub fields-are : (p : Params) (P : Public) (w hash z : List ℕ) (c h r : List ℤ) → h ≡ hint_of w (recovered p P.matrix z (residues q c) P.vector)
    → r ≡ centred_all q z → fields_of hash h r ≡ signed_fields p P w hash z c
unfolding signed_fields
fields-are p P w hash z c h r e f =
    ap (λ (x : List ℤ). fields_of hash x r) e ∙ ap (fields_of hash (hint_of w (recovered p P.matrix z (residues q c) P.vector))) f

module _ (p : Params) (f : Fields) (xs : List ℕ) where
  pub ends-over : check_bounds p f ≡ false → FinishedAs (finished p f) false xs xs
  unfolding finished
  ends-over e = rw e (refl, refl)

  pub ends-long : check_bounds p f ≡ true → 8 * p.sig_bytes < bit_count f → FinishedAs (finished p f) false xs xs
  unfolding finished
  ends-long e h = rw (e, write-none p f h) (refl, refl)

  pub ends-made : (ys : List ℕ) → check_bounds p f ≡ true → bit_count f ≤ 8 * p.sig_bytes
      → ys ≡ chop 8 p.sig_bytes (form_bits f ++ replicate (8 * p.sig_bytes - bit_count f) 0) → FinishedAs (finished p f) true xs ys
  unfolding finished
  ends-made ys e h g = rw (e, write-fits p f h) (refl, g)
