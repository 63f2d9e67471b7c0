-- The scratch at the front of a buffer: it holds the last zero encoding that was made there (`last_zero`).
use mathlib.Core.Path.{◌≡◌, refl, sym, ap, ◌∙◌}
use mathlib.Core.List.{List}
use Prim.Native.Nat.{ℕ, zero, suc, ◌+◌, ◌*◌}
use native.Mathlib.Nat.{add-zero, add-suc, zero-mul}
use native.Mathlib.Numerals.{add-one}
use native.Mathlib.Omega.{arith}
use Rattle.sharing.specs.Encoding.{Generator, skip, zero_at}
use Rattle.sharing.specs.EncodingSteps.{last_zero}
use Rattle.sharing.proofs.Totals.{zero-later, zero-here}

module _ (G : Generator) (d : ℕ) where
  -- none
  pub last_none : (g : G.State) (xs : List ℕ) → xs ≡ last_zero G d g 0 xs
  unfolding last_zero
  last_none g xs = refl

  pub last-start : (r : ℕ) (g : G.State) (xs : List ℕ) → xs ≡ last_zero G d g (0 * r) xs
  last-start r g xs = last_none g xs ∙ ap (λ (k : ℕ). last_zero G d g k xs) (sym (zero-mul r))

  -- one more, behind n of them
  pub last-next : (n : ℕ) (g x : G.State) (xs z : List ℕ) → x ≡ skip G d n g → z ≡ zero_at G d 0 x → z ≡ last_zero G d g (n + 1) xs
  unfolding last_zero
  last-next n g x xs z e f = f ∙ zero-here G d n g x e ∙ ap (λ (k : ℕ). last_zero G d g k xs) (sym (add-one n))

  -- r more
  pub last-add : (n r : ℕ) (g x : G.State) (xs ys zs : List ℕ) → x ≡ skip G d n g → ys ≡ last_zero G d g n xs → zs ≡ last_zero G d x r ys
      → zs ≡ last_zero G d g (n + r) xs
  unfolding last_zero
  last-add n zero g x xs ys zs e f h = h ∙ f ∙ ap (λ (k : ℕ). last_zero G d g k xs) (sym (add-zero n))
  last-add n (suc r) g x xs ys zs e f h =
      h ∙ ap (zero_at G d r) e ∙ zero-later G d n r g ∙ ap (λ (k : ℕ). last_zero G d g k xs) (sym (add-suc n r))

  -- a turn of a loop with r in each
  pub last_turn : (i r : ℕ) (g x : G.State) (xs ys zs : List ℕ) → x ≡ skip G d (i * r) g → ys ≡ last_zero G d g (i * r) xs
      → zs ≡ last_zero G d x r ys → zs ≡ last_zero G d g ((i + 1) * r) xs
  last_turn i r g x xs ys zs e f h =
      let n : i * r + r ≡ (i + 1) * r = omega arith in
      last-add (i * r) r g x xs ys zs e f h ∙ ap (λ (k : ℕ). last_zero G d g k xs) n
