-- Values of polynomials: of lists made by a linear rule, of a product, of the rests.
use mathlib.Core.Path.{◌≡◌, refl, ap, sym, ◌∙◌}
use mathlib.Core.List.{List, [], ◌∷◌, ◌++◌}
use Prim.Native.Nat.{ℕ, zero, suc, ◌+◌, ◌*◌, ◌%◌, ◌^◌, ◌<◌}
use native.Mathlib.Nat.{pow-suc, pow-zero, mod-lt}
use native.Mathlib.Omega.{arith}
use lib.ListN.{length, length-replicate}
use Rattle.hash.specs.Lists.{zeros}
use Rattle.ring.specs.Words.{Below, Residues}
use Rattle.ring.specs.Poly.{eval, map_n, map2, neg, last_of, shift, mulx, prod}
use Rattle.ring.specs.Residue.{mods}
use Rattle.ring.proofs.Cong.{Eqv, ≈refl, ≈sym, ≈trans, ≈eq, ≈mod, ≈kit, neg-add}
use Rattle.ring.proofs.Sums.{below-zeros}
use Rattle.ring.proofs.Places.{length-map2, below-map2}

-- the value of two lists, one behind the other
pub eval-append : (f g : List ℕ) (r : ℕ) → eval (f ++ g) r ≡ eval f r + r ^ length f * eval g r
eval-append [] g r = rw pow-zero (omega arith)
eval-append (a ∷ f) g r =
    omega (arith, ap (λ (x : ℕ). x * eval g r) (pow-suc r (length f)), ap (λ (x : ℕ). r * x) (eval-append f g r))

-- ---- the product: its length and its residues

length_shift : (c : ℕ) (h : List ℕ) → length (shift c h) ≡ length h
length_shift c [] = refl
length_shift c (a ∷ h) = ap suc (length_shift a h)

pub length-prod : (p : ℕ) (f g : List ℕ) → length (prod p f g) ≡ length g
length-prod p [] g = length-replicate {A = ℕ} (length g) 0
length-prod p (a ∷ f) g = length-map2 _ g (mulx p (prod p f g)) (sym (length_shift _ (prod p f g) ∙ length-prod p f g))

below-prod : {p : ℕ} → 0 < p → (f g : List ℕ) → Below p (prod p f g)
below-prod {p} pos [] g = below-zeros p pos (length g)
below-prod {p} pos (a ∷ f) g =
    below-map2 p (λ (x : ℕ) (y : ℕ). (a * x + y) % p) (λ x y. mod-lt _ pos) g (mulx p (prod p f g))

pub residues-prod : {p n : ℕ} → 0 < p → (f g : List ℕ) → length g ≡ n → Residues p n (prod p f g)
residues-prod {p} pos f g e = record { long = length-prod p f g ∙ e; low = below-prod pos f g }

-- ---- values

eval-zeros : (n r : ℕ) → eval (zeros n) r ≡ 0
eval-zeros zero r = refl
eval-zeros (suc n) r = omega (arith, ap (λ (x : ℕ). r * x) (eval-zeros n r))

eval-shift : (c : ℕ) (h : List ℕ) (r : ℕ) → eval (shift c h) r + r ^ length h * last_of c h ≡ c + r * eval h r
eval-shift c [] r = rw pow-zero (omega arith)
eval-shift c (a ∷ h) r =
    omega (arith, ap (λ (x : ℕ). x * last_of a h) (pow-suc r (length h)), ap (λ (x : ℕ). r * x) (eval-shift a h r))

-- the rests at a congruent point have a congruent value
pub eval-rests : {p : ℕ} (f : List ℕ) (r t : ℕ) → Eqv p r t → Eqv p (eval f r) (eval (mods p f) t)
unfolding map_n
eval-rests [] r t e = ≈refl
eval-rests {p} (a ∷ f) r t e =
    grw (≈kit, e, eval-rests f r t e) (≈sym (grw (≈kit, ≈mod {p = p} a) ≈refl))

-- a list made place by place by a linear rule
pub eval-map2 : {p : ℕ} (h : ℕ → ℕ → ℕ) (u w : ℕ) → ((a b : ℕ) → Eqv p (h a b) (u * a + w * b))
    → (xs ys : List ℕ) → length xs ≡ length ys → (r : ℕ)
    → Eqv p (eval (map2 h xs ys) r) (u * eval xs r + w * eval ys r)
eval-map2 h u w l [] [] e r = ≈eq (omega arith)
eval-map2 h u w l [] (y ∷ ys) e r = absurd (omega arith)
eval-map2 h u w l (x ∷ xs) [] e r = absurd (omega arith)
eval-map2 h u w l (x ∷ xs) (y ∷ ys) e r =
    grw (≈kit, l x y, eval-map2 h u w l xs ys (omega arith) r) (≈eq (omega arith))

module _ {p : ℕ} (pos : 0 < p) where
  -- x h has r times the value of h, where r^n = -1
  eval-mulx : (h : List ℕ) (r : ℕ) → Eqv p (r ^ length h + 1) 0 → Eqv p (eval (mulx p h) r) (r * eval h r)
  eval-mulx [] r e = ≈eq (omega arith)
  eval-mulx (a ∷ h) r e =
      let L : ℕ = last_of a h in
      let E : ℕ = eval (mulx p (a ∷ h)) r in
      let P : ℕ = r ^ suc (length h) in
      ≈trans {b = E + (P + 1) * L}
      (≈sym (grw (≈kit, e) (≈eq (omega arith))))
      (≈trans {b = (neg p L + L) + r * eval (a ∷ h) r}
      (≈eq (omega (arith, eval-shift (neg p L) (a ∷ h) r)))
      (grw (≈kit, neg-add pos L) (≈eq (omega arith))))

  -- the value of a product is the product of the values
  pub eval-prod : (f g : List ℕ) (r : ℕ) → Eqv p (r ^ length g + 1) 0 → Eqv p (eval (prod p f g) r) (eval f r * eval g r)
  eval-prod [] g r e = ≈eq (rw eval-zeros (omega arith))
  eval-prod (a ∷ f) g r e =
      ≈trans
      (eval-map2 _ a 1 (λ x y. ≈trans (≈mod _) (≈eq (omega arith))) g (mulx p (prod p f g))
      (sym (length_shift _ (prod p f g) ∙ length-prod p f g)) r)
      (grw (≈kit, eval-mulx (prod p f g) r (rw length-prod e), eval-prod f g r e) (≈eq (omega arith)))
