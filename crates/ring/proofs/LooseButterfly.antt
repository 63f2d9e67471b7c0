-- What the butterflies leave, from a loose product: congruent to what they leave of least residues, and not far above x.
use mathlib.Core.Path.{◌≡◌, ap, ◌∙◌}
use Prim.Native.Nat.{ℕ, ◌+◌, ◌*◌, ◌-◌, ◌%◌, ◌<◌, ◌≤◌}
use native.Mathlib.Omega.{arith}
use Rattle.ring.specs.Poly.{neg}
use Rattle.ring.specs.Residue.{join}
use Rattle.ring.specs.Loose.{Loose, CooleyTukey, GentlemanSande}
use Rattle.ring.proofs.Cong.{Eqv, ≈refl, ≈sym, ≈trans, ≈by, ≈mod, ≈kit, ≈unique, times-rest, neg-add}

-- ---- rests of sums and differences

module _ {p : ℕ} (pos : 0 < p) where
  sum-rest : (x y : ℕ) → (x + y) % p ≡ join p (x % p) (y % p)
  sum-rest x y =
      let k : Eqv p (x + y) (x % p + y % p) = ≈sym (grw (≈kit, ≈mod {p = p} x, ≈mod {p = p} y) ≈refl) in
      k.same

  -- n p - x is minus x
  minus : (n x : ℕ) → x ≤ n * p → Eqv p (n * p - x) (neg p x)
  minus n x l = ≈unique (n * p - x) (neg p x) x (≈by 0 n (omega arith)) (neg-add pos x)

  minus-rest : (n x y : ℕ) → y ≤ n * p → (x + (n * p - y)) % p ≡ (x % p + (p - y % p)) % p
  minus-rest n x y l =
      let k : Eqv p (x + (n * p - y)) (x % p + (p - y % p)) =
      ≈trans {b = x + neg p y} (grw (≈kit, minus n y l) ≈refl) (≈sym (grw (≈kit, ≈mod {p = p} x) ≈refl)) in
      k.same

  -- ---- the butterflies

  pub cooley-tukey : (w x y t : ℕ) → Loose p 2 ((w * y) % p) t → CooleyTukey p w x y (x + t) (x + (2 * p - t))
  cooley-tukey w x y t h =
      let e : t % p ≡ (w * (y % p)) % p = h.same ∙ times-rest p w y in
      record {
        sum_is = sum-rest x t ∙ ap (λ (r : ℕ). (x % p + r) % p) e;
        diff_is = minus-rest 2 x t (omega (arith, h.low)) ∙ ap (λ (r : ℕ). (x % p + (p - r)) % p) e;
        sum_low = omega (arith, h.low);
        diff-low = omega arith;
      }

  pub gentleman-sande : (n w x y t : ℕ) → x ≤ n * p → Loose p 2 ((w * (y + (n * p - x))) % p) t → GentlemanSande p w x y (x + y) t
  gentleman-sande n w x y t l h =
      record {
        sum_is = sum-rest x y;
        diff_is = h.same ∙ times-rest p w (y + (n * p - x)) ∙ ap (λ (r : ℕ). (w * r) % p) (minus-rest n y x l);
        sum_low = omega arith;
        diff-low = h.low;
      }
