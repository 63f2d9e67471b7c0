-- Congruence modulo p: `grw (≈kit, h) t` rewrites by congruences, and `≈eq (omega arith)` closes an identity of polynomials.
use mathlib.Core.Path.{◌≡◌, refl, ap, sym, ◌∙◌}
use Prim.Native.Nat.{ℕ, zero, suc, ◌+◌, ◌*◌, ◌-◌, ◌%◌, ◌/◌, ◌^◌, ◌<◌}
use native.Mathlib.Nat.{add-mul-mod_self_right, mod-add-div', mod-eq_of_lt, mod-mod, mod-lt, pow-suc, pow-zero}
use native.Mathlib.Omega.{arith}
use Rattle.ring.specs.Poly.{neg}

-- a and b leave the same rest
pub record Eqv (p a b : ℕ) : Type 0 where
  pub same : a % p ≡ b % p

module _ {p : ℕ} where
  pub ≈refl : {a : ℕ} → Eqv p a a
  ≈refl = record { same = refl }

  pub ≈sym : {a b : ℕ} → Eqv p a b → Eqv p b a
  ≈sym h = record { same = sym h.same }

  pub ≈trans : {a b c : ℕ} → Eqv p a b → Eqv p b c → Eqv p a c
  ≈trans h k = record { same = h.same ∙ k.same }

  pub ≈eq : {a b : ℕ} → a ≡ b → Eqv p a b
  ≈eq e = record { same = ap (λ (x : ℕ). x % p) e }

  -- congruent by multiples of p: the way to show one from an equation of numbers
  pub ≈by : {a b : ℕ} (k l : ℕ) → a + k * p ≡ b + l * p → Eqv p a b
  ≈by {a} {b} k l e =
      record { same = sym (add-mul-mod_self_right a k p) ∙ ap (λ (x : ℕ). x % p) e ∙ add-mul-mod_self_right b l p }

  -- and back: the multiples
  pub ≈mult : {a b : ℕ} → Eqv p a b → a + (b / p) * p ≡ b + (a / p) * p
  ≈mult {a} {b} h = omega (arith, mod-add-div' a p, mod-add-div' b p, h.same)

  pub ≈mod : (a : ℕ) → Eqv p (a % p) a
  ≈mod a = record { same = mod-mod a p }

  pub ≈add : {a b c d : ℕ} → Eqv p a b → Eqv p c d → Eqv p (a + c) (b + d)
  ≈add {a} {b} {c} {d} h k = ≈by (b / p + d / p) (a / p + c / p) (omega (arith, ≈mult h, ≈mult k))

  pub ≈mul : {a b c d : ℕ} → Eqv p a b → Eqv p c d → Eqv p (a * c) (b * d)
  ≈mul {a} {b} {c} {d} h k =
      ≈trans {b = b * c}
      (≈by ((b / p) * c) ((a / p) * c) (omega (arith, ap (λ (x : ℕ). x * c) (≈mult h))))
      (≈by (b * (d / p)) (b * (c / p)) (omega (arith, ap (λ (x : ℕ). b * x) (≈mult k))))

  pub ≈pow : {a b : ℕ} → Eqv p a b → (n : ℕ) → Eqv p (a ^ n) (b ^ n)
  ≈pow {a} {b} h zero = ≈eq (pow-zero a ∙ sym (pow-zero b))
  ≈pow {a} {b} h (suc n) = rw (pow-suc a n, pow-suc b n) (≈mul (≈pow h n) h)

  -- two residues below p that are congruent are equal
  pub ≈same : {a b : ℕ} → a < p → b < p → Eqv p a b → a ≡ b
  ≈same ha hb h = sym (mod-eq_of_lt ha) ∙ h.same ∙ mod-eq_of_lt hb

  pub ≈cancel : {a b : ℕ} (c : ℕ) → Eqv p (a + c) (b + c) → Eqv p a b
  ≈cancel {a} {b} c h = ≈by ((b + c) / p) ((a + c) / p) (omega (arith, ≈mult h))

-- rewriting by congruences: grw (≈kit, h) t
pub ruleset ≈kit = (≈trans, ≈refl, ≈add, ≈mul)

module _ {p : ℕ} where
  -- what gives 0 with the same t is the same
  pub ≈unique : (x y t : ℕ) → Eqv p (x + t) 0 → Eqv p (y + t) 0 → Eqv p x y
  ≈unique x y t h g = ≈cancel t (≈trans h (≈sym g))

  -- x and -x have the same square
  pub square-neg : (x y : ℕ) → Eqv p (x + y) 0 → Eqv p (x * x) (y * y)
  square-neg x y h =
      ≈cancel (x * y)
      (≈trans {b = x * (x + y)} (≈eq (omega arith))
      (≈trans {b = y * (x + y)} (grw (≈kit, h) (≈sym (grw (≈kit, h) (≈eq (omega arith))))) (≈eq (omega arith))))

-- the rest of a product by the rest of a factor
pub times-rest : (p w y : ℕ) → (w * y) % p ≡ (w * (y % p)) % p
times-rest p w y =
    let k : Eqv p (w * y) (w * (y % p)) = ≈sym (grw (≈kit, ≈mod {p = p} y) ≈refl) in
    k.same

-- what is congruent modulo q = m p is congruent modulo p
pub coarser : (p q m : ℕ) → q ≡ m * p → {x y : ℕ} → Eqv q x y → Eqv p x y
coarser p q m e {x} {y} h =
    ≈by (y / q * m) (x / q * m) (omega (arith, ≈mult h, ap (λ (t : ℕ). y / q * t) e, ap (λ (t : ℕ). x / q * t) e))

-- -1 modulo p, as a number
pub neg1 : ℕ → ℕ
neg1 p = p - 1

-- minus, and minus as a factor: with it every identity is one of sums and products
module _ {p : ℕ} (pos : 0 < p) where
  pub neg-add : (x : ℕ) → Eqv p (neg p x + x) 0
  neg-add x = ≈by 0 (suc (x / p)) (omega (arith, mod-lt x pos, mod-add-div' x p))

  neg1-suc : suc (neg1 p) ≡ p
  unfolding neg1
  neg1-suc = omega arith

  pub neg1-mul : (x : ℕ) → Eqv p (neg1 p * x + x) 0
  neg1-mul x = ≈by 0 x (omega (arith, ap (λ (y : ℕ). y * x) neg1-suc))

  pub neg1-one : Eqv p (neg1 p + 1) 0
  neg1-one = ≈by 0 1 (omega (arith, neg1-suc))

  pub neg1-square : Eqv p (neg1 p * neg1 p) 1
  neg1-square = square-neg (neg1 p) 1 neg1-one

  pub neg_is : (x : ℕ) → Eqv p (neg p x) (neg1 p * x)
  neg_is x = ≈unique (neg p x) (neg1 p * x) x (neg-add x) (neg1-mul x)

  pub minus_is : (a : ℕ) → a < p → Eqv p (p - a) (neg1 p * a)
  minus_is a h = ≈unique (p - a) (neg1 p * a) a (≈by 0 1 (omega arith)) (neg1-mul a)
