-- Barrett's reduction of t below 32 p^2: the quotient of t by p from a factor near 2^55 / p, and what it leaves.
use mathlib.Core.Path.{◌≡◌, ap, sym, subst}
use Prim.Native.Nat.{ℕ, suc, ◌+◌, ◌*◌, ◌-◌, ◌%◌, ◌/◌, ◌^◌, ◌<◌, ◌≤◌}
use native.Mathlib.Nat.{le_refl, mul-le-mul}
use native.Mathlib.Omega.{arith}
use Rattle.ring.specs.declared.prime.Prime.{Prime}
use Rattle.ring.specs.Words.{q}
use Rattle.ring.specs.Residue.{prime}
use Rattle.ring.specs.Loose.{Loose}
use Rattle.ring.proofs.Cong.{Eqv, ≈by}

-- f serves as the factor: not above 2^55 / p, so that the quotient is not above t / p; and near it, so that less than 2 p is left
pub record Serves (p f : ℕ) : Type 0 where
  pub small : f < 4294967296
  pub under : f * p ≤ 2 ^ 55
  pub near : 32 * (p * p) / 8388608 * (2 ^ 55 - f * p) + 2 ^ 55 ≤ 4294967296 * p

pub serves : (s b : Prime) (f : ℕ) → s ≡ b → f < 4294967296 → f * prime b ≤ 2 ^ 55
    → 32 * (prime b * prime b) / 8388608 * (2 ^ 55 - f * prime b) + 2 ^ 55 ≤ 4294967296 * prime b → Serves (prime s) f
serves s b f e h g k = subst (λ (x : Prime). Serves (prime x) f) (sym e) (record { small = h; under = g; near = k })

-- ---- what fits

pub product-low : (p a b : ℕ) → a < 2 * p → b < 2 * p → a * b < 32 * (p * p)
product-low p a b ha hb = omega (arith, mul-le-mul ha hb)

pub wide_low : (p w y : ℕ) → w < p → y < 32 * p → w * y < 32 * (p * p)
wide_low p w y hw hy = omega (arith, mul-le-mul hw hy)

pub word_low : (s : Prime) (t : ℕ) → t < q → t < 32 * (prime s * prime s)
word_low Prime.First t h = omega arith
word_low Prime.Second t h = omega arith

pub wide_fits : (s : Prime) (t : ℕ) → t < 32 * (prime s * prime s) → t < 2 ^ 64
wide_fits Prime.First t h = omega arith
wide_fits Prime.Second t h = omega arith

-- ---- the quotient, u being t / 2^23

module _ (p f t u : ℕ) (s : Serves p f) (e : u ≡ t / 8388608) where
  pub not-above : u * f / 4294967296 * p ≤ t
  not-above = go (u * f / 4294967296) (omega arith)
    where
      go : (r : ℕ) → r * 4294967296 ≤ u * f → r * p ≤ t
      go r h = omega (arith, e, mul-le-mul h (le_refl p), mul-le-mul (le_refl u) s.under)

  pub near-enough : t < 32 * (p * p) → t < u * f / 4294967296 * p + 2 * p
  near-enough h = go (u * f / 4294967296) (2 ^ 55 - f * p) (omega arith) (omega (arith, s.under)) s.near
    where
      go : (r c : ℕ) → suc (u * f) ≤ suc r * 4294967296 → f * p + c ≡ 2 ^ 55
          → 32 * (p * p) / 8388608 * c + 2 ^ 55 ≤ 4294967296 * p → t < r * p + 2 * p
      go r c k d n =
          let o : u ≤ 32 * (p * p) / 8388608 = omega (arith, e, h) in
          omega (arith, e, n, mul-le-mul k (le_refl p), ap (λ (x : ℕ). u * x) d, mul-le-mul o (le_refl c))

-- what such a quotient leaves, m being the prime
pub left-loose : (p m r t : ℕ) → m ≡ p → r * p ≤ t → t < r * p + 2 * p → Loose p 2 (t % p) (t - r * m)
left-loose p m r t e h g =
    let k : Eqv p (t - r * p) t = ≈by r 0 (omega arith) in
    subst (λ (x : ℕ). Loose p 2 (t % p) (t - r * x)) (sym e) (record { low = omega arith; same = k.same })

-- the product of equal factors
pub of-product : (p n r : ℕ) {a b c d : ℕ} → a ≡ c → b ≡ d → Loose p n ((a * b) % p) r → Loose p n ((c * d) % p) r
of-product p n r {a} {b} {c} {d} e g h =
    let k : a * b ≡ c * d = cc (e, g) in
    subst (λ (x : ℕ). Loose p n (x % p) r) k h
