-- Laws of signed numbers of 64 bits, as the machine's operations give them.
use Prim.Native.Nat.{ℕ, zero, suc, ◌+◌, ◌^◌, ◌<◌, ◌≤◌}
use mathlib.Core.Path.{◌≡◌, refl, sym, ap, ◌∙◌}
use mathlib.Core.Bool.{true, false}
use native.Mathlib.Omega.{arith}
use lib.Dec.{T}
use lib.IntN.{ℤ, pos, negsuc, suc_ℤ, neg_ℤ, nat_abs, ◌+ℤ◌, ◌-ℤ◌, +ℤ_idl, +ℤ_one}
use lib.Signed.{lt_z, non_neg}
use mir.Syntax.{w64}
use mir.Val.{Fits, SFits, to_z, of_z}
use mir.ValLaws.{to_z-of_z}
use borrow.Author.Rules.{sfits_of}
use borrow.Author.Tests.{ltb-true}
use Rattle.signature.specs.Code.{neg_of, signed_of}

-- a number as a machine word holds it
abbrev pub held : ℤ → ℤ
held z = to_z w64 (of_z w64 z)

neg_small : (z : ℤ) → nat_abs z < 2 ^ 63 → SFits w64 (neg_ℤ z)
neg_small (pos zero) h = sfits_of h
neg_small (pos (suc n)) h = sfits_of (omega arith)
neg_small (negsuc n) h = sfits_of h

pub abs-fits : (z : ℤ) → SFits w64 z → nat_abs z ≤ 2 ^ 63
abs-fits (pos n) f = omega (arith, f.sfits)
abs-fits (negsuc n) f = f.sfits

module _ (z : ℤ) (f : SFits w64 z) where
  pub same : held z ≡ z
  same = to_z-of_z w64 z f

  minus : pos 0 -ℤ held z ≡ neg_ℤ z
  minus = +ℤ_idl (neg_ℤ (held z)) ∙ ap neg_ℤ same

  pub fits : Fits w64 (nat_abs (held z))
  fits = rw same (record { fits = omega (arith, abs-fits z f) })

  module _ (h : nat_abs z < 2 ^ 63) where
    pub neg-fits : SFits w64 (pos 0 -ℤ held z)
    neg-fits = rw minus (neg_small z h)

    pub neg-held : held (pos 0 -ℤ held z) ≡ neg_ℤ z
    neg-held = ap held minus ∙ to_z-of_z w64 (neg_ℤ z) (neg_small z h)

  -- what the test `z < 0` says
  pub neg-one : lt_z (held z) (pos 0) ≡ true → neg_of z ≡ 1
  neg-one e = go z (rw same at e)
    where
      go : (z : ℤ) → lt_z z (pos 0) ≡ true → neg_of z ≡ 1
      go (pos n) e = omega (arith, ltb-true n 0 e)
      go (negsuc n) e = refl

  pub neg-zero : lt_z (held z) (pos 0) ≡ false → neg_of z ≡ 0
  neg-zero e = go z (rw same at e)
    where
      go : (z : ℤ) → lt_z z (pos 0) ≡ false → neg_of z ≡ 0
      go (pos n) e = refl
      go (negsuc n) e = let x : ◌≡◌ {A = ℕ} 0 1 = cc in sym x

pub nonneg : (z : ℤ) → neg_of z ≡ 0 → T (non_neg z)
nonneg (pos n) e = tt
nonneg (negsuc n) e = let x : ⊥ = omega arith in absurd x

pub signed-pos : (m s : ℕ) → s ≡ 0 → pos m ≡ signed_of m s
signed-pos m s e = rw e

pub signed-neg : (m s : ℕ) → (s ≡ 0 → ⊥) → neg_ℤ (pos m) ≡ signed_of m s
signed-neg m zero h = absurd (h refl)
signed-neg zero (suc s) h = refl
signed-neg (suc m) (suc s) h = refl

-- ---- a number below 0 by the one above it, which has a negative even where z is the smallest

suc-fits : (z : ℤ) → SFits w64 z → neg_of z ≡ 1 → SFits w64 (suc_ℤ z)
suc-fits (pos n) f e = let x : ⊥ = omega arith in absurd x
suc-fits (negsuc zero) f e = sfits_of (omega arith)
suc-fits (negsuc (suc n)) f e = sfits_of (omega (arith, f.sfits))

suc-small : (z : ℤ) → SFits w64 z → neg_of z ≡ 1 → nat_abs (suc_ℤ z) < 2 ^ 63
suc-small (pos n) f e = let x : ⊥ = omega arith in absurd x
suc-small (negsuc zero) f e = omega arith
suc-small (negsuc (suc n)) f e = f.sfits

pub suc-nonneg : (z : ℤ) → neg_of z ≡ 1 → T (non_neg (neg_ℤ (suc_ℤ z)))
suc-nonneg (pos n) e = let x : ⊥ = omega arith in absurd x
suc-nonneg (negsuc zero) e = tt
suc-nonneg (negsuc (suc n)) e = tt

pub suc-abs : (z : ℤ) → neg_of z ≡ 1 → nat_abs (neg_ℤ (suc_ℤ z)) + 1 ≡ nat_abs z
suc-abs (pos n) e = let x : ⊥ = omega arith in absurd x
suc-abs (negsuc zero) e = refl
suc-abs (negsuc (suc n)) e = omega arith

module _ (z : ℤ) (f : SFits w64 z) (e : neg_of z ≡ 1) where
  one_more_lem : held z +ℤ pos 1 ≡ suc_ℤ z
  one_more_lem = ap (λ (x : ℤ). x +ℤ pos 1) (same z f) ∙ +ℤ_one z

  pub more-fits : SFits w64 (held z +ℤ pos 1)
  more-fits = rw one_more_lem (suc-fits z f e)

  pub more-neg-fits : SFits w64 (pos 0 -ℤ held (held z +ℤ pos 1))
  more-neg-fits = rw one_more_lem (neg-fits (suc_ℤ z) (suc-fits z f e) (suc-small z f e))

  pub more-neg : held (pos 0 -ℤ held (held z +ℤ pos 1)) ≡ neg_ℤ (suc_ℤ z)
  more-neg = rw one_more_lem (neg-held (suc_ℤ z) (suc-fits z f e) (suc-small z f e))
