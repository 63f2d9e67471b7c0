-- Residues of signed numbers whose absolute values are below the modulus, by their sign.
use mathlib.Core.Path.{◌≡◌, refl, sym}
use Prim.Native.Nat.{ℕ, ◌-◌, ◌<◌}
use native.Mathlib.Omega.{arith}
use lib.IntN.{ℤ, pos, negsuc, nat_abs}
use Rattle.ring.specs.Round.{residue}
use Rattle.ring.proofs.Reduced.{residue-nat, residue-negsuc}
use Rattle.signature.specs.Code.{neg_of}

pub residue-pos : (m : ℕ) (z : ℤ) → nat_abs z < m → neg_of z ≡ 0 → nat_abs z ≡ residue m z
residue-pos m (pos n) h e = sym (residue-nat m n h)
residue-pos m (negsuc n) h e = let x : ⊥ = omega arith in absurd x

pub residue-neg : (m : ℕ) (z : ℤ) → nat_abs z < m → (neg_of z ≡ 0 → ⊥) → m - nat_abs z ≡ residue m z
residue-neg m (pos n) h e = absurd (e refl)
residue-neg m (negsuc n) h e = sym (residue-negsuc m n h)
