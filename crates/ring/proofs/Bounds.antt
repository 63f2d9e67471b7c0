-- The primes are below 2^25, what is less than them, and how one subtraction makes a least residue of what is below two primes.
use mathlib.Core.Path.{◌≡◌, sym, subst}
use Prim.Native.Nat.{ℕ, ◌<◌}
use lib.Dec.{lit<}
use Rattle.ring.specs.declared.prime.Prime.{Prime}
use Rattle.ring.specs.Residue.{prime, zeta, over512}
use Rattle.ring.proofs.Tables.{zeta-low}

pub prime-lt : (s : Prime) → prime s < 33554432
prime-lt Prime.First = lit< tt
prime-lt Prime.Second = lit< tt

pub one-lt : (s : Prime) → 1 < prime s
one-lt Prime.First = lit< tt
one-lt Prime.Second = lit< tt

pub over-lt : (s : Prime) → over512 s < prime s
over-lt Prime.First = lit< tt
over-lt Prime.Second = lit< tt

pub zeta-below : (s : Prime) {r : ℕ} (k : ℕ) → r ≡ zeta s k → r < prime s
zeta-below s k e = subst (λ (y : ℕ). y < prime s) (sym e) (zeta-low s k)
