-- Rounding of k polynomials in place (000, 2.2).
use mathlib.Core.List.{List, [], ◌∷◌}
use Prim.Native.Nat.{ℕ, ◌+◌, ◌*◌, ◌≤◌}
use native.Mathlib.Omega.{arith}
use lib.ListN.{length}
use Rattle.ring.specs.Words.{Below}
use Rattle.ring.specs.Poly.{map_n}
use Rattle.ring.specs.Round.{rounded}
use Rattle.sharing.specs.Region.{span, Wrote}
use Rattle.sharing.proofs.Built.{map-blocks}
use Rattle.signature.specs.MaskedSteps.{mapped}
use Rattle.sharing.proofs.Regions.{length-span, wrote_value}

-- polynomial by polynomial, by v bits to the modulus m
pub wrote-rounded : (v m k at : ℕ) (s₀ s : List ℕ) → at + k * 512 ≤ length s₀
    → Wrote 0 at (k * 512) (mapped k (map_n (rounded v m)) (span s₀ at (k * 512))) s₀ s
    → Wrote 0 at (k * 512) (map_n (rounded v m) (span s₀ at (k * 512))) s₀ s
wrote-rounded v m k at s₀ s h u =
    let X = span s₀ at (k * 512) in
    wrote_value (map-blocks (rounded v m) 512 k X (length-span s₀ at (k * 512) h)) u

-- below a smaller number is below a larger one
pub below_up : (p r : ℕ) (xs : List ℕ) → p ≤ r → Below p xs → Below r xs
below_up p r [] h b = tt
below_up p r (x ∷ xs) h b = (omega (arith, b.0, h), below_up p r xs h b.1)
