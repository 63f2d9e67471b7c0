-- Rounding to the moduli q_t = 125 and q_w = 31 (000, 2.2), centred values, and residues of signed numbers.
use Rattle.std.specs.Prelude.{List, [], ◌∷◌, ℕ, suc, ◌+◌, ◌-◌, ◌*◌, ◌/◌, ◌%◌, ◌^◌, leb, ℤ, pos, negsuc, neg_ℤ}
use Rattle.hash.specs.Lists.{pick}
use Rattle.ring.specs.Words.{q}
use Rattle.ring.specs.Poly.{map_n}

-- rounding by v bits to the modulus m: add 2^(v - 1), drop v bits, reduce by m
unfoldable pub rounded : ℕ → ℕ → ℕ → ℕ
rounded v m x = (x + 2 ^ (v - 1)) / 2 ^ v % m

-- of a public key's t, v_t = 42, and of a commitment w, v_w = 44
abbrev pub round_t : List ℕ → List ℕ
round_t f = map_n (rounded 42 125) f

abbrev pub round_w : List ℕ → List ℕ
round_w f = map_n (rounded 44 31) f

-- t scaled up again: times 2^42 modulo q
abbrev pub scaled_t : List ℕ → List ℕ
scaled_t f = map_n (λ (x : ℕ). x * 2 ^ 42 % q) f

-- the centred value for an odd modulus m, from -(m / 2) to m / 2, both ends included
unfoldable pub centred : ℕ → ℕ → ℤ
centred m x = pick (leb x (m / 2)) (pos x) (neg_ℤ (pos (m - x)))

-- the least residue of a signed number
unfoldable pub residue : ℕ → ℤ → ℕ
residue m (pos n) = n % m
residue m (negsuc n) = (m - suc n % m) % m

-- .. of each coefficient of a signed polynomial
unfoldable pub residues : ℕ → List ℤ → List ℕ
residues m [] = []
residues m (z ∷ zs) = residue m z ∷ residues m zs
