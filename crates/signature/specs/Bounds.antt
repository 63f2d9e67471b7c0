-- CheckBounds (000, Algorithm 4) over the fields of a signature, by full sums.
use Rattle.std.specs.Prelude.{Bool, true, false, List, [], ◌∷◌, ℕ, ◌+◌, ◌*◌, ◌/◌, ◌^◌, leb, ℤ, nat_abs}
use Rattle.hash.specs.Lists.{pick}
use Rattle.hash.specs.declared.params.Params.{Params}
use Rattle.signature.specs.Form.{Fields}

-- no absolute value is above most
unfoldable pub within : ℕ → List ℤ → Bool
within most [] = true
within most (z ∷ zs) = pick (leb (nat_abs z) most) (within most zs) false

-- the sum of the squares of the absolute values, each shifted right by v bits
unfoldable pub squares : ℕ → List ℤ → ℕ
squares v [] = 0
squares v (z ∷ zs) = nat_abs z / 2 ^ v * (nat_abs z / 2 ^ v) + squares v zs

-- lines 3 and 4; lines 5 to 7, with 2^(2 v_w - 64) = 2^24: over the hint's limit, B_inf and 2^-64 B_2^2, and over those of a set
unfoldable pub bounds_of : ℕ → ℕ → ℕ → List ℤ → List ℤ → Bool
bounds_of limit most all h z = pick (within limit h) (pick (within most z) (leb (2 ^ 24 * squares 0 h + squares 32 z) all) false) false

abbrev pub check_bounds : Params → Fields → Bool
check_bounds p f = bounds_of p.hint_limit p.binf p.b22 f.hint f.response
