-- The commitment recovered from a response (000, Algorithm 2 lines 17 and 18, Algorithm 3 lines 6 and 7), and the hint.
use Rattle.std.specs.Prelude.{List, [], ◌∷◌, ℕ, ◌+◌, ◌-◌, ◌*◌, ◌%◌, ℤ}
use Rattle.hash.specs.declared.params.Params.{Params}
use Rattle.ring.specs.Words.{sub_w, zip_to}
use Rattle.ring.specs.Transform.{mul}
use Rattle.ring.specs.Round.{round_w, scaled_t, centred, residues}
use Rattle.sharing.specs.Blocks.{block, build, sum_of}

-- row i of A z; row i of y = A z - 2^42 c t; all k rows
unfoldable pub product_row : ℕ → List ℕ → List ℕ → ℕ → List ℕ
product_row l A z i = sum_of 512 l (λ (m : ℕ). mul (block 512 (i * l + m) A) (block 512 m z))

unfoldable pub recovered_row : ℕ → List ℕ → List ℕ → List ℕ → List ℕ → ℕ → List ℕ
recovered_row l A z c t i = sub_w (product_row l A z i) (mul c (scaled_t (block 512 i t)))

unfoldable pub recovered : Params → List ℕ → List ℕ → List ℕ → List ℕ → List ℕ
recovered p A z c t = build p.k (recovered_row p.l A z c t)

-- difference and sum modulo q_w
abbrev pub sub31 : ℕ → ℕ → ℕ
sub31 a b = (a + (31 - b)) % 31

abbrev pub add31 : ℕ → ℕ → ℕ
add31 a b = (a + b) % 31

-- the centred value of each
unfoldable pub centred_all : ℕ → List ℕ → List ℤ
centred_all m [] = []
centred_all m (x ∷ xs) = centred m x ∷ centred_all m xs

-- signing, line 18: h = w - y, of the rounded w and of y; verifying, line 7: w' = y + h
unfoldable pub hint_of : List ℕ → List ℕ → List ℤ
hint_of w y = centred_all 31 (zip_to sub31 w (round_w y))

unfoldable pub adjusted : List ℕ → List ℤ → List ℕ
adjusted y h = zip_to add31 (round_w y) (residues 31 h)
