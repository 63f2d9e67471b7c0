-- Steps (what the code leaves on its way; no call's contract reaches these): a row of the matrix, entry by entry.
use Rattle.std.specs.Prelude.{Bool, List, ℕ}
use Rattle.ring.specs.Transform.{ntt}
use Rattle.ring.specs.UniformSteps.{poly_of}
use Rattle.sharing.specs.Blocks.{build}
use Rattle.signature.specs.Matrix.{build_all, matrix_at, filled}

-- do all l entries of row i fill, and entry m of it: zero where it does not
abbrev pub row_fills : List ℕ → ℕ → ℕ → Bool
row_fills seed i l = filled (build_all l (matrix_at seed i))

abbrev pub row_entry : List ℕ → ℕ → ℕ → List ℕ
row_entry seed i m = poly_of (matrix_at seed i m)

-- the l entries, each transformed, one behind the other
unfoldable pub row_made : ℕ → List ℕ → ℕ → List ℕ
row_made l seed i = build l (λ (m : ℕ). ntt (row_entry seed i m))
