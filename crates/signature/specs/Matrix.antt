-- ExpandA (000, Algorithm 6), and polynomials that may not fill, one behind the other.
use Rattle.std.specs.Prelude.{List, [], ◌∷◌, ◌++◌, ℕ, zero, suc}
use Rattle.std.proofs.Math.Option.{Option, some, none}
use Rattle.hash.specs.declared.params.Params.{Params}
unfoldable pub use Rattle.ring.specs.Checks.{filled}
use Rattle.ring.specs.Uniform.{sample_q}

abbrev pub joined_to : Option (List ℕ) → Option (List ℕ) → Option (List ℕ)
joined_to none b = none
joined_to (some a) none = none
joined_to (some a) (some b) = some (a ++ b)

-- f 0, .. f (n - 1), if all of them are there (check 10)
unfoldable pub build_all : ℕ → (ℕ → Option (List ℕ)) → Option (List ℕ)
build_all zero f = some []
build_all (suc n) f = joined_to (build_all n f) (f n)

-- line 3: 'A', row, column; entry (i, j), and the k l polynomials row by row
abbrev pub matrix_header : ℕ → ℕ → List ℕ
matrix_header i j = 65 ∷ i ∷ j ∷ 0 ∷ 0 ∷ 0 ∷ 0 ∷ 0 ∷ []

unfoldable pub matrix_at : List ℕ → ℕ → ℕ → Option (List ℕ)
matrix_at seed i j = sample_q (matrix_header i j) seed

unfoldable pub matrix_of : ℕ → ℕ → List ℕ → Option (List ℕ)
matrix_of k l seed = build_all k (λ (i : ℕ). build_all l (matrix_at seed i))

abbrev pub matrix : Params → List ℕ → Option (List ℕ)
matrix p seed = matrix_of p.k p.l seed
