-- Lists by a rule, and choices by a test.
use Rattle.std.specs.Prelude.{Bool, true, false, List, [], ◌∷◌, ◌++◌, ℕ, zero, suc, ◌<◌, replicate, eqb, Option, None, Some}

-- f 0, f 1, .., f (n - 1)
unfoldable pub table : (ℕ → ℕ) → ℕ → List ℕ
table f zero = []
table f (suc n) = table f n ++ (f n ∷ [])

-- n zeros
abbrev pub zeros : ℕ → List ℕ
zeros n = replicate n 0

-- numbers below 256
abbrev pub Bytes : List ℕ → Type 0
Bytes [] = Unit {0}
Bytes (x ∷ xs) = (x < 256) × Bytes xs

-- a where the test holds, else b
abbrev pub pick {ℓ} : {A : Type ℓ} → Bool → A → A → A
pick true a b = a
pick false a b = b

-- i, but where it is n, which stands for none
abbrev pub other_than : ℕ → ℕ → Option ℕ
other_than n i = pick (eqb i n) None (Some i)
