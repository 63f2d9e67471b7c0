-- Lists of words by blocks. A polynomial is 512 words; a sharing of it is d polynomials, one behind the other; a vector of sharings is
-- its sharings, one behind the other. So every value is one flat list, as the code's buffers are.
use Rattle.std.specs.Prelude.{List, [], ◌++◌, ℕ, zero, suc, ◌+◌, ◌*◌, take, drop}
use Rattle.hash.specs.Lists.{zeros}
use Rattle.ring.specs.Words.{add_w}

-- block i of xs, in blocks of w
unfoldable pub block : ℕ → ℕ → List ℕ → List ℕ
block w i xs = take w (drop (i * w) xs)

-- f 0, f 1, .. f (n - 1), one behind the other
unfoldable pub build : ℕ → (ℕ → List ℕ) → List ℕ
build zero f = []
build (suc n) f = build n f ++ f n

-- f 0 + f 1 + .. + f (n - 1), each of w words, modulo q
unfoldable pub sum_of : ℕ → ℕ → (ℕ → List ℕ) → List ℕ
sum_of w zero f = zeros w
sum_of w (suc n) f = add_w (sum_of w n f) (f n)

-- the same of numbers, not reduced
unfoldable pub sum_n : ℕ → (ℕ → ℕ) → ℕ
sum_n zero f = 0
sum_n (suc n) f = sum_n n f + f n

-- Algorithm 13, Decode: the sum of the d shares of one polynomial (01: of a key, its secret; of noise, its total)
unfoldable pub total : ℕ → List ℕ → List ℕ
total d xs = sum_of 512 d (λ (j : ℕ). block 512 j xs)

-- the sums of n sharings
unfoldable pub totals : ℕ → ℕ → List ℕ → List ℕ
totals n d xs = build n (λ (i : ℕ). total d (block (d * 512) i xs))

-- F at each of d shares
unfoldable pub each : ℕ → (List ℕ → List ℕ) → List ℕ → List ℕ
each d F xs = build d (λ (j : ℕ). F (block 512 j xs))
