-- Steps (what the code leaves on its way; no call's contract reaches these): the commitment recovered row by row, by the transform. T is a row of
-- the matrix, M the matrix, Z and C are z and c, all in the transform domain; t is the public key's vector, or polynomial i of it.
use Rattle.std.specs.Prelude.{List, ℕ, ◌*◌, ℤ, take, drop}
use Rattle.ring.specs.Words.{sub_w, zip_to}
use Rattle.ring.specs.Transform.{ntt, intt, pointwise}
use Rattle.ring.specs.Round.{round_w, scaled_t}
use Rattle.sharing.specs.Blocks.{block, build}
use Rattle.signature.specs.MaskedSteps.{row_share}
use Rattle.signature.specs.MatrixSteps.{row_made}
use Rattle.signature.specs.Recover.{sub31, centred_all, adjusted}

-- 2^42 c t of one polynomial; a row of y
unfoldable pub scaled_by : List ℕ → List ℕ → List ℕ
scaled_by C t = intt (pointwise C (ntt (scaled_t t)))

unfoldable pub recovered_by : ℕ → List ℕ → List ℕ → List ℕ → List ℕ → List ℕ
recovered_by l T Z C t = sub_w (row_share 1 l T Z 0) (scaled_by C t)

-- polynomial i of a list of signed numbers
abbrev pub block_z : ℕ → List ℤ → List ℤ
block_z i h = take 512 (drop (i * 512) h)

-- w' of all rows, where the rows of the matrix are made one by one
unfoldable pub adjusted_rows : ℕ → ℕ → List ℕ → List ℕ → List ℕ → List ℕ → List ℤ → List ℕ
adjusted_rows k l seed Z C t h = build k (λ (i : ℕ). adjusted (recovered_by l (row_made l seed i) Z C (block 512 i t)) (block_z i h))

-- the hint of all rows, of the rounded w: row i before it is centred, and the whole
unfoldable pub hint_row : ℕ → List ℕ → List ℕ → List ℕ → List ℕ → List ℕ → ℕ → List ℕ
hint_row l M Z C t w i = zip_to sub31 (block 512 i w) (round_w (recovered_by l (block (l * 512) i M) Z C (block 512 i t)))

unfoldable pub hint_rows : ℕ → ℕ → List ℕ → List ℕ → List ℕ → List ℕ → List ℕ → List ℤ
hint_rows k l M Z C t w = centred_all 31 (build k (hint_row l M Z C t w))
