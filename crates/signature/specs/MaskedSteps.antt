-- Steps (what the code leaves on its way; no call's contract reaches these): lent noise, and the masked product row by row, by the transform.
use Rattle.std.specs.Coded.{le_prop}
use Rattle.std.specs.Prelude.{◌≡◌, List, [], ◌∷◌, ℕ, suc, ◌+◌, ◌*◌, ◌^◌, ◌≤◌, length}
use Rattle.hash.specs.declared.params.Params.{Params}
use Rattle.ring.specs.Words.{q, Below}
use Rattle.ring.specs.Rns.{words_of}
use Rattle.ring.specs.Transform.{ntt, intt, pointwise}
use Rattle.sharing.specs.Blocks.{block, build, sum_of, total, totals}
use Rattle.sharing.specs.Region.{span, Wrote}
use Rattle.sharing.specs.Encoding.{add_rep}
use Rattle.sharing.specs.Masks.{masks}
use Rattle.sharing.specs.Noise.{noise_bytes}
use Rattle.sharing.specs.declared.masks.MaskGen.{MaskGen}
use Rattle.sharing.specs.declared.repeat.LentNoise.{LentNoise}
use Rattle.signature.specs.Masked.{Noise, seeded, explicit}

-- noise that is lent for l + k polynomials; it is just that of one attempt
abbrev pub noise_lent : Params → LentNoise → Noise
noise_lent p (LentNoise.Seeds u seeds) = seeded p u seeds.now
noise_lent p (LentNoise.Words words) = explicit p words.now

abbrev pub NoiseSized : Params → LentNoise → Type 0
NoiseSized p (LentNoise.Seeds u seeds) = (length seeds.now ≡ noise_bytes p) × (1 ≤ u) × (u ≤ 48)
NoiseSized p (LentNoise.Words words) = (length words.now ≡ (p.l + p.k) * p.shares * 512) × Below q words.now

-- a vector of n polynomials, each turned into another by φ
abbrev pub mapped : ℕ → (List ℕ → List ℕ) → List ℕ → List ℕ
mapped n φ xs = build n (λ (i : ℕ). φ (block 512 i xs))

-- .. transformed
unfoldable pub transformed : ℕ → List ℕ → List ℕ
transformed n xs = mapped n ntt xs

-- .. and turned back
unfoldable pub untransformed : ℕ → List ℕ → List ℕ
untransformed n xs = mapped n intt xs

-- the matrix that is held in the transform domain as M, which is long enough and whose words are below q
abbrev pub matrix_in : Params → List ℕ → List ℕ
matrix_in p M = untransformed (p.k * p.l) M

abbrev pub MatrixHeld : Params → List ℕ → Type 0
MatrixHeld p M = (p.k * (p.l * 512) ≤ length M) × Below q M

-- .. held as M, words of two residues (`ring`, specs/Rns)
abbrev pub ResiduesHeld : Params → List ℕ → Type 0
ResiduesHeld p M = MatrixHeld p (words_of M) × Below (2 ^ 60) M

-- it has one proof at most, as the fact of a type's field must
below-prop : (n : ℕ) (xs : List ℕ) → IsProp (Below n xs)
below-prop n [] = hlevel le_prop
below-prop n (x ∷ xs) = hlevel (le_prop, below-prop n xs)

pub held-prop : (p : Params) (M : List ℕ) → IsProp (ResiduesHeld p M)
held-prop p M = hlevel (le_prop, below-prop)

-- a row of the matrix applied to a vector, T and Z, both in the transform domain
unfoldable pub applied : ℕ → List ℕ → List ℕ → List ℕ
applied l T Z = sum_of 512 l (λ (m : ℕ). pointwise (block 512 m T) (block 512 m Z))

-- share j of polynomial m of a vector of sharings
abbrev pub shared_poly : ℕ → List ℕ → ℕ → ℕ → List ℕ
shared_poly d X j m = block 512 j (block (d * 512) m X)

-- a row of the matrix and a vector of sharings, T and X, both in the transform domain: share j of m columns of the row; of all l, turned back
unfoldable pub row_sum : ℕ → List ℕ → List ℕ → ℕ → ℕ → List ℕ
row_sum d T X m j = sum_of 512 m (λ (i : ℕ). pointwise (block 512 i T) (block 512 j (block (d * 512) i X)))

unfoldable pub row_share : ℕ → ℕ → List ℕ → List ℕ → ℕ → List ℕ
row_share d l T X j = intt (row_sum d T X l j)

-- a row and its noise f, in r repetitions with the zero encodings from g on: all d shares
abbrev pub noised_row : ℕ → ℕ → MaskGen → ℕ → (ℕ → List ℕ) → List ℕ → List ℕ → List ℕ
noised_row d l g r f T X = add_rep masks d g r f (build d (row_share d l T X))

-- all k rows of the matrix M
abbrev pub rows_of : ℕ → ℕ → ℕ → List ℕ → List ℕ → List ℕ
rows_of d k l M X = build k (λ (i : ℕ). build d (row_share d l (block (l * 512) i M) X))

-- what a row's step leaves: the d shares R of the row in the region `row`, as they were added up, and their sum at `to`
pub record Summed (d row to : ℕ) (R xs ys : List ℕ) : Type 0 where
  pub shares : span ys row (d * 512) ≡ R
  pub sum : Wrote (row + d * 512) to 512 (total d R) xs ys

-- .. and the steps of all k rows, W being their shares: those of the last row, and the sums of all
pub record SummedAll (d k row to : ℕ) (W xs ys : List ℕ) : Type 0 where
  pub shares : (i : ℕ) → k ≡ suc i → span ys row (d * 512) ≡ block (d * 512) i W
  pub sums : Wrote (row + d * 512) to (k * 512) (totals k d W) xs ys
