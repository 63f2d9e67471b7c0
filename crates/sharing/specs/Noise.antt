-- SampleU (000, Algorithm 7), the noise of AddRepNoise (Algorithm 8) from seeds, and explicit noise.
use Rattle.std.specs.Prelude.{List, [], ◌∷◌, ◌++◌, ℕ, ◌+◌, ◌-◌, ◌*◌, ◌/◌, ◌%◌, ◌^◌, ltb, get_or}
use Rattle.hash.specs.declared.params.Params.{Params}
use Rattle.hash.specs.Lists.{table, pick}
use Rattle.hash.specs.Endian.{le}
use Rattle.hash.specs.Shake.{shake256}
use Rattle.ring.specs.Words.{q}
use Rattle.sharing.specs.Blocks.{block, build}

-- the bytes of a sample of u bits
abbrev pub width : ℕ → ℕ
width u = (u + 7) / 8

-- the low u bits of x as a signed number, from -2^(u - 1) to 2^(u - 1) - 1, modulo q
unfoldable pub signed_low : ℕ → ℕ → ℕ
signed_low u x = pick (ltb (x % 2 ^ u) (2 ^ (u - 1))) (x % 2 ^ u) (q - (2 ^ u - x % 2 ^ u))

-- sample number i of the bytes s
unfoldable pub sample_at : ℕ → List ℕ → ℕ → ℕ
sample_at u s i = signed_low u (le (λ (j : ℕ). get_or s (width u * i + j) 0) (width u))

-- Algorithm 7
unfoldable pub sample_u : List ℕ → List ℕ → ℕ → List ℕ
sample_u hdr seed u = table (sample_at u (shake256 (hdr ++ seed) (width u * 512))) 512

-- line 5 of Algorithm 8: 'u', repetition, polynomial, share
abbrev pub noise_header : ℕ → ℕ → ℕ → List ℕ
noise_header t i j = 117 ∷ t ∷ i ∷ j ∷ 0 ∷ 0 ∷ 0 ∷ 0 ∷ []

-- the noise of polynomial i, repetition t, for all d shares: seeds of n bytes in the order of 2.4.5
unfoldable pub seed_noise : ℕ → ℕ → ℕ → ℕ → List ℕ → ℕ → ℕ → List ℕ
seed_noise d rep u n seeds i t = build d (λ (j : ℕ). sample_u (noise_header t i j) (block n ((i * rep + t) * d + j) seeds) u)

-- explicit noise (01: bench form): one repetition, the d shares of polynomial i from the lent words
unfoldable pub explicit_noise : ℕ → List ℕ → ℕ → ℕ → List ℕ
explicit_noise d words i t = block (d * 512) i words

-- the bytes of the seeds of one try: a seed of kappa bits for each polynomial, repetition and share
unfoldable pub noise_bytes : Params → ℕ
noise_bytes p = (p.l + p.k) * p.shares * p.rep * (p.kappa / 8)
