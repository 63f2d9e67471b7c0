-- The masked steps that key generation and signing share (000, Algorithm 1 lines 3 to 6, Algorithm 2 lines 4 to 7), on all d shares. Each
-- step gives its shares and the mask generator behind it; the next step draws from there on.
use Rattle.std.specs.Prelude.{List, ℕ, ◌+◌, ◌*◌, ◌/◌, drop}
use Rattle.std.proofs.Math.Option.{Option, some, none}
use Rattle.hash.specs.Lists.{pick}
use Rattle.hash.specs.declared.params.Params.{Params}
use Rattle.ring.specs.Transform.{mul}
use Rattle.sharing.specs.Blocks.{block, build, sum_of, totals, each}
use Rattle.sharing.specs.Encoding.{skip, add_noise, zero_vector, refreshed}
use Rattle.sharing.specs.Masks.{masks}
use Rattle.sharing.specs.Noise.{seed_noise, explicit_noise}
use Rattle.sharing.specs.declared.masks.MaskGen.{MaskGen}

-- noise for l + k polynomials: how often it is added to each, and the words of polynomial i at repetition t for all shares
pub record Noise : Type 0 where
  pub reps : ℕ
  pub first : ℕ → ℕ → List ℕ
  pub second : ℕ → ℕ → List ℕ

-- from seeds of kappa bits, samples of u bits (01: noise tape); the seeds of the k polynomials come behind those of the l
unfoldable pub seeded : Params → ℕ → List ℕ → Noise
seeded p u coins =
    record {
      reps = p.rep;
      first = seed_noise p.shares p.rep u (p.kappa / 8) coins;
      second = seed_noise p.shares p.rep u (p.kappa / 8) (drop (p.l * p.rep * p.shares * (p.kappa / 8)) coins);
    }

-- explicit (01: bench form): lent words, added once
unfoldable pub explicit : Params → List ℕ → Noise
explicit p words =
    record {
      reps = 1;
      first = explicit_noise p.shares words;
      second = explicit_noise p.shares (drop (p.l * (p.shares * 512)) words);
    }

-- what a step leaves: its shares, and the generator behind it
pub record Step : Type 0 where
  pub shares : List ℕ
  pub next : MaskGen

-- the shares xs, to be worked on with the generator that the step x left
abbrev pub onward : Step → List ℕ → Step
onward x xs = record { shares = xs; next = x.next }

-- Algorithm 12, ZeroEncoding, n times from g on; Algorithm 8, AddRepNoise, on n polynomials, r repetitions of the noise f; Algorithm 11, Refresh,
-- of n polynomials
abbrev pub zero_encodings : ℕ → ℕ → MaskGen → Step
zero_encodings d n g = record { shares = zero_vector masks d g n; next = skip masks d n g }

abbrev pub add_rep_noise : ℕ → ℕ → ℕ → (ℕ → ℕ → List ℕ) → Step → Step
add_rep_noise d n r f x = record { shares = add_noise masks d x.next n r f x.shares; next = skip masks d (n * r) x.next }

abbrev pub refresh : ℕ → ℕ → Step → Step
refresh d n x = record { shares = refreshed masks d x.next n x.shares; next = skip masks d n x.next }

-- Algorithm 13, Decode, of n polynomials: the sums of the shares, if every mask drawn up to here filled (check 20)
abbrev pub decoded : ℕ → ℕ → Step → Option (List ℕ)
decoded n d x = pick x.next.ok (some (totals n d x.shares)) none

-- the masked product A x, row i: at each of d shares the sum over the l columns
unfoldable pub masked_row : ℕ → ℕ → List ℕ → List ℕ → ℕ → List ℕ
masked_row d l A xs i = sum_of (d * 512) l (λ (m : ℕ). each d (mul (block 512 (i * l + m) A)) (block (d * 512) m xs))

unfoldable pub masked_product : ℕ → ℕ → ℕ → List ℕ → List ℕ → List ℕ
masked_product d k l A xs = build k (masked_row d l A xs)

-- Algorithm 2, lines 4 and 5 (Algorithm 1, lines 3 and 4): r (s) as l zero encodings from g on and their noise
unfoldable pub masked_noise : Params → Noise → MaskGen → Step
masked_noise p N g = add_rep_noise p.shares p.l N.reps N.first (zero_encodings p.shares p.l g)

-- lines 6 and 7 (5 and 6): w (t) as the product with the matrix A and its noise
unfoldable pub masked_image : Params → Noise → MaskGen → List ℕ → Step
masked_image p N g A =
    add_rep_noise p.shares p.k N.reps N.second
    (onward (masked_noise p N g) (masked_product p.shares p.k p.l A (masked_noise p N g).shares))
