-- Steps (what the code leaves on its way; no call's contract reaches these): noise that is lent, in either form.
use Rattle.std.specs.Prelude.{List, ℕ, ◌+◌, ◌*◌, ◌/◌, ◌≤◌, ◌<◌, length}
use Rattle.hash.specs.declared.params.Params.{Params}
use Rattle.ring.specs.Words.{q, Below}
use Rattle.sharing.specs.Noise.{seed_noise, explicit_noise}
use Rattle.sharing.specs.declared.repeat.LentNoise.{LentNoise}

-- how often it is added to each polynomial
abbrev pub noise_reps : Params → LentNoise → ℕ
noise_reps p (LentNoise.Seeds u seeds) = p.rep
noise_reps p (LentNoise.Words words) = 1

-- polynomial i at repetition t, for all d shares
abbrev pub lent_noise : Params → LentNoise → ℕ → ℕ → List ℕ
lent_noise p (LentNoise.Seeds u seeds) = seed_noise p.shares p.rep u (p.kappa / 8) seeds.now
lent_noise p (LentNoise.Words words) = explicit_noise p.shares words.now

-- polynomial i is there; m polynomials are
abbrev pub NoiseAt : Params → ℕ → LentNoise → Type 0
NoiseAt p i (LentNoise.Seeds u seeds) =
    ((i * p.rep + p.rep) * p.shares * (p.kappa / 8) ≤ length seeds.now) × (p.rep < 256) × (i < 256) × (1 ≤ u) × (u ≤ 48)
NoiseAt p i (LentNoise.Words words) = (i * (p.shares * 512) + p.shares * 512 ≤ length words.now) × Below q words.now

abbrev pub NoiseFor : Params → ℕ → LentNoise → Type 0
NoiseFor p m (LentNoise.Seeds u seeds) =
    (m * p.rep * p.shares * (p.kappa / 8) ≤ length seeds.now) × (p.rep < 256) × (m ≤ 256) × (1 ≤ u) × (u ≤ 48)
NoiseFor p m (LentNoise.Words words) = (m * (p.shares * 512) ≤ length words.now) × Below q words.now
