-- Noise is words below q: samples of at most 49 bits, noise of seeds, and explicit noise.
use mathlib.Core.Path.{◌≡◌, refl}
use mathlib.Core.Bool.{Bool, true, false}
use mathlib.Core.List.{List, ◌++◌}
use Prim.Native.Nat.{ℕ, ◌+◌, ◌-◌, ◌*◌, ◌%◌, ◌^◌, ◌≤◌, ◌<◌}
use native.Mathlib.Nat.{mod-lt}
use native.Mathlib.Omega.{arith}
use borrow.Author.Tests.{ltb-true}
use lib.Dec.{ltb}
use lib.Pow.{pow_pos, pow_mono}
use Rattle.hash.specs.Lists.{pick}
use Rattle.hash.specs.Shake.{shake256}
use Rattle.ring.specs.Words.{q, Words}
use Rattle.ring.proofs.Places.{residues-table}
use Rattle.sharing.specs.Blocks.{block}
use Rattle.sharing.specs.Noise.{width, signed_low, sample_at, sample_u, noise_header, seed_noise, explicit_noise}
use Rattle.sharing.proofs.Lists.{block_words, words-build}

-- 2^48 is below q, and 2^49 is not
pub signed_low_lem : (u x : ℕ) → u ≤ 49 → signed_low u x < q
unfolding signed_low
signed_low_lem u x h = go (ltb (x % 2 ^ u) (2 ^ (u - 1))) (ltb-true (x % 2 ^ u) (2 ^ (u - 1)))
  where
    go : (b : Bool) → (b ≡ true → x % 2 ^ u < 2 ^ (u - 1)) → pick b (x % 2 ^ u) (q - (2 ^ u - x % 2 ^ u)) < q
    go true f =
        let l : x % 2 ^ u < 2 ^ (u - 1) = f refl in
        let m : 2 ^ (u - 1) ≤ 2 ^ 48 = pow_mono {i = u - 1} {j = 48} (omega arith) in
        omega arith
    go false f = let l : x % 2 ^ u < 2 ^ u = mod-lt x (pow_pos u) in omega arith

pub sample_u-words : (hdr seed : List ℕ) (u : ℕ) → u ≤ 49 → Words 512 (sample_u hdr seed u)
unfolding sample_u sample_at
sample_u-words hdr seed u h =
    residues-table (sample_at u (shake256 (hdr ++ seed) (width u * 512))) (λ (i : ℕ). signed_low_lem u _ h) 512

pub seed_noise-words : (d rep u n : ℕ) (seeds : List ℕ) (i t : ℕ) → u ≤ 49 → Words (d * 512) (seed_noise d rep u n seeds i t)
unfolding seed_noise
seed_noise-words d rep u n seeds i t h =
    words-build d (λ (j : ℕ). sample_u (noise_header t i j) (block n ((i * rep + t) * d + j) seeds) u)
    (λ (j : ℕ) (l : j < d). sample_u-words (noise_header t i j) (block n ((i * rep + t) * d + j) seeds) u h)

pub explicit_noise-words : (d m : ℕ) (words : List ℕ) (i t : ℕ) → Words (m * (d * 512)) words → i < m
    → Words (d * 512) (explicit_noise d words i t)
unfolding explicit_noise
explicit_noise-words d m words i t h l = block_words m i words h l
