-- The noise of an attempt at its places: the bytes of its seeds, and the words of each share.
use mathlib.Core.Path.{◌≡◌, refl, sym, ap, ◌∙◌}
use mathlib.Core.List.{List}
use Prim.Native.Nat.{ℕ, ◌+◌, ◌*◌, ◌/◌, ◌≤◌, ◌<◌}
use native.Mathlib.Omega.{arith}
use lib.ListN.{get_or}
use Rattle.hash.specs.declared.params.Params.{Params}
use Rattle.sharing.specs.Blocks.{block, build}
use Rattle.sharing.specs.Noise.{sample_u, noise_header, seed_noise, explicit_noise, noise_bytes}
use Rattle.sharing.proofs.Lists.{block_at, block-build}
use Rattle.sharing.proofs.Samples.{sample_u-words}

pub noise-bytes : (p : Params) → noise_bytes p ≡ (p.l + p.k) * p.shares * p.rep * (p.kappa / 8)
unfolding noise_bytes
noise-bytes p = refl

-- share j of polynomial i, at coefficient x: a lent word
pub get_or-explicit_noise : (d : ℕ) (words : List ℕ) (i t j x : ℕ) → j < d → x < 512
    → get_or (explicit_noise d words i t) (j * 512 + x) 0 ≡ get_or words (i * (d * 512) + (j * 512 + x)) 0
unfolding explicit_noise
get_or-explicit_noise d words i t j x hj hx = block_at (d * 512) i words (j * 512 + x) (omega arith)

-- .. and a sample of its seed
pub sample-at : (d rep u n : ℕ) → u ≤ 49 → (seeds : List ℕ) (i t j x : ℕ) → j < d → x < 512
    → get_or (seed_noise d rep u n seeds i t) (j * 512 + x) 0
    ≡ get_or (sample_u (noise_header t i j) (block n ((i * rep + t) * d + j) seeds) u) x 0
unfolding seed_noise
sample-at d rep u n low seeds i t j x hj hx =
    let f : ℕ → List ℕ = λ (j : ℕ). sample_u (noise_header t i j) (block n ((i * rep + t) * d + j) seeds) u in
    sym (block_at 512 j (build d f) x hx)
    ∙ ap (λ (xs : List ℕ). get_or xs x 0)
    (block-build 512 d j f (λ (k : ℕ) h. (sample_u-words (noise_header t i k) (block n ((i * rep + t) * d + k) seeds) u low).long) hj)
