-- The noise that an attempt has (Masked: seeded, explicit) at its places in the unit's noise: word by word and seed by seed.
use mathlib.Core.Path.{◌≡◌, ap, ◌∙◌}
use mathlib.Core.List.{List}
use Prim.Native.Nat.{ℕ, ◌+◌, ◌*◌, ◌/◌, ◌≤◌, ◌<◌}
use native.Mathlib.Omega.{arith}
use lib.ListN.{get_or, drop}
use lib.Seq.{get_or-drop}
use Rattle.hash.specs.declared.params.Params.{Params}
use Rattle.sharing.specs.Blocks.{block}
use Rattle.sharing.specs.Noise.{sample_u, noise_header, noise_bytes}
use Rattle.sharing.proofs.Built.{block-block, block-behind}
use Rattle.sharing.proofs.Lists.{inside, block_at}
use Rattle.sharing.proofs.NoisePlaces.{noise-bytes, get_or-explicit_noise, sample-at}
use Rattle.signature.specs.Masked.{seeded, explicit}

module _ (p : Params) (noise : List ℕ) (a : ℕ) where
  abbrev d : ℕ
  d = p.shares

  abbrev m : ℕ
  m = p.l + p.k

  -- ---- lent words

  abbrev words : List ℕ
  words = block ((p.l + p.k) * p.shares * 512) a noise

  word_at : (i j x : ℕ) → i < m → j < d → x < 512 → get_or words (i * (d * 512) + (j * 512 + x)) 0 ≡ get_or noise (((a * m + i) * d + j) * 512 + x) 0
  word_at i j x hi hj hx =
      let b : i * (d * 512) + d * 512 ≤ m * (d * 512) = inside i m (d * 512) hi in
      let l : i * (d * 512) + (j * 512 + x) < (p.l + p.k) * p.shares * 512 = omega arith in
      let e : a * ((p.l + p.k) * p.shares * 512) + (i * (d * 512) + (j * 512 + x)) ≡ ((a * m + i) * d + j) * 512 + x = omega arith in
      block_at ((p.l + p.k) * p.shares * 512) a noise (i * (d * 512) + (j * 512 + x)) l ∙ ap (λ (n : ℕ). get_or noise n 0) e

  pub explicit-first : (i t j x : ℕ) → i < p.l → j < d → x < 512
      → get_or ((explicit p words).first i t) (j * 512 + x) 0 ≡ get_or noise (((a * m + i) * d + j) * 512 + x) 0
  unfolding explicit
  explicit-first i t j x hi hj hx = get_or-explicit_noise d words i t j x hj hx ∙ word_at i j x (omega arith) hj hx

  pub explicit-second : (i t j x : ℕ) → i < p.k → j < d → x < 512
      → get_or ((explicit p words).second i t) (j * 512 + x) 0 ≡ get_or noise (((a * m + (p.l + i)) * d + j) * 512 + x) 0
  unfolding explicit
  explicit-second i t j x hi hj hx =
      let e : p.l * (d * 512) + (i * (d * 512) + (j * 512 + x)) ≡ (p.l + i) * (d * 512) + (j * 512 + x) = omega arith in
      get_or-explicit_noise d (drop (p.l * (d * 512)) words) i t j x hj hx
      ∙ get_or-drop (p.l * (d * 512)) words (i * (d * 512) + (j * 512 + x)) 0
      ∙ ap (λ (n : ℕ). get_or words n 0) e ∙ word_at (p.l + i) j x (omega arith) hj hx

  -- ---- seeds

  abbrev n : ℕ
  n = p.kappa / 8

  abbrev seeds : List ℕ
  seeds = block (noise_bytes p) a noise

  -- seed number (i rep + t) d + j of the attempt
  seed-at : (i t j : ℕ) → i < m → t < p.rep → j < d → block n ((i * p.rep + t) * d + j) seeds ≡ block n (((a * m + i) * p.rep + t) * d + j) noise
  seed-at i t j hi ht hj =
      let b : i * p.rep + p.rep ≤ m * p.rep = inside i m p.rep hi in
      let c : (i * p.rep + t) * d + d ≤ m * p.rep * d = inside (i * p.rep + t) (m * p.rep) d (omega arith) in
      let l : (i * p.rep + t) * d + j < m * p.rep * d = omega arith in
      let s : noise_bytes p ≡ m * p.rep * d * n = noise-bytes p ∙ omega arith in
      let e : a * (m * p.rep * d) + ((i * p.rep + t) * d + j) ≡ ((a * m + i) * p.rep + t) * d + j = omega arith in
      ap (λ (k : ℕ). block n ((i * p.rep + t) * d + j) (block k a noise)) s
      ∙ block-block n (m * p.rep * d) a ((i * p.rep + t) * d + j) noise l ∙ ap (λ (k : ℕ). block n k noise) e

  module _ (low : p.uw ≤ 49) where
    pub seeded-first : (i t j x : ℕ) → i < p.l → t < p.rep → j < d → x < 512
        → get_or ((seeded p p.uw seeds).first i t) (j * 512 + x) 0
        ≡ get_or (sample_u (noise_header t i j) (block n (((a * m + i) * p.rep + t) * d + j) noise) p.uw) x 0
    unfolding seeded
    seeded-first i t j x hi ht hj hx =
        sample-at d p.rep p.uw n low seeds i t j x hj hx
        ∙ ap (λ (s : List ℕ). get_or (sample_u (noise_header t i j) s p.uw) x 0) (seed-at i t j (omega arith) ht hj)

    pub seeded-second : (i t j x : ℕ) → i < p.k → t < p.rep → j < d → x < 512
        → get_or ((seeded p p.uw seeds).second i t) (j * 512 + x) 0
        ≡ get_or (sample_u (noise_header t i j) (block n (((a * m + (p.l + i)) * p.rep + t) * d + j) noise) p.uw) x 0
    unfolding seeded
    seeded-second i t j x hi ht hj hx =
        let e : p.l * p.rep * d + ((i * p.rep + t) * d + j) ≡ ((p.l + i) * p.rep + t) * d + j = omega arith in
        sample-at d p.rep p.uw n low (drop (p.l * p.rep * d * n) seeds) i t j x hj hx
        ∙ ap (λ (s : List ℕ). get_or (sample_u (noise_header t i j) s p.uw) x 0)
        (block-behind n (p.l * p.rep * d) ((i * p.rep + t) * d + j) seeds ∙ ap (λ (k : ℕ). block n k seeds) e ∙ seed-at (p.l + i) t j (omega arith) ht hj)
