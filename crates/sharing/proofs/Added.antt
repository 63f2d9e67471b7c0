-- Lists added to the shares of one sharing, share by share, and the places of the seeds from which noise is made (000, Algorithm 8).
use mathlib.Core.Path.{◌≡◌, sym, ap, ◌∙◌}
use mathlib.Core.List.{List}
use Prim.Native.Nat.{ℕ, ◌+◌, ◌*◌, ◌/◌, ◌≤◌, ◌<◌}
use native.Mathlib.Nat.{mul-le-mul, mul-le-mul_right, zero-mul}
use native.Mathlib.Omega.{arith}
use lib.ListN.{length}
use Rattle.hash.specs.declared.params.Params.{Params}
use Rattle.ring.specs.Words.{q, add_w, Below}
use Rattle.sharing.specs.Blocks.{block, build}
use Rattle.sharing.specs.Region.{span, Wrote}
use Rattle.sharing.specs.Encoding.{Generator, skip}
use Rattle.sharing.specs.Noise.{noise_header, sample_u}
use Rattle.sharing.specs.NoiseSteps.{NoiseAt, NoiseFor}
use Rattle.sharing.specs.declared.repeat.LentNoise.{LentNoise}
use Rattle.sharing.proofs.Lists.{inside, block_words, build-add, blocks-all}
use Rattle.sharing.proofs.Regions.{span-words, wrote_value, wrote-turn, wrote-end}
use Rattle.sharing.proofs.Totals.{skip-none}
use Rattle.sharing.proofs.Turns.{block-rest}

-- f j added to share j of X
abbrev pub added : (ℕ → List ℕ) → List ℕ → ℕ → List ℕ
added f X j = add_w (block 512 j X) (f j)

module _ (f : ℕ → List ℕ) (d at j : ℕ) (s₀ s : List ℕ) (u : Wrote 0 at (j * 512) (build j (added f (span s₀ at (d * 512)))) s₀ s) where
  pub added-turn : (t : List ℕ) → j < d → Wrote 0 (at + j * 512) 512 (add_w (span s (at + j * 512) 512) (f j)) s t
      → Wrote 0 at ((j + 1) * 512) (build (j + 1) (added f (span s₀ at (d * 512)))) s₀ t
  added-turn t l v =
      let g = added f (span s₀ at (d * 512)) in
      let e = block-rest 0 512 d at j s₀ s l (build j g) (omega arith) u in
      wrote-turn 512 j g (omega arith) u (wrote_value (ap (λ (x : List ℕ). add_w x (f j)) e) v)

  pub added-end : ((i : ℕ) → i < d → length (f i) ≡ 512) → at + d * 512 ≤ length s₀ → Below q s₀ → j ≡ d
      → Wrote 0 at (d * 512) (add_w (span s₀ at (d * 512)) (build d f)) s₀ s
  added-end lf h b e =
      let X = span s₀ at (d * 512) in
      let w = span-words s₀ at (d * 512) h b in
      let m : build d (added f X) ≡ add_w X (build d f) =
      build-add 512 d (λ (i : ℕ). block 512 i X) f (λ (i : ℕ) (l : i < d). (block_words d i X w l).long) lf
      ∙ ap (λ (x : List ℕ). add_w x (build d f)) (blocks-all 512 d X w.long) in
      wrote_value m (wrote-end 512 (added f X) e u)

-- no repetition yet
pub skip-start : (G : Generator) (d r : ℕ) (g : G.State) → g ≡ skip G d (0 * r) g
skip-start G d r g = sym (skip-none G d g) ∙ ap (λ (k : ℕ). skip G d k g) (sym (zero-mul r))

-- ---- seed number (i * rep + t) * d + j

abbrev pub seeded : (d rep u n : ℕ) → List ℕ → (i t j : ℕ) → List ℕ
seeded d rep u n seeds i t j = sample_u (noise_header t i j) (block n ((i * rep + t) * d + j) seeds) u

module _ (i rep d : ℕ) where
  module _ (t j : ℕ) (a : t < rep) (b : j < d) where
    pub seed-inside : (n : ℕ) → ((i * rep + t) * d + j) * n + n ≤ (i * rep + rep) * d * n
    seed-inside n =
        let h : (i * rep + t) * d + d ≤ (i * rep + rep) * d = inside (i * rep + t) (i * rep + rep) d (omega arith) in
        inside ((i * rep + t) * d + j) ((i * rep + rep) * d) n (omega arith)

    pub seed-small : i < 256 → rep < 256 → d < 256 → (i * rep ≤ 65025) × ((i * rep + t) * d ≤ 16646400)
    seed-small k l m =
        let i' : i ≤ 255 = omega arith in
        let r' : rep ≤ 255 = omega arith in
        let d' : d ≤ 255 = omega arith in
        let x : i * rep ≤ 255 * 255 = mul-le-mul i' r' in
        let y : i * rep + t ≤ 65280 = omega arith in
        let z : (i * rep + t) * d ≤ 65280 * 255 = mul-le-mul y d' in
        (omega arith, omega arith)

  -- the seeds of polynomial i are among those of m
  pub seeds-inside : (m n : ℕ) → i < m → (i * rep + rep) * d * n ≤ m * rep * d * n
  seeds-inside m n h = mul-le-mul_right n (mul-le-mul_right d (inside i m rep h))

-- the noise of polynomial i is among that of m
pub noise-inside : (p : Params) (i m : ℕ) → i < m → (noise : LentNoise) → NoiseFor p m noise → NoiseAt p i noise
noise-inside p i m h (LentNoise.Seeds u seeds) w =
    (omega (arith, seeds-inside i p.rep p.shares m (p.kappa / 8) h, w.0), w.1, omega arith, w.3, w.4)
noise-inside p i m h (LentNoise.Words words) w = (omega (arith, inside i m (p.shares * 512) h, w.0), w.1)
