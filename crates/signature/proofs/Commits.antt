-- Lines 4 to 8 of signing (000, Algorithm 2) on the work buffer, joined: the noise, and the image of its transform.
use mathlib.Core.Path.{◌≡◌, refl, ap, ◌∙◌}
use mathlib.Core.List.{List}
use Prim.Native.Nat.{ℕ, suc, ◌+◌, ◌-◌, ◌*◌, ◌/◌, ◌^◌, ◌≤◌, ◌<◌}
use native.Mathlib.Omega.{arith}
use lib.ListN.{length, take, drop, length-drop}
use Rattle.hash.specs.Params.{order_index}
use Rattle.hash.specs.declared.params.Params.{Params}
use Rattle.ring.specs.Words.{q, Below}
use Rattle.ring.proofs.Sums.{below-take, below-drop}
use Rattle.sharing.specs.Blocks.{block, totals}
use Rattle.sharing.specs.Region.{span, Wrote}
use Rattle.sharing.specs.Encoding.{skip, add_noise}
use Rattle.sharing.specs.Masks.{masks}
use Rattle.sharing.specs.Noise.{noise_bytes, seed_noise, explicit_noise}
use Rattle.sharing.specs.NoiseSteps.{NoiseFor}
use Rattle.sharing.specs.declared.masks.MaskGen.{MaskGen}
use Rattle.sharing.specs.declared.repeat.LentNoise.{LentNoise}
use Rattle.signature.specs.AttemptSteps.{key_in, Committed}
use Rattle.signature.specs.Layout.{at_s, at_r, at_t}
use Rattle.signature.specs.Masked.{Noise, seeded, explicit, masked_noise, masked_image}
use Rattle.signature.specs.MaskedSteps.{NoiseSized, matrix_in, MatrixHeld, transformed, rows_of, SummedAll}
use Rattle.signature.specs.Table.{Tabled}
use Rattle.signature.proofs.Masking.{image-is, image-next}
use Rattle.signature.proofs.Sizes.{part-all, coins-first, coins-second}

module _ (p : Params) (N : Noise) (g x : MaskGen) (M s₀ s₁ s₂ : List ℕ) (power : p.shares ≡ 2 ^ order_index p.shares) (held : MatrixHeld p M)
    (u : Wrote (p.shares * 512) (at_r p.l p.shares) (p.l * (p.shares * 512)) (transformed (p.l * p.shares) (masked_noise p N g).shares) s₀ s₁)
    (e : x ≡ (masked_noise p N g).next) where
  -- the shares of all rows, f being the noise of the product
  abbrev imaged : (ℕ → ℕ → List ℕ) → List ℕ → List ℕ
  imaged f X = add_noise masks p.shares x p.k N.reps f (rows_of p.shares p.k p.l M X)

  rows-there : (f : ℕ → ℕ → List ℕ) → f ≡ N.second
      → imaged f (span s₁ (at_r p.l p.shares) (p.l * (p.shares * 512))) ≡ (masked_image p N g (matrix_in p M)).shares
  rows-there f hf =
      ap (imaged f) u.new ∙ ap (λ (h : ℕ → ℕ → List ℕ). imaged h (transformed (p.l * p.shares) (masked_noise p N g).shares)) hf
      ∙ image-is p N g x power e M held

  pub commit-made : (f : ℕ → ℕ → List ℕ) → f ≡ N.second → (y : MaskGen)
      → SummedAll p.shares p.k (p.shares * 512) (at_t p.l p.shares) (imaged f (span s₁ (at_r p.l p.shares) (p.l * (p.shares * 512)))) s₁ s₂
      → y ≡ skip masks p.shares (p.k * N.reps) x → Committed p N g (matrix_in p M) (key_in p s₀) y s₂
  commit-made f hf y v o =
      let r = rows-there f hf in
      let n = p.l * (p.shares * 512) in
      let w = v.sums in
      record {
        begun = record {
          noise = w.front (at_r p.l p.shares) n (omega arith) (omega arith) ∙ u.new;
          key = w.front (at_s p.shares) n (omega arith) (omega arith) ∙ u.front (at_s p.shares) n (omega arith) (omega arith);
        };
        row = λ (i : ℕ) (m : p.k ≡ suc i). v.shares i m ∙ ap (block (p.shares * 512) i) r;
        image = w.new ∙ ap (totals p.k p.shares) r;
        next = image-next p N g x power e M held y o;
      }

-- the parts of one attempt's noise: explicit words; that of the first l polynomials, and that behind them as it is lent, which is enough for k
module _ (l k d : ℕ) (xs : List ℕ) (e : length xs ≡ (l + k) * d * 512) where
  words-first : l * (d * 512) ≤ length xs
  words-first = omega arith

  words-second : k * (d * 512) ≤ length (take (length xs - l * (d * 512)) (drop (l * (d * 512)) xs))
  words-second =
      let b = l * (d * 512) in
      let m : length (drop b xs) ≡ length xs - b = length-drop b xs in
      rw (part-all b xs) (omega arith)

pub below-part : (n b : ℕ) (xs : List ℕ) → Below q xs → Below q (take n (drop b xs))
below-part n b xs h = below-take q n (drop b xs) (below-drop q b xs h)

module _ (p : Params) (h : Tabled p) where
  pub noise-first : (noise : LentNoise) → NoiseSized p noise → NoiseFor p p.l noise
  noise-first (LentNoise.Seeds u seeds) w =
      (coins-first p h (length seeds.now) w.0, omega (arith, h.rep-low), omega (arith, h.columns-low), w.1, w.2)
  noise-first (LentNoise.Words words) w = (words-first p.l p.k p.shares words.now w.0, w.1)

  pub seeds-behind : (u : ℕ) (xs : List ℕ) → (length xs ≡ noise_bytes p) × (1 ≤ u) × (u ≤ 48)
      → let ys = take (length xs - p.l * p.rep * p.shares * (p.kappa / 8)) (drop (p.l * p.rep * p.shares * (p.kappa / 8)) xs) in
      ((p.k * p.rep * p.shares * (p.kappa / 8) ≤ length ys) × (p.rep < 256) × (p.k ≤ 256) × (1 ≤ u) × (u ≤ 48)) × (p.rep ≡ (seeded p u xs).reps)
      × (seed_noise p.shares p.rep u (p.kappa / 8) ys ≡ (seeded p u xs).second)
  unfolding seeded
  seeds-behind u xs w =
      let b = p.l * p.rep * p.shares * (p.kappa / 8) in (
        (coins-second p h xs w.0, omega (arith, h.rep-low), omega (arith, h.rows-low), w.1, w.2),
        refl,
        ap (seed_noise p.shares p.rep u (p.kappa / 8)) (part-all b xs),
      )

  pub words-behind : (xs : List ℕ) → (length xs ≡ (p.l + p.k) * p.shares * 512) × Below q xs
      → let ys = take (length xs - p.l * (p.shares * 512)) (drop (p.l * (p.shares * 512)) xs) in
      ((p.k * (p.shares * 512) ≤ length ys) × Below q ys) × (1 ≡ (explicit p xs).reps) × (explicit_noise p.shares ys ≡ (explicit p xs).second)
  unfolding explicit
  words-behind xs w =
      let b = p.l * (p.shares * 512) in (
        (words-second p.l p.k p.shares xs w.0, below-part (length xs - b) b xs w.1),
        refl,
        ap (explicit_noise p.shares) (part-all b xs),
      )
