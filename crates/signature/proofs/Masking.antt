-- The masked steps that key generation and signing share (specs/Masked.antt), joined: noise and its transform, and the image of both.
use mathlib.Core.Path.{◌≡◌, refl, ap, subst, ◌∙◌}
use mathlib.Core.List.{List}
use Prim.Native.Nat.{ℕ, ◌*◌, ◌^◌}
use native.Mathlib.Omega.{arith}
use Rattle.hash.specs.Params.{order_index}
use Rattle.hash.specs.declared.params.Params.{Params}
use Rattle.ring.specs.Words.{Words}
use Rattle.sharing.specs.Region.{span, Wrote}
use Rattle.sharing.specs.Encoding.{skip, add_noise, zero_vector}
use Rattle.sharing.specs.Masks.{masks}
use Rattle.sharing.specs.NoiseSteps.{noise_reps, lent_noise}
use Rattle.sharing.specs.declared.masks.MaskGen.{MaskGen}
use Rattle.sharing.specs.declared.repeat.LentNoise.{LentNoise}
use Rattle.sharing.proofs.Carry.{mask_low}
use Rattle.sharing.proofs.Regions.{wrote_value, wrote-wide, wrote-over}
use Rattle.sharing.proofs.Totals.{noise-words, zero_vector-words}
use Rattle.signature.specs.Masked.{Noise, seeded, explicit, masked_noise, masked_image}
use Rattle.signature.specs.MaskedSteps.{noise_lent, matrix_in, MatrixHeld, transformed, rows_of}
use Rattle.signature.proofs.Images.{image-product}

-- noise that is lent, as it is added to the first l polynomials
pub lent-first : (p : Params) (noise : LentNoise) → (noise_reps p noise ≡ (noise_lent p noise).reps) × (lent_noise p noise ≡ (noise_lent p noise).first)
unfolding seeded explicit
lent-first p (LentNoise.Seeds u seeds) = (refl, refl)
lent-first p (LentNoise.Words words) = (refl, refl)

-- l zero encodings, their noise, and the transform
pub noise-made : (p : Params) (at : ℕ) (N : Noise) (g x : MaskGen) (s₀ s₁ s₂ s₃ : List ℕ) → x ≡ skip masks p.shares p.l g
    → Wrote 0 at (p.l * (p.shares * 512)) (zero_vector masks p.shares g p.l) s₀ s₁
    → Wrote (p.shares * 512) at (p.l * (p.shares * 512)) (add_noise masks p.shares x p.l N.reps N.first (span s₁ at (p.l * (p.shares * 512)))) s₁ s₂
    → Wrote 0 at (p.l * p.shares * 512) (transformed (p.l * p.shares) (span s₂ at (p.l * p.shares * 512))) s₂ s₃
    → Wrote (p.shares * 512) at (p.l * (p.shares * 512)) (transformed (p.l * p.shares) (masked_noise p N g).shares) s₀ s₃
unfolding masked_noise
noise-made p at N g x s₀ s₁ s₂ s₃ e u v w =
    let l = p.l in
    let d = p.shares in
    let n : l * d * 512 ≡ l * (d * 512) = omega arith in
    let t : Wrote 0 at (l * (d * 512)) (transformed (l * d) (span s₂ at (l * (d * 512)))) s₂ s₃ =
    subst (λ (m : ℕ). Wrote 0 at m (transformed (l * d) (span s₂ at m)) s₂ s₃) n w in
    let f : span s₂ at (l * (d * 512)) ≡ add_noise masks d (skip masks d l g) l N.reps N.first (zero_vector masks d g l) =
    v.new ∙ ap (add_noise masks d x l N.reps N.first) u.new ∙ ap (λ (h : MaskGen). add_noise masks d h l N.reps N.first (zero_vector masks d g l)) e in
    wrote-over (wrote-wide (omega arith) u) (wrote-over v (wrote-wide (omega arith) (wrote_value (ap (transformed (l * d)) f) t)))

-- the generator behind them
pub noise-next : (p : Params) (N : Noise) (g x y : MaskGen) → x ≡ skip masks p.shares p.l g → y ≡ skip masks p.shares (p.l * N.reps) x
    → y ≡ (masked_noise p N g).next
unfolding masked_noise
noise-next p N g x y e f = f ∙ ap (skip masks p.shares (p.l * N.reps)) e

-- the masked noise is a vector of words
pub masked-words : (p : Params) (N : Noise) (g : MaskGen) → p.shares ≡ 2 ^ order_index p.shares
    → Words (p.l * (p.shares * 512)) (masked_noise p N g).shares
unfolding masked_noise
masked-words p N g power =
    noise-words masks mask_low p.shares power p.l (zero_vector masks p.shares g p.l)
    (zero_vector-words masks mask_low p.shares power g p.l) (skip masks p.shares p.l g) N.reps N.first

module _ (p : Params) (N : Noise) (g x : MaskGen) (power : p.shares ≡ 2 ^ order_index p.shares) (e : x ≡ (masked_noise p N g).next)
    (M : List ℕ) (held : MatrixHeld p M) where
  -- the image of the transformed noise, by the rows of the matrix; and the generator behind it
  pub image-is : add_noise masks p.shares x p.k N.reps N.second
      (rows_of p.shares p.k p.l M (transformed (p.l * p.shares) (masked_noise p N g).shares))
      ≡ (masked_image p N g (matrix_in p M)).shares
  unfolding masked_image
  image-is =
      let I : MaskGen → List ℕ → List ℕ = λ (h : MaskGen) (Y : List ℕ). add_noise masks p.shares h p.k N.reps N.second Y in
      let R = rows_of p.shares p.k p.l M (transformed (p.l * p.shares) (masked_noise p N g).shares) in
      ap (λ (h : MaskGen). I h R) e
      ∙ ap (I (masked_noise p N g).next)
      (image-product p.shares p.k p.l M (masked_noise p N g).shares held.0 held.1 (masked-words p N g power))

  pub image-next : (y : MaskGen) → y ≡ skip masks p.shares (p.k * N.reps) x → y ≡ (masked_image p N g (matrix_in p M)).next
  unfolding masked_image
  image-next y f = f ∙ ap (skip masks p.shares (p.k * N.reps)) e
