-- Steps (what the code leaves on its way; no call's contract reaches these): key generation (000, Algorithm 1) on the work buffer, laid out as
-- Layout.antt says.
use Rattle.std.specs.Prelude.{◌≡◌, Bool, List, [], ◌∷◌, ◌++◌, ℕ, suc, ◌+◌, ◌*◌}
use Rattle.std.proofs.Math.Option.{Option}
use Rattle.hash.specs.declared.params.Params.{Params}
use Rattle.ring.specs.Round.{round_t}
use Rattle.sharing.specs.Blocks.{block, totals}
use Rattle.sharing.specs.Masks.{mask_start}
use Rattle.sharing.specs.Region.{span, Wrote}
use Rattle.sharing.specs.declared.masks.MaskGen.{MaskGen}
use Rattle.signature.specs.Bits.{repack}
use Rattle.signature.specs.Checks.{both}
use Rattle.signature.specs.Compress.{collected_of}
use Rattle.signature.specs.Keys.{seed_bytes, vk_seed, share_part, key_shares, key_vector, key_masks_fill, compressed}
use Rattle.signature.specs.Layout.{at_s, at_t, at_x}
use Rattle.signature.specs.Masked.{seeded, masked_image}
use Rattle.signature.specs.Matrix.{matrix, filled}
use Rattle.signature.specs.Outcome.{held_or}

-- lines 5 to 8, W being the shares of all rows of t with their noise: those of the last row, behind the zero encoding; t, rounded, at `to`
pub record Rounded (p : Params) (to : ℕ) (W xs ys : List ℕ) : Type 0 where
  pub row : (i : ℕ) → p.k ≡ suc i → span ys (p.shares * 512) (p.shares * 512) ≡ block (p.shares * 512) i W
  pub vector : Wrote (p.shares * 512 + p.shares * 512) to (p.k * 512) (round_t (totals p.k p.shares W)) xs ys

-- what lines 2 to 8 and the compression leave, of the noise seeds and the generator g: all shares of s in the transform domain; those of the
-- last row of t, as they were added up; t, rounded; the share x that is written in full
pub record Generated (p : Params) (coins : List ℕ) (g : MaskGen) (A x ys : List ℕ) : Type 0 where
  pub shares : span ys (at_s p.shares) (p.l * (p.shares * 512)) ≡ key_shares p coins g
  pub row : (i : ℕ) → p.k ≡ suc i
      → span ys (p.shares * 512) (p.shares * 512) ≡ block (p.shares * 512) i (masked_image p (seeded p p.ut coins) g A).shares
  pub vector : span ys (at_t p.l p.shares) (p.k * 512) ≡ key_vector p coins g A
  pub full : span ys (at_x p.k p.l p.shares) (p.l * 512) ≡ x

-- the compression at polynomial j, of the sharing xs, up to share i
abbrev pub collected : Params → List ℕ → List ℕ → ℕ → ℕ → Option (List ℕ)
collected p seeds xs j i = collected_of p.edition (seed_bytes p) seeds xs j i

-- the share that the compression of s writes in full, if the share seeds fill
abbrev pub full_share_of : Params → List ℕ → List ℕ → List ℕ → Option (List ℕ)
full_share_of p shares coins mask = compressed p shares (key_shares p coins (mask_start mask))

-- checks 10 and 20 of key generation, of the seeds by their parts
abbrev pub keygen_fills : Params → List ℕ → List ℕ → List ℕ → List ℕ → List (ℕ × Bool)
keygen_fills p seed coins shares mask =
    (10, both (filled (matrix p seed)) (filled (full_share_of p shares coins mask)))
    ∷ (20, key_masks_fill p coins (mask_start mask) (held_or (matrix p seed) []))
    ∷ []

-- the signing key of t and x in the work buffer
unfoldable pub key_of : Params → List ℕ → List ℕ → List ℕ
key_of p seeds work =
    (vk_seed p seeds ++ repack 7 8 (p.k * 448) (span work (at_t p.l p.shares) (p.k * 512)))
    ++ (share_part p seeds ++ repack 49 8 (p.l * 3136) (span work (at_x p.k p.l p.shares) (p.l * 512)))
