-- The checks 10, 11 and 16 of verifying, from what the code finds.
use mathlib.Core.Path.{◌≡◌, sym, ap, ◌∙◌}
use mathlib.Core.Bool.{Bool, true, false}
use mathlib.Core.List.{List, [], ◌∷◌, ◌++◌}
use mathlib.Core.Option.{Option, some, none}
use Prim.Native.Nat.{ℕ, ◌/◌}
use lib.IntN.{ℤ}
use Rattle.hash.specs.Lists.{pick}
use Rattle.hash.specs.Shake.{shake256}
use Rattle.hash.specs.declared.params.Params.{Params}
use Rattle.ring.specs.UniformSteps.{poly_of}
use Rattle.ring.proofs.Filled.{not-filled, filled-some}
use Rattle.signature.specs.Challenge.{headed, ordered, chal_hash, chal_poly}
use Rattle.signature.specs.Checks.{hash_equal}
use Rattle.signature.specs.Form.{Fields}
use Rattle.signature.specs.Keys.{vk_seed, vk_vector}
use Rattle.signature.specs.Matrix.{matrix, filled}
use Rattle.signature.specs.Outcome.{first_no, held_or}
use Rattle.signature.specs.Digest.{mu_of}
use Rattle.signature.specs.Verify.{recomputed, hash_checks}

module _ (p : Params) (vk msg : List ℕ) (f : Fields) where
  abbrev M : Option (List ℕ)
  M = matrix p (vk_seed p vk)

  abbrev C : Option (List ℤ)
  C = chal_poly p f.hash

  -- by matrix and challenge, each if it fills
  abbrev by : Option (List ℕ) → Option (List ℤ) → ℕ
  by m c =
      first_no ((10, filled m) ∷ (11, filled c) ∷ (16, hash_equal f (recomputed p (held_or m []) (vk_vector p vk) (mu_of p vk msg) f (held_or c []))) ∷ [])

  pub verdict-matrix : filled (matrix p (vk_seed p vk)) ≡ false → first_no (hash_checks p vk msg f) ≡ 10
  unfolding filled
  verdict-matrix e = ap (λ (m : Option (List ℕ)). by m C) (not-filled M e)

  pub verdict-challenge : filled (matrix p (vk_seed p vk)) ≡ true → chal_poly p f.hash ≡ none → first_no (hash_checks p vk msg f) ≡ 11
  unfolding filled
  verdict-challenge e g = ap (λ (m : Option (List ℕ)). by m C) (filled-some M e) ∙ ap (by (some (poly_of M))) g

  pub verdict-hash : (A : List ℕ) (c : List ℤ) (b : Bool) → matrix p (vk_seed p vk) ≡ some A → chal_poly p f.hash ≡ some c
      → b ≡ hash_equal f (recomputed p A (vk_vector p vk) (mu_of p vk msg) f c) → first_no (hash_checks p vk msg f) ≡ pick b 0 16
  unfolding filled
  verdict-hash A c b m g e = ap (λ (o : Option (List ℕ)). by o C) m ∙ ap (by (some A)) g ∙ ap (λ (x : Bool). pick x 0 16) (sym e)

-- the code's hash of equal parts
pub hash-parts : {w w' mu mu' : List ℕ} (p : Params) → w ≡ w' → mu ≡ mu'
    → shake256 (headed 104 p.k ++ ordered p.edition w mu) (p.kappa / 4) ≡ chal_hash p w' mu'
unfolding chal_hash
hash-parts {w} {w'} {mu} {mu'} p e g =
    ap (λ (x : List ℕ). shake256 (headed 104 p.k ++ ordered p.edition x mu) (p.kappa / 4)) e
    ∙ ap (λ (x : List ℕ). shake256 (headed 104 p.k ++ ordered p.edition w' x) (p.kappa / 4)) g
