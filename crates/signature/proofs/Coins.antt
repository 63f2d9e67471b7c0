-- The coins of all attempts (01: noise tape, masking tape), and the part of each attempt.
use mathlib.Core.Path.{◌≡◌, refl, sym, ap, subst, ◌∙◌}
use mathlib.Core.Bool.{Bool, true, false}
use mathlib.Core.List.{List}
use Prim.Native.Nat.{ℕ, ◌+◌, ◌-◌, ◌*◌, ◌/◌, ◌≤◌, ◌<◌}
use native.Mathlib.Nat.{mul-le-mul}
use native.Mathlib.Omega.{arith}
use borrow.Author.Tests.{eqb-true}
use lib.Dec.{eqb}
use lib.ListN.{length, take, drop}
use mir.Syntax.{w64}
use mir.Val.{Fits}
use Rattle.hash.specs.declared.params.Params.{Params}
use Rattle.ring.specs.Words.{q, Below, all_below}
use Rattle.ring.proofs.Sums.{all-below}
use Rattle.ring.proofs.Checks.{absurd-bool, both_true}
use Rattle.sharing.specs.Blocks.{block}
use Rattle.sharing.specs.Masks.{mask_start}
use Rattle.sharing.specs.Noise.{noise_bytes}
use Rattle.sharing.specs.declared.masks.MaskGen.{MaskGen}
use Rattle.sharing.proofs.Built.{part-block}
use Rattle.sharing.proofs.Lists.{inside}
use Rattle.sharing.proofs.NoisePlaces.{noise-bytes}
use Rattle.sharing.proofs.Regions.{length-span}
use Rattle.signature.specs.AttemptSteps.{Within, Committed}
use Rattle.signature.specs.Checks.{both}
use Rattle.signature.specs.Masked.{Noise, seeded, explicit}
use Rattle.signature.specs.Sign.{Coins, from_seeds, from_noise, noise_at, mask_at}
use Rattle.signature.specs.SignCalls.{coins_good}
use Rattle.signature.specs.Table.{Tabled}
use Rattle.signature.proofs.Commits.{below-part}
use Rattle.signature.proofs.Sizes.{coins-low}

-- a part of n words from b on
pub part-long : (n b : ℕ) (xs : List ℕ) → b + n ≤ length xs → length (take (b + n - b) (drop b xs)) ≡ n
part-long n b xs h = let e : b + n - b ≡ n = omega arith in rw e (length-span xs b n h)

-- the sizes are small numbers
pub fits-mid : (x : ℕ) → x ≤ 4294967296 → Fits w64 x
fits-mid x h = record { fits = omega arith }

module _ (p : Params) (h : Tabled p) (a : ℕ) (few : a ≤ 16) where
  pub words_size : ((p.l + p.k) * p.shares * 512 ≤ 524288) × (a * ((p.l + p.k) * p.shares * 512) ≤ 8388608)
  words_size =
      let x : (p.l + p.k) * p.shares * 512 ≤ 524288 = let y = (coins-low p h).0 in omega arith in
      let z : a * ((p.l + p.k) * p.shares * 512) ≤ 16 * 524288 = mul-le-mul few x in
      (x, omega arith)

  pub seeds-size : ((p.l + p.k) * p.shares * p.rep * (p.kappa / 8) ≤ 262144) × (a * ((p.l + p.k) * p.shares * p.rep * (p.kappa / 8)) ≤ 4194304)
  seeds-size =
      let x : (p.l + p.k) * p.shares * p.rep * (p.kappa / 8) ≤ 262144 = (coins-low p h).2 in
      let z : a * ((p.l + p.k) * p.shares * p.rep * (p.kappa / 8)) ≤ 16 * 262144 = mul-le-mul few x in
      (x, omega arith)

-- the part of attempt number a + 1 as it is lent, explicit or of seeds, and its mask seed
module _ (p : Params) (h : Tabled p) (a : ℕ) (masks : List ℕ) where
  pub words-taken : (xs : List ℕ) → Within p (from_noise xs masks) a
      → let n = (p.l + p.k) * p.shares * 512 in
      let ys = take (a * n + n - a * n) (drop (a * n) xs) in
      ((length ys ≡ n) × Below q ys) × (explicit p ys ≡ noise_at p (from_noise xs masks) a)
  unfolding noise_at
  words-taken xs w =
      let n = (p.l + p.k) * p.shares * 512 in
      ((part-long n (a * n) xs w.noise-long, below-part (a * n + n - a * n) (a * n) xs (w.noise-low refl)), ap (explicit p) (part-block n a xs))

  pub seeds-inside : (xs : List ℕ) → Within p (from_seeds xs masks) a
      → let n = (p.l + p.k) * p.shares * p.rep * (p.kappa / 8) in a * n + n ≤ length xs
  seeds-inside xs w = rw (← noise-bytes p) w.noise-long

  pub seeds-taken : (xs : List ℕ) → Within p (from_seeds xs masks) a
      → let n = (p.l + p.k) * p.shares * p.rep * (p.kappa / 8) in
      let ys = take (a * n + n - a * n) (drop (a * n) xs) in
      ((length ys ≡ noise_bytes p) × (1 ≤ p.uw) × (p.uw ≤ 48)) × (seeded p p.uw ys ≡ noise_at p (from_seeds xs masks) a)
  unfolding noise_at
  seeds-taken xs w =
      let n = (p.l + p.k) * p.shares * p.rep * (p.kappa / 8) in
      let e : n ≡ noise_bytes p = sym (noise-bytes p) in (
        (part-long n (a * n) xs (seeds-inside xs w) ∙ e, h.uw-pos, omega (arith, h.uw-low)),
        ap (seeded p p.uw) (part-block n a xs ∙ ap (λ (m : ℕ). block m a xs) e),
      )

pub mask-taken : (T : Coins) (a : ℕ) → mask_start (take (a * 32 + 32 - a * 32) (drop (a * 32) T.masks)) ≡ mask_at T a
unfolding mask_at
mask-taken T a = ap mask_start (part-block 32 a T.masks)

pub committed-at : (p : Params) {N M : Noise} {g h : MaskGen} (A : List ℕ) {y : MaskGen} {s ys : List ℕ} → N ≡ M → g ≡ h
    → Committed p N g A s y ys → Committed p M h A s y ys
committed-at p {N} {M} {g} {h} A {y} {s} {ys} e f c =
    subst (λ (k : MaskGen). Committed p M k A s y ys) f (subst (λ (K : Noise). Committed p K g A s y ys) e c)

-- check 7: the coins hold each of the n attempts allowed
module _ (p : Params) (n a : ℕ) (l : a < n) (most : n ≤ 16) where
  held : (x : Bool) (noise masks : List ℕ) → coins_good p n (record { explicit = x; noise = noise; masks = masks }) ≡ true
      → Within p (record { explicit = x; noise = noise; masks = masks }) a
  held true noise masks h =
      let w = (p.l + p.k) * p.shares * 512 in
      let b = both_true (eqb (length noise) (n * w)) (both (all_below q noise) (eqb (length masks) (n * 32))) h in
      let e : length noise ≡ n * w = eqb-true (length noise) (n * w) b.0 in
      let c = both_true (all_below q noise) (eqb (length masks) (n * 32)) b.1 in
      let m : length masks ≡ n * 32 = eqb-true (length masks) (n * 32) c.1 in
      record {
        noise-long = omega (arith, inside a n w l, e);
        noise-low = λ o. all-below q noise c.0;
        few = omega arith;
        masks-long = omega (arith, inside a n 32 l, m);
      }
  held false noise masks h =
      let w = noise_bytes p in
      let b = both_true (eqb (length noise) (n * w)) (eqb (length masks) (n * 32)) h in
      let e : length noise ≡ n * w = eqb-true (length noise) (n * w) b.0 in
      let m : length masks ≡ n * 32 = eqb-true (length masks) (n * 32) b.1 in
      record {
        noise-long = omega (arith, inside a n w l, e);
        noise-low = λ o. absurd-bool (sym o);
        few = omega arith;
        masks-long = omega (arith, inside a n 32 l, m);
      }

  pub coins-within : (T : Coins) → coins_good p n T ≡ true → Within p T a
  coins-within T h = held T.explicit T.noise T.masks h
