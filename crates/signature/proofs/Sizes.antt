-- The numbers of a row of the parameter table, for key generation: what `Small` says, and the products that stay small.
use mathlib.Core.Path.{◌≡◌, sym, ap, subst, ◌∙◌}
use mathlib.Core.List.{List}
use Prim.Native.Nat.{ℕ, ◌+◌, ◌-◌, ◌*◌, ◌/◌, ◌^◌, ◌≤◌}
use native.Mathlib.Nat.{mul-le-mul}
use native.Mathlib.Omega.{arith}
use lib.Dec.{lit<}
use lib.ListN.{length, take, drop, length-drop}
use lib.Seq.{take_all, length-take-le}
use mir.Syntax.{w64}
use mir.Val.{Fits}
use Rattle.hash.specs.declared.params.Params.{Params}
use Rattle.ring.specs.Words.{Below, Words}
use Rattle.hash.specs.Lists.{zeros}
use Rattle.ring.proofs.Recombined.{length-words, below-words}
use Rattle.ring.proofs.Sums.{words-zeros, below-zeros}
use Rattle.sharing.specs.Noise.{noise_bytes}
use Rattle.sharing.proofs.NoisePlaces.{noise-bytes}
use Rattle.signature.specs.Checks.{work_words}
use Rattle.signature.specs.Keys.{keygen_bytes, noise_part, share_part}
use Rattle.signature.specs.Layout.{at_s, at_t, at_x}
use Rattle.signature.specs.MaskedSteps.{ResiduesHeld}
use Rattle.signature.specs.Table.{Tabled}

pub cleared : (xs ys : List ℕ) → ys ≡ zeros (length xs) → Words (length xs) ys
cleared xs ys e = subst (Words (length xs)) (sym e) (words-zeros (length xs))

pub fits_low : (x : ℕ) → x ≤ 262400 → Fits w64 x
fits_low x h = record { fits = omega arith }

-- a part that ends with its whole
pub part-all : (b : ℕ) (xs : List ℕ) → take (length xs - b) (drop b xs) ≡ drop b xs
part-all b xs = let e : length (drop b xs) ≡ length xs - b = length-drop b xs in take_all (length xs - b) (drop b xs) (omega arith)

-- all shares of one of s and r
pub region-low : {l d : ℕ} → (l ≤ 7) × (d ≤ 32) → l * (d * 512) ≤ 114688
region-low {l} {d} h = let m : l * d ≤ 7 * 32 = mul-le-mul h.0 h.1 in omega arith

module _ (p : Params) (h : Tabled p) where
  seed-low : p.kappa / 8 ≤ 32
  seed-low = let k = h.kappa-low in omega arith

  -- how many seeds s has, and their bytes
  pub first_fits : Fits w64 (p.l * p.rep) × Fits w64 (p.l * p.rep * p.shares) × Fits w64 (p.l * p.rep * p.shares * (p.kappa / 8))
  first_fits =
      let x : p.l * p.rep ≤ 7 * 8 = mul-le-mul h.columns-low h.rep-low in
      let y : p.l * p.rep * p.shares ≤ 7 * 8 * 32 = mul-le-mul x h.shares-low in
      let z : p.l * p.rep * p.shares * (p.kappa / 8) ≤ 7 * 8 * 32 * 32 = mul-le-mul y seed-low in
      (fits_low _ (omega arith), fits_low _ (omega arith), fits_low (p.l * p.rep * p.shares * (p.kappa / 8)) (omega arith))

  -- the noise seeds of one attempt
  pub coins-low : ((p.l + p.k) * p.shares ≤ 1024) × ((p.l + p.k) * p.shares * p.rep ≤ 8192)
      × ((p.l + p.k) * p.shares * p.rep * (p.kappa / 8) ≤ 262144)
  coins-low =
      let a : p.l + p.k ≤ 16 = let m = h.columns-low in let n = h.rows-low in omega arith in
      let x : (p.l + p.k) * p.shares ≤ 16 * 32 = mul-le-mul a h.shares-low in
      let y : (p.l + p.k) * p.shares * p.rep ≤ 16 * 32 * 8 = mul-le-mul x h.rep-low in
      let z : (p.l + p.k) * p.shares * p.rep * (p.kappa / 8) ≤ 16 * 32 * 8 * 32 = mul-le-mul y seed-low in
      (omega arith, omega arith, omega arith)

  -- the work buffer's regions
  pub room : (n : ℕ) → n ≡ work_words p → (at_s p.shares + p.l * (p.shares * 512) ≤ n) × (at_t p.l p.shares + p.k * 512 ≤ n)
      × (at_x p.k p.l p.shares + p.l * 512 ≤ n)
  room n e = let m = h.columns-rows in (omega arith, omega arith, omega arith)

  -- their two parts
  pub coins-first : (n : ℕ) → n ≡ noise_bytes p → p.l * p.rep * p.shares * (p.kappa / 8) ≤ n
  coins-first n e = omega (arith, noise-bytes p)

  pub coins-second : (xs : List ℕ) → length xs ≡ noise_bytes p
      → p.k * p.rep * p.shares * (p.kappa / 8) ≤ length (take (length xs - p.l * p.rep * p.shares * (p.kappa / 8)) (drop (p.l * p.rep * p.shares * (p.kappa / 8)) xs))
  coins-second xs e =
      let b = p.l * p.rep * p.shares * (p.kappa / 8) in
      let m : length (drop b xs) ≡ length xs - b = length-drop b xs in
      rw (part-all b xs) (omega (arith, noise-bytes p))

  -- the seeds' three parts
  module _ (xs : List ℕ) (e : length xs ≡ keygen_bytes p) where
    pub seed-ends : p.kappa / 8 ≤ length xs
    seed-ends = omega arith

    pub coins-ends : p.kappa / 8 + (p.l + p.k) * p.shares * p.rep * (p.kappa / 8) ≤ length xs
    coins-ends = let m = noise-bytes p in omega (arith, m, e)

    pub seed-long : p.kappa / 8 ≡ length (take (p.kappa / 8) xs)
    seed-long = sym (length-take-le (p.kappa / 8) xs seed-ends)

    pub coins-part : take (p.kappa / 8 + (p.l + p.k) * p.shares * p.rep * (p.kappa / 8) - p.kappa / 8) (drop (p.kappa / 8) xs) ≡ noise_part p xs
    coins-part =
        let m : p.kappa / 8 + (p.l + p.k) * p.shares * p.rep * (p.kappa / 8) - p.kappa / 8 ≡ noise_bytes p = omega (arith, noise-bytes p) in
        ap (λ (n : ℕ). take n (drop (p.kappa / 8) xs)) m

    pub share_part_lem : take (length xs - (p.kappa / 8 + (p.l + p.k) * p.shares * p.rep * (p.kappa / 8))) (drop (p.kappa / 8 + (p.l + p.k) * p.shares * p.rep * (p.kappa / 8)) xs) ≡ share_part p xs
    share_part_lem =
        part-all (p.kappa / 8 + (p.l + p.k) * p.shares * p.rep * (p.kappa / 8)) xs
        ∙ ap (λ (n : ℕ). drop (p.kappa / 8 + n) xs) (sym (noise-bytes p))

    pub coins-long : length (noise_part p xs) ≡ noise_bytes p
    coins-long =
        let m : length (drop (p.kappa / 8) xs) ≡ length xs - p.kappa / 8 = length-drop (p.kappa / 8) xs in
        length-take-le (noise_bytes p) (drop (p.kappa / 8) xs) (omega (arith, m, e))

    pub share-long : length (share_part p xs) ≡ (p.shares - 1) * (p.kappa / 8)
    share-long = length-drop (p.kappa / 8 + noise_bytes p) xs ∙ (omega (arith, e))

-- the local array that holds the matrix: 63 polynomials
matrix-fits : (p : Params) → Tabled p → {n : ℕ} → n ≡ 32256 → p.k * (p.l * 512) ≤ n
matrix-fits p h {n} e =
    let a : p.k * p.l ≤ 9 * 7 = mul-le-mul h.rows-low h.columns-low in
    omega (arith, a, e)

-- .. new as it is lent to `expand_matrix`
pub matrix-new : (p : Params) → Tabled p → (p.k * (p.l * 512) ≤ length (zeros 32256)) × Below (2 ^ 60) (zeros 32256) × (p.k ≤ 9) × (p.l ≤ 7)
matrix-new p h = (matrix-fits p h (words-zeros 32256).long, below-zeros (2 ^ 60) (lit< tt) 32256, h.rows-low, h.columns-low)

-- .. and as it is left
pub matrix-held : (p : Params) → Tabled p → (M : List ℕ) → length M ≡ 32256 → Below (2 ^ 60) M → ResiduesHeld p M
matrix-held p h M e b = ((matrix-fits p h (length-words M ∙ e), below-words M), b)
