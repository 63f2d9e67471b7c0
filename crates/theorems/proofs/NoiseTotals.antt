-- The noise totals of a unit, place by place: those of its attempts' sharings are the sums of samples or lent words that 01 names.
use mathlib.Core.Path.{◌≡◌, refl, sym, ap, ◌∙◌}
use mathlib.Core.Bool.{Bool, true, false}
use mathlib.Core.List.{List}
use Prim.Native.Nat.{ℕ, ◌+◌, ◌-◌, ◌*◌, ◌/◌, ◌%◌, ◌≤◌, ◌<◌}
use native.Mathlib.Omega.{arith}
use borrow.Author.Tests.{lt-ltb, le-ltb}
use lib.Dec.{ltb}
use lib.ListN.{get_or}
use Rattle.hash.specs.Lists.{pick}
use Rattle.hash.specs.declared.params.Params.{Params}
use Rattle.std.specs.Prelude.{Ok}
use Rattle.ring.specs.Words.{q, Words}
use Rattle.sharing.specs.Blocks.{block, sum_n}
use Rattle.sharing.specs.Noise.{sample_u, noise_header}
use Rattle.sharing.proofs.Built.{sum_n-one}
use Rattle.sharing.proofs.Decode.{sum_n-ext, reps-at}
use Rattle.sharing.proofs.Lists.{block_at}
use Rattle.signature.specs.Masked.{Noise, seeded, explicit}
use Rattle.signature.specs.Sign.{noise_size, noise_from, noise_at}
use Rattle.theorems.specs.Plain.{noise_total}
use Rattle.theorems.specs.Unit.{UnitCall, record_of, lent_at, sampled_at, noise_total_at, Fits}
use Rattle.theorems.proofs.Steps.{GoodNoise}
use Rattle.theorems.proofs.Collapse.{noise_of, shares-are, uw-low, good}
use Rattle.theorems.proofs.Coins.{explicit-first, explicit-second, seeded-first, seeded-second}

-- the sum over r repetitions and d shares at coefficient x
total-is : (d r : ℕ) (f : ℕ → ℕ → List ℕ) (i : ℕ) → ((t : ℕ) → t < r → Words (d * 512) (f i t)) → (x : ℕ) → x < 512
    → get_or (noise_total d r f i) x 0 ≡ sum_n r (λ (t : ℕ). sum_n d (λ (j : ℕ). get_or (f i t) (j * 512 + x) 0)) % q
total-is d r f i w x hx =
    reps-at d r (f i) w x hx
    ∙ ap (λ (m : ℕ). m % q)
    (sum_n-ext r (λ (t : ℕ). sum_n d (λ (j : ℕ). get_or (block 512 j (f i t)) x 0)) (λ (t : ℕ). sum_n d (λ (j : ℕ). get_or (f i t) (j * 512 + x) 0))
    (λ (t : ℕ) (ht : t < r).
    sum_n-ext d (λ (j : ℕ). get_or (block 512 j (f i t)) x 0) (λ (j : ℕ). get_or (f i t) (j * 512 + x) 0)
    (λ (j : ℕ) (hj : j < d). block_at 512 j (f i t) x hx)))

module _ (u : UnitCall) (p : Params) (is : record_of u ≡ Ok p) (h : Fits p u) (a : ℕ) (x : ℕ) (hx : x < 512) where
  abbrev m : ℕ
  m = p.l + p.k

  -- polynomial k of a sharing's noise f, number i of the l + k
  module _ (f : ℕ → ℕ → List ℕ) (k i : ℕ) where
    lent_total : ((t : ℕ) → t < 1 → Words (p.shares * 512) (f k t))
        → ((j : ℕ) → j < p.shares → get_or (f k 0) (j * 512 + x) 0 ≡ get_or u.coins.noise (((a * m + i) * p.shares + j) * 512 + x) 0)
        → get_or (noise_total p.shares 1 f k) x 0 ≡ sum_n u.shares (λ (j : ℕ). lent_at p u a i j x) % q
    unfolding lent_at
    lent_total w e =
        total-is p.shares 1 f k w x hx
        ∙ ap (λ (n : ℕ). n % q)
        (sum_n-one (λ (t : ℕ). sum_n p.shares (λ (j : ℕ). get_or (f k t) (j * 512 + x) 0))
        ∙ sum_n-ext p.shares (λ (j : ℕ). get_or (f k 0) (j * 512 + x) 0) (λ (j : ℕ). get_or u.coins.noise (((a * m + i) * p.shares + j) * 512 + x) 0) e)
        ∙ ap (λ (d : ℕ). sum_n d (λ (j : ℕ). get_or u.coins.noise (((a * m + i) * d + j) * 512 + x) 0) % q) (shares-are u p is h)

    sampled-total : ((t : ℕ) → t < p.rep → Words (p.shares * 512) (f k t)) → pick (ltb i p.l) i (i - p.l) ≡ k
        → ((t j : ℕ) → t < p.rep → j < p.shares
        → get_or (f k t) (j * 512 + x) 0 ≡ get_or (sample_u (noise_header t k j) (block (p.kappa / 8) (((a * m + i) * p.rep + t) * p.shares + j) u.coins.noise) p.uw) x 0)
        → get_or (noise_total p.shares p.rep f k) x 0 ≡ sum_n p.rep (λ (t : ℕ). sum_n u.shares (λ (j : ℕ). sampled_at p u a i t j x)) % q
    unfolding sampled_at
    sampled-total w n e =
        let g : ℕ → ℕ → ℕ → ℕ → ℕ = λ (b d t j : ℕ).
        get_or (sample_u (noise_header t b j) (block (p.kappa / 8) (((a * m + i) * p.rep + t) * d + j) u.coins.noise) p.uw) x 0 in
        total-is p.shares p.rep f k w x hx
        ∙ ap (λ (n : ℕ). n % q)
        (sum_n-ext p.rep (λ (t : ℕ). sum_n p.shares (λ (j : ℕ). get_or (f k t) (j * 512 + x) 0)) (λ (t : ℕ). sum_n p.shares (g k p.shares t))
        (λ (t : ℕ) (ht : t < p.rep).
        sum_n-ext p.shares (λ (j : ℕ). get_or (f k t) (j * 512 + x) 0) (g k p.shares t) (λ (j : ℕ) (hj : j < p.shares). e t j ht hj)))
        ∙ ap (λ (d : ℕ). sum_n p.rep (λ (t : ℕ). sum_n d (g k d t)) % q) (shares-are u p is h)
        ∙ ap (λ (b : ℕ). sum_n p.rep (λ (t : ℕ). sum_n u.shares (g b u.shares t)) % q) (sym n)

  -- what noise_total_at is by the form of the noise
  abbrev chosen : Bool → ℕ → ℕ
  chosen b i =
      pick b
      (sum_n u.shares (λ (j : ℕ). lent_at p u a i j x) % q)
      (sum_n p.rep (λ (t : ℕ). sum_n u.shares (λ (j : ℕ). sampled_at p u a i t j x)) % q)

  abbrev had : Bool → Noise
  had b = noise_from p b (block (noise_size p b) a u.coins.noise)

  first_by : (b : Bool) → GoodNoise p (had b) → (i : ℕ) → i < p.l → get_or (noise_total p.shares (had b).reps (had b).first i) x 0 ≡ chosen b i
  unfolding explicit seeded
  first_by true w i hi =
      lent_total (had true).first i i (λ (t : ℕ) ht. w.first i t hi ht) (λ (j : ℕ) (hj : j < p.shares). explicit-first p u.coins.noise a i 0 j x hi hj hx)
  first_by false w i hi =
      let e : ltb i p.l ≡ true = lt-ltb i p.l hi in
      sampled-total (had false).first i i (λ (t : ℕ) ht. w.first i t hi ht) (rw e refl)
      (λ (t j : ℕ) (ht : t < p.rep) (hj : j < p.shares). seeded-first p u.coins.noise a (uw-low u p is h) i t j x hi ht hj hx)

  second-by : (b : Bool) → GoodNoise p (had b) → (i : ℕ) → i < p.k → get_or (noise_total p.shares (had b).reps (had b).second i) x 0 ≡ chosen b (p.l + i)
  unfolding explicit seeded
  second-by true w i hi =
      lent_total (had true).second i (p.l + i) (λ (t : ℕ) ht. w.second i t hi ht)
      (λ (j : ℕ) (hj : j < p.shares). explicit-second p u.coins.noise a i 0 j x hi hj hx)
  second-by false w i hi =
      let e : ltb (p.l + i) p.l ≡ false = le-ltb (p.l + i) p.l (let z : p.l ≤ p.l + i = omega arith in z) in
      let s : p.l + i - p.l ≡ i = omega arith in
      sampled-total (had false).second i (p.l + i) (λ (t : ℕ) ht. w.second i t hi ht) (rw (e, s) refl)
      (λ (t j : ℕ) (ht : t < p.rep) (hj : j < p.shares). seeded-second p u.coins.noise a (uw-low u p is h) i t j x hi ht hj hx)

  module _ (la : a < u.attempts) where
    -- the first l polynomials, and the k behind them
    pub first-at : (i : ℕ) → i < p.l → get_or (noise_total p.shares (noise_of p u a).reps (noise_of p u a).first i) x 0 ≡ noise_total_at p u a i x
    unfolding noise_total_at noise_at
    first-at i hi = first_by u.coins.explicit (good u p is h a la) i hi

    pub second_at : (i : ℕ) → i < p.k → get_or (noise_total p.shares (noise_of p u a).reps (noise_of p u a).second i) x 0 ≡ noise_total_at p u a (p.l + i) x
    unfolding noise_total_at noise_at
    second_at i hi = second-by u.coins.explicit (good u p is h a la) i hi
