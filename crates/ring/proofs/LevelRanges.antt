-- How wide the entries grow, level by level, for any prime: back and forth.
use mathlib.Core.Path.{◌≡◌, ap, sym, ◌∙◌, subst}
use mathlib.Core.Logic.{◌≢◌}
use mathlib.Core.List.{List}
use Prim.Native.Nat.{ℕ, ◌+◌, ◌*◌, ◌-◌, ◌/◌, ◌%◌, ◌^◌, ◌<◌, ◌≤◌}
use native.Mathlib.Nat.{le_refl, mul-le-mul}
use native.Mathlib.Omega.{arith}
use lib.Pow.{pow_pos, pow_mono}
use lib.ListN.{get_or}
use Rattle.ring.specs.Words.{Below}
use Rattle.ring.specs.Loose.{LooseList, Stepped, forth_range, back_range}
use Rattle.ring.proofs.Sums.{below_at, below_wider}
use Rattle.ring.proofs.Inverse.{pow-two}

-- entries below n primes are below any more of them
pub wider : (p n m : ℕ) → n ≤ m → (xs : List ℕ) → Below (n * p) xs → Below (m * p) xs
wider p n m l xs h = below_wider (n * p) (m * p) (mul-le-mul l (le_refl p)) xs h

-- an entry of such a list
pub low-at : (n : ℕ) {p : ℕ} → 0 < p → 0 < n → (xs : List ℕ) → Below (n * p) xs → (i : ℕ) → get_or xs i 0 < n * p
low-at n {p} pos o xs h i = below_at (n * p) (omega (arith, mul-le-mul o pos)) xs h i

-- a step whose bound is a multiple of p
at_least : (p n : ℕ) → 1 ≤ n → p ≤ n * p
at_least p n l = omega (arith, mul-le-mul l (le_refl p))

-- ---- forth: two primes more at each level

module _ (p d : ℕ) (o : 0 < d) (l : d ≤ 9) (xs : List ℕ) (h : Below (forth_range d * p) xs) where
  pub forth-low : Below (32 * p) xs
  forth-low = wider p (forth_range d) 32 (omega arith) xs h

  pub forth-more : (F : List ℕ → List ℕ) (ys : List ℕ) → Stepped p F (λ (m : ℕ). m + 2 * p) xs ys → Below (forth_range (d - 1) * p) ys
  forth-more F ys s =
      let n : 20 - 2 * d + 2 ≡ 20 - 2 * (d - 1) = omega arith in
      let t : (20 - 2 * d) * p + 2 * p ≡ (20 - 2 * d + 2) * p = omega arith in
      subst (λ (m : ℕ). Below m ys) (t ∙ ap (λ (x : ℕ). x * p) n) (s.low ((20 - 2 * d) * p) (at_least p (20 - 2 * d) (omega arith)) h)

-- ---- back: twice as many, and two where the fifth level is reduced

back-pos : (d : ℕ) → 0 < back_range d
unfolding back_range
back-pos d = pow_pos (d / 5 + d % 5)

back-at-most : (d : ℕ) → d < 9 → back_range d ≤ 16
unfolding back_range
back-at-most d l =
    let e : d / 5 + d % 5 ≤ 4 = omega arith in
    pow_mono e

back-twice : (d : ℕ) → 0 < d → d ≢ 5 → d ≤ 9 → 2 * back_range (d - 1) ≡ back_range d
unfolding back_range
back-twice d o n l = sym (ap (λ (x : ℕ). 2 ^ x) (omega arith) ∙ pow-two ((d - 1) / 5 + (d - 1) % 5))

module _ (p d : ℕ) (o : 0 < d) (l : d ≤ 9) (xs : List ℕ) (h : Below (back_range (d - 1) * p) xs) where
  pub back_low : Below (16 * p) xs
  back_low = wider p (back_range (d - 1)) 16 (back-at-most (d - 1) (omega arith)) xs h

  module _ (F : List ℕ → List ℕ) (ys : List ℕ) (s : Stepped p F (λ (m : ℕ). 2 * m) xs ys) where
    pub merged-low : Below (32 * p) ys
    merged-low = subst (λ (m : ℕ). Below m ys) (omega arith) (s.low (16 * p) (omega arith) back_low)

    pub back_more : d ≢ 5 → Below (back_range d * p) ys
    back_more n =
        let t : 2 * (back_range (d - 1) * p) ≡ (2 * back_range (d - 1)) * p = omega arith in
        subst (λ (m : ℕ). Below m ys) (t ∙ ap (λ (x : ℕ). x * p) (back-twice d o n l))
        (s.low (back_range (d - 1) * p) (at_least p (back_range (d - 1)) (back-pos (d - 1))) h)

pub back-five : (p d : ℕ) (ys : List ℕ) → d ≡ 5 → Below (2 * p) ys → Below (back_range d * p) ys
unfolding back_range
back-five p d ys e h = subst (λ (x : ℕ). Below (back_range x * p) ys) (sym e) h

-- two levels at once, and all nine
pub back-two : (p : ℕ) (f xs : List ℕ) → LooseList p 4 f xs → LooseList p (back_range 2) f xs
unfolding back_range
back-two p f xs h = h

pub back-nine : (p : ℕ) (xs : List ℕ) → Below (back_range 9 * p) xs → Below (32 * p) xs
unfolding back_range
back-nine p xs h = h
