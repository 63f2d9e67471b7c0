-- Laws of the measure of one list (02, #112): coefficient by coefficient, and how it ends.
use Prim.Native.Nat.{ℕ, min, zero, suc, ◌+◌, ◌*◌, ◌/◌, ◌^◌, ◌≤◌, ◌<◌}
use mathlib.Core.Path.{◌≡◌, refl, sym, ap, ◌∙◌}
use mathlib.Core.Bool.{Bool, true, false}
use mathlib.Core.List.{List, [], ◌∷◌}
use lib.IntN.{ℤ, pos, nat_abs}
use lib.ListN.{length, get_or, take, drop, drop_of_length-le}
use lib.Seq.{drop-cons}
use lib.Dec.{leb}
use borrow.Author.Tests.{le-leb, lt-leb, leb-true, leb-false}
use Rattle.hash.specs.Lists.{pick}
use lib.Pow.{shr_mono}
use native.Mathlib.Nat.{mul-le-mul, mul-add, not-suc-le-zero, le_of_suc-le-suc}
use native.Mathlib.Omega.{arith}
use native.Mathlib.Decide.{dec_lt}
use Rattle.ring.specs.Checks.{both}
use Rattle.ring.proofs.Checks.{absurd-bool, both_true, both_yes, left-no, right-no}
use Rattle.signature.specs.Bounds.{within, squares}
use Rattle.signature.specs.declared.bounds.Standing.{Standing}
use Rattle.signature.specs.Decision.{standing_of, square_of, count_in, measured}

module _ (limit s v all : ℕ) where
  -- what is added stays within that of the limit
  pub square_le : (m : ℕ) → m ≤ limit → (m / 2 ^ v * (m / 2 ^ v) ≤ limit / 2 ^ v * (limit / 2 ^ v)) × (square_of s v m ≤ square_of s v limit)
  square_le m h =
      let r = mul-le-mul (shr_mono v h) (shr_mono v h) in
      let k : s ≤ s = omega arith in
      (r, mul-le-mul k r)

  -- ---- one coefficient more

  module _ (t : Standing) (c : ℤ) where
    -- what decides: within its limit, and the sum with it not above all
    abbrev passes : Bool
    passes = both (leb (nat_abs c) limit) (leb (t.sum + square_of s v (nat_abs c)) all)

    pub count-passed : nat_abs c ≤ limit → t.sum + square_of s v (nat_abs c) ≤ all
        → count_in limit s v all t c ≡ standing_of true (t.coefficients + 1) (t.sum + square_of s v (nat_abs c))
    count-passed h k = rw (le-leb _ _ h, le-leb _ _ k)

    count-decided : passes ≡ false → count_in limit s v all t c ≡ standing_of false (t.coefficients + 1) t.sum
    count-decided e = rw e

    pub count-limit : limit < nat_abs c → count_in limit s v all t c ≡ standing_of false (t.coefficients + 1) t.sum
    count-limit h = count-decided (left-no _ (lt-leb _ _ h))

    pub count-sum : all < t.sum + square_of s v (nat_abs c) → count_in limit s v all t c ≡ standing_of false (t.coefficients + 1) t.sum
    count-sum k = count-decided (right-no (leb (nat_abs c) limit) (lt-leb _ _ k))

    pub count-sum-low : t.sum ≤ all → (count_in limit s v all t c).sum ≤ all
    count-sum-low h = go passes refl
      where
        go : (b : Bool) → passes ≡ b
            → (pick b (standing_of true (t.coefficients + 1) (t.sum + square_of s v (nat_abs c))) (standing_of false (t.coefficients + 1) t.sum)).sum ≤ all
        go true e = leb-true _ _ (both_true (leb (nat_abs c) limit) _ e).1
        go false e = h

    pub count-one : (count_in limit s v all t c).coefficients ≡ t.coefficients + 1
    count-one = go passes
      where
        go : (b : Bool)
            → (pick b (standing_of true (t.coefficients + 1) (t.sum + square_of s v (nat_abs c))) (standing_of false (t.coefficients + 1) t.sum)).coefficients ≡ t.coefficients + 1
        go true = refl
        go false = refl

  -- ---- through a list

  -- a standing that is decided stays
  pub measured-stays : (t : Standing) (cs : List ℤ) → t.passed ≡ false → measured limit s v all t cs ≡ t
  unfolding measured
  measured-stays t [] e = refl
  measured-stays t (c ∷ cs) e = rw e

  -- one that is not goes on with the next coefficient
  measured-on : (t : Standing) (c : ℤ) (cs : List ℤ) → t.passed ≡ true → measured limit s v all t (c ∷ cs) ≡ measured limit s v all (count_in limit s v all t c) cs
  unfolding measured
  measured-on t c cs e = rw e

  pub measured-on-at : (t : Standing) (cs : List ℤ) (i : ℕ) → i < length cs → t.passed ≡ true
      → measured limit s v all t (drop i cs) ≡ measured limit s v all (count_in limit s v all t (get_or cs i (pos 0))) (drop (i + 1) cs)
  measured-on-at t cs i h e =
      let n : suc i ≡ i + 1 = omega arith in
      ap (measured limit s v all t) (drop-cons cs i (pos 0) h) ∙ measured-on t (get_or cs i (pos 0)) (drop (suc i) cs) e
      ∙ ap (λ (j : ℕ). measured limit s v all (count_in limit s v all t (get_or cs i (pos 0))) (drop j cs)) n

  -- and ends behind the last
  pub measured-end : (t : Standing) (cs : List ℤ) (i : ℕ) → length cs ≤ i → measured limit s v all t (drop i cs) ≡ t
  unfolding measured
  measured-end t cs i h = rw (drop_of_length-le cs {i = i} h)

  -- the sum is not above all, nor the number above that of all coefficients
  pub measured-low : (t : Standing) (cs : List ℤ) → t.sum ≤ all → (measured limit s v all t cs).sum ≤ all
  unfolding measured
  measured-low t [] h = h
  measured-low t (c ∷ cs) h = go t.passed (measured-low (count_in limit s v all t c) cs (count-sum-low t c h))
    where
      go : (b : Bool) → (measured limit s v all (count_in limit s v all t c) cs).sum ≤ all → (pick b (measured limit s v all (count_in limit s v all t c) cs) t).sum ≤ all
      go true k = k
      go false k = h

  pub measured-count : (t : Standing) (cs : List ℤ) → (measured limit s v all t cs).coefficients ≤ t.coefficients + length cs
  unfolding measured
  measured-count t [] = omega arith
  measured-count t (c ∷ cs) = go t.passed (omega (arith, measured-count (count_in limit s v all t c) cs, count-one t c))
    where
      go : (b : Bool) → (measured limit s v all (count_in limit s v all t c) cs).coefficients ≤ t.coefficients + suc (length cs)
          → (pick b (measured limit s v all (count_in limit s v all t c) cs) t).coefficients ≤ t.coefficients + suc (length cs)
      go true k = k
      go false k = omega arith

-- a limit that none can reach but above the sum
module _ (limit top s v all : ℕ) (h : top ≤ limit) (f : (m : ℕ) → top < m → all < square_of s v m) where
  count-top : (t : Standing) (c : ℤ) → count_in limit s v all t c ≡ count_in top s v all t c
  count-top t c = go (leb (nat_abs c) top) refl
    where
      go : (b : Bool) → leb (nat_abs c) top ≡ b → count_in limit s v all t c ≡ count_in top s v all t c
      go true e = rw (e, le-leb (nat_abs c) limit (omega (arith, h, leb-true (nat_abs c) top e)))
      go false e =
          let k = leb-false (nat_abs c) top e in
          count-sum limit s v all t c (omega (arith, f (nat_abs c) k)) ∙ sym (count-limit top s v all t c k)

  pub measured-top : (t : Standing) (cs : List ℤ) → measured limit s v all t cs ≡ measured top s v all t cs
  unfolding measured
  measured-top t [] = refl
  measured-top t (c ∷ cs) =
      ap (λ (r : Standing). pick t.passed r t) (ap (λ (r : Standing). measured limit s v all r cs) (count-top t c) ∙ measured-top (count_in top s v all t c) cs)

-- the hint's: 2^24 times the square of 2^20 is above any sum of 64 bits
hint-above : (all : ℕ) → all < 2 ^ 64 → (m : ℕ) → 1048575 < m → all < square_of (2 ^ 24) 0 m
hint-above all h m k =
    let l : 1048576 ≤ m / 2 ^ 0 = omega arith in
    omega (arith, h, mul-le-mul l l)

-- so that a limit above 2^20 - 1 tells the same as 2^20 - 1
pub hint-capped : (limit all : ℕ) → all < 2 ^ 64 → (t : Standing) (cs : List ℤ) → measured (min limit 1048575) (2 ^ 24) 0 all t cs ≡ measured limit (2 ^ 24) 0 all t cs
hint-capped limit all h t cs = go (dec_lt limit 1048575)
  where
    go : Dec (limit < 1048575) → measured (min limit 1048575) (2 ^ 24) 0 all t cs ≡ measured limit (2 ^ 24) 0 all t cs
    go (yes l) =
        let e : min limit 1048575 ≡ limit = omega arith in
        ap (λ (n : ℕ). measured n (2 ^ 24) 0 all t cs) e
    go (no l) =
        let e : min limit 1048575 ≡ 1048575 = omega (arith, l) in
        ap (λ (n : ℕ). measured n (2 ^ 24) 0 all t cs) e ∙ sym (measured-top limit 1048575 (2 ^ 24) 0 all (omega (arith, l)) (hint-above all h) t cs)

-- ---- how it ends

-- no coefficient is above the limit, and the sum with all of them not above its own
abbrev pub Fit : ℕ → ℕ → ℕ → ℕ → ℕ → List ℤ → Type 0
Fit limit s v all sum cs = (within limit cs ≡ true) × (sum + s * squares v cs ≤ all)

-- coefficient `place` decided
pub record Stopped (limit s v all : ℕ) (cs : List ℤ) (n sum : ℕ) (r : Standing) : Type 0 where
  pub place : ℕ
  pub inside : place < length cs
  pub count : r.coefficients ≡ n + suc place
  pub before : (m : ℕ) → m ≤ place → Fit limit s v all sum (take m cs)
  pub over : Fit limit s v all sum (take (suc place) cs) → ⊥

module _ (limit s v all : ℕ) where
  fit_none : (sum : ℕ) → sum ≤ all → Fit limit s v all sum []
  unfolding within squares
  fit_none sum h = (refl, omega arith)

  fit-cons : (c : ℤ) (cs : List ℤ) (sum : ℕ) → nat_abs c ≤ limit → Fit limit s v all (sum + square_of s v (nat_abs c)) cs → Fit limit s v all sum (c ∷ cs)
  unfolding within squares
  fit-cons c cs sum h f = (both_yes (le-leb _ _ h) f.0, rw mul-add (omega (arith, f.1)))

  fit-head : (c : ℤ) (cs : List ℤ) (sum : ℕ) → Fit limit s v all sum (c ∷ cs) → nat_abs c ≤ limit
  unfolding within
  fit-head c cs sum f = leb-true _ _ (both_true (leb (nat_abs c) limit) (within limit cs) f.0).0

  fit-tail : (c : ℤ) (cs : List ℤ) (sum : ℕ) → Fit limit s v all sum (c ∷ cs) → Fit limit s v all (sum + square_of s v (nat_abs c)) cs
  unfolding within squares
  fit-tail c cs sum f = let g = f.1 in
      ((both_true (leb (nat_abs c) limit) (within limit cs) f.0).1, omega (arith, rw mul-add at g))

  -- with the first coefficient: on, or decided
  module _ (c : ℤ) (cs : List ℤ) (n sum : ℕ) where
    first-passed : nat_abs c ≤ limit → sum + square_of s v (nat_abs c) ≤ all
        → measured limit s v all (standing_of true n sum) (c ∷ cs) ≡ measured limit s v all (standing_of true (n + 1) (sum + square_of s v (nat_abs c))) cs
    first-passed h k =
        measured-on limit s v all (standing_of true n sum) c cs refl
        ∙ ap (λ (t : Standing). measured limit s v all t cs) (count-passed limit s v all (standing_of true n sum) c h k)

    first-decides : passes limit s v all (standing_of true n sum) c ≡ false → measured limit s v all (standing_of true n sum) (c ∷ cs) ≡ standing_of false (n + 1) sum
    first-decides e =
        measured-on limit s v all (standing_of true n sum) c cs refl
        ∙ ap (λ (t : Standing). measured limit s v all t cs) (count-decided limit s v all (standing_of true n sum) c e)
        ∙ measured-stays limit s v all (standing_of false (n + 1) sum) cs refl

  -- a measure that passes has read all
  pub measured-yes : (cs : List ℤ) (n sum : ℕ) → sum ≤ all → (r : Standing) → r ≡ measured limit s v all (standing_of true n sum) cs → r.passed ≡ true
      → (r.coefficients ≡ n + length cs) × (r.sum ≡ sum + s * squares v cs) × Fit limit s v all sum cs
  unfolding measured squares
  measured-yes [] n sum h r e y = rw e (omega arith, omega arith, fit_none sum h)
  measured-yes (c ∷ cs) n sum h r e y = go (passes limit s v all (standing_of true n sum) c) refl (λ k. measured-yes cs (n + 1) (sum + square_of s v (nat_abs c)) k r)
    where
      Yes : ℕ → ℕ → List ℤ → Type 0
      Yes n sum cs = (r.coefficients ≡ n + length cs) × (r.sum ≡ sum + s * squares v cs) × Fit limit s v all sum cs

      go : (b : Bool) → passes limit s v all (standing_of true n sum) c ≡ b
          → (sum + square_of s v (nat_abs c) ≤ all → r ≡ measured limit s v all (standing_of true (n + 1) (sum + square_of s v (nat_abs c))) cs → r.passed ≡ true → Yes (n + 1) (sum + square_of s v (nat_abs c)) cs)
          → Yes n sum (c ∷ cs)
      go true b f =
          let a = both_true (leb (nat_abs c) limit) _ b in
          let l = leb-true (nat_abs c) limit a.0 in
          let k = leb-true (sum + square_of s v (nat_abs c)) all a.1 in
          let g = f k (e ∙ first-passed c cs n sum l k) y in
          (omega (arith, g.0), g.1 ∙ rw mul-add (omega arith), fit-cons c cs sum l g.2)
      go false b f = absurd-bool (sym y ∙ ap (λ (t : Standing). t.passed) (e ∙ first-decides c cs n sum b))

  -- and where it does not, a coefficient decided
  pub measured-no : (cs : List ℤ) (n sum : ℕ) → sum ≤ all → (r : Standing) → r ≡ measured limit s v all (standing_of true n sum) cs → r.passed ≡ false
      → Stopped limit s v all cs n sum r
  unfolding measured
  measured-no [] n sum h r e y = absurd-bool (sym (ap (λ (t : Standing). t.passed) e) ∙ y)
  measured-no (c ∷ cs) n sum h r e y = go (passes limit s v all (standing_of true n sum) c) refl (λ k. measured-no cs (n + 1) (sum + square_of s v (nat_abs c)) k r)
    where
      first : (m : ℕ) → m ≤ 0 → Fit limit s v all sum (take m (c ∷ cs))
      first zero l = fit_none sum h
      first (suc m) l = absurd (not-suc-le-zero l)

      fit-passes : Fit limit s v all sum (c ∷ []) → passes limit s v all (standing_of true n sum) c ≡ true
      fit-passes g =
          let k : sum + square_of s v (nat_abs c) ≤ all = omega (arith, (fit-tail c [] sum g).1) in
          both_yes (le-leb _ _ (fit-head c [] sum g)) (le-leb _ _ k)

      here : r ≡ standing_of false (n + 1) sum → (Fit limit s v all sum (c ∷ []) → ⊥) → Stopped limit s v all (c ∷ cs) n sum r
      here g o = record { place = 0; inside = omega arith; count = ap (λ (t : Standing). t.coefficients) g; before = first; over = o }

      ahead : nat_abs c ≤ limit → (p : ℕ) → ((m : ℕ) → m ≤ p → Fit limit s v all (sum + square_of s v (nat_abs c)) (take m cs)) → (m : ℕ) → m ≤ suc p → Fit limit s v all sum (take m (c ∷ cs))
      ahead l p f zero k = fit_none sum h
      ahead l p f (suc m) k = fit-cons c (take m cs) sum l (f m (le_of_suc-le-suc k))

      later : nat_abs c ≤ limit → Stopped limit s v all cs (n + 1) (sum + square_of s v (nat_abs c)) r → Stopped limit s v all (c ∷ cs) n sum r
      later l t =
          record {
            place = suc t.place;
            inside = omega (arith, t.inside);
            count = omega (arith, t.count);
            before = ahead l t.place t.before;
            over = λ f. t.over (fit-tail c (take (suc t.place) cs) sum f);
          }

      go : (b : Bool) → passes limit s v all (standing_of true n sum) c ≡ b
          → (sum + square_of s v (nat_abs c) ≤ all → r ≡ measured limit s v all (standing_of true (n + 1) (sum + square_of s v (nat_abs c))) cs → r.passed ≡ false → Stopped limit s v all cs (n + 1) (sum + square_of s v (nat_abs c)) r)
          → Stopped limit s v all (c ∷ cs) n sum r
      go true b f =
          let a = both_true (leb (nat_abs c) limit) _ b in
          let l = leb-true (nat_abs c) limit a.0 in
          let k = leb-true (sum + square_of s v (nat_abs c)) all a.1 in
          later l (f k (e ∙ first-passed c cs n sum l k) y)
      go false b f = here (e ∙ first-decides c cs n sum b) (λ g. absurd-bool (sym (fit-passes g) ∙ b))
