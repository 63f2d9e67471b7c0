-- CheckBounds settled early (02, #112): hint, then response, coefficient by coefficient, to the first that is above its limit or lifts the
-- running sum of squares above its own. Its yes or no is that of Algorithm 4, and what it reads is the least that decides
-- (proofs/Decision.antt).
use Rattle.std.specs.Prelude.{Bool, true, false, List, [], ◌∷◌, ℕ, ◌+◌, ◌-◌, ◌*◌, ◌/◌, ◌^◌, leb, ℤ, nat_abs, length, take}
use Rattle.hash.specs.Lists.{pick}
use Rattle.ring.specs.Checks.{both}
use Rattle.signature.specs.Bounds.{bounds_of}
use Rattle.signature.specs.declared.bounds.Decision.{Decision}
use Rattle.signature.specs.declared.bounds.Standing.{Standing}

-- whether no coefficient decided, how many were read, and the sum of squares of those that passed
abbrev pub standing_of : Bool → ℕ → ℕ → Standing
standing_of b n sum = record { passed = b; coefficients = n; sum = sum }

-- what an absolute value m adds to the sum: s * ⌊m / 2^v⌋^2
abbrev pub square_of : ℕ → ℕ → ℕ → ℕ
square_of s v m = s * (m / 2 ^ v * (m / 2 ^ v))

-- one coefficient c more: is it within its limit, and the sum with it not above all?
abbrev pub count_in : ℕ → ℕ → ℕ → ℕ → Standing → ℤ → Standing
count_in limit s v all t c =
    let sum = t.sum + square_of s v (nat_abs c) in
    let n = t.coefficients + 1 in
    pick (both (leb (nat_abs c) limit) (leb sum all)) (standing_of true n sum) (standing_of false n t.sum)

-- through a list, to the first that decides
unfoldable pub measured : ℕ → ℕ → ℕ → ℕ → Standing → List ℤ → Standing
measured limit s v all t [] = t
measured limit s v all t (c ∷ cs) = pick t.passed (measured limit s v all (count_in limit s v all t c) cs) t

-- the hint (lines 3 and 5), then the response (lines 4 and 6), against one sum (line 7)
unfoldable pub decided : ℕ → ℕ → ℕ → List ℤ → List ℤ → Decision
decided limit most all h z =
    let t = measured most 1 32 all (measured limit (2 ^ 24) 0 all (standing_of true 0 0) h) z in
    record { passed = t.passed; coefficients = t.coefficients }

-- Algorithm 4 of the first n coefficients
abbrev pub bounds_of_first : ℕ → ℕ → ℕ → ℕ → List ℤ → List ℤ → Bool
bounds_of_first n limit most all h z = bounds_of limit most all (take n h) (take (n - length h) z)
