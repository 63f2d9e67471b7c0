-- Tests that antt computes over a whole table, and the law that turns one into the rule at each entry.
use mathlib.Core.Path.{◌≡◌, sym, subst}
use mathlib.Core.Bool.{Bool, true, false}
use mathlib.Core.List.{List, [], ◌∷◌}
use Prim.Native.Nat.{ℕ, zero, suc, ◌<◌}
use native.Mathlib.Decide.{ℕ_discrete}
use native.Mathlib.Nat.{not-suc-le-zero}
use native.Mathlib.Omega.{arith}
use lib.Dec.{T}

abbrev pub conj : Bool → Bool → Bool
conj true b = b
conj false b = false

pub conj-left : (a b : Bool) → T (conj a b) → T a
conj-left true b t = tt
conj-left false b t = t

pub conj-right : (a b : Bool) → T (conj a b) → T b
conj-right true b t = t
conj-right false b t = absurd t

-- the test f passes at each number below n
unfoldable pub below : (ℕ → Bool) → ℕ → Bool
below f zero = true
below f (suc n) = conj (f n) (below f n)

pub at : (f : ℕ → Bool) (n : ℕ) → T (below f n) → (k : ℕ) → k < n → T (f k)
unfolding below
at f zero t k h = absurd (not-suc-le-zero h)
at f (suc n) t k h = choose (at f n (conj-right (f n) (below f n) t) k) (ℕ_discrete k n)
  where
    choose : (k < n → T (f k)) → Dec (k ≡ n) → T (f k)
    choose r (yes e) = subst (λ (x : ℕ). T (f x)) (sym e) (conj-left (f n) (below f n) t)
    choose r (no ne) = r (omega arith)

-- a list of tests, all of which pass, and test number i of it
abbrev pub all_of : List Bool → Bool
all_of [] = true
all_of (b ∷ bs) = conj b (all_of bs)

abbrev pub test_at : List Bool → ℕ → Bool
test_at [] i = true
test_at (b ∷ bs) zero = b
test_at (b ∷ bs) (suc i) = test_at bs i

pub pass : (bs : List Bool) → T (all_of bs) → (i : ℕ) → T (test_at bs i)
pass [] t i = tt
pass (b ∷ bs) t zero = conj-left b (all_of bs) t
pass (b ∷ bs) t (suc i) = pass bs (conj-right b (all_of bs) t) i
