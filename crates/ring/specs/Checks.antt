-- The checks put to a call (01, "Questions put to a call"): the first no decides, and its number is the status. Those of a sampler.
use Rattle.std.specs.Prelude.{Bool, true, false, List, [], ◌∷◌, ℕ, zero, suc, eqb, length}
use Rattle.std.proofs.Math.Option.{Option, some, none}
use Rattle.hash.specs.Lists.{pick}

-- checks, each by its number and its answer: the number of the first no, 0 where all are yes
abbrev pub first_no : List (ℕ × Bool) → ℕ
first_no [] = 0
first_no (c ∷ cs) = pick c.1 (first_no cs) c.0

abbrev pub both : Bool → Bool → Bool
both a b = pick a b false

-- 8, for a sampler: is the result buffer exactly 512 coefficients?
abbrev pub polynomial_sized : {A : Type 0} → List A → Bool
polynomial_sized out = eqb (length out) 512

-- 10 and 11: did the draws fill it? A sampler gives none where they did not
unfoldable pub filled : {A : Type 0} → Option (List A) → Bool
filled none = false
filled (some a) = true

-- what is held where they did, else xs
abbrev pub held_or : {A : Type 0} → Option (List A) → List A → List A
held_or none xs = xs
held_or (some f) xs = f

-- what a result buffer holds after status n: with 0 the result, else what it held
abbrev pub written : {A : Type 0} → ℕ → List A → List A → List A
written zero result out = result
written (suc n) result out = out

-- a sampler's status, and what its result buffer holds afterwards
abbrev pub sample_leaves : {A : Type 0} → ℕ → Option (List A) → List A → ℕ × List A
sample_leaves n f out = (n, written n (held_or f []) out)
