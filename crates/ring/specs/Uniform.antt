-- Uniform polynomials: 49-bit draws of seven bytes each, of which those below q are kept (000, Algorithm 5; 01, "Streams and shares").
use Rattle.std.specs.Prelude.{ℕ, zero, suc, min, ◌+◌, ◌*◌, ◌/◌, ◌%◌, ◌^◌, Bool, true, false, List, [], ◌∷◌, ◌++◌, length, get_or, take, ltb, leb}
use Rattle.std.proofs.Math.Option.{Option, some, none}
use Rattle.hash.specs.Lists.{pick}
use Rattle.hash.specs.Shake.{shake256}
use Rattle.hash.specs.Endian.{le}
use Rattle.ring.specs.Words.{q}
use Rattle.ring.specs.Checks.{first_no, polynomial_sized, filled, sample_leaves}

-- draw number n of the bytes s: the low 49 bits of seven bytes, the lowest first
unfoldable pub draw : List ℕ → ℕ → ℕ
draw s n = le (λ (j : ℕ). get_or s (7 * n + j) 0) 7 % 2 ^ 49

-- a draw is kept where it is below q
abbrev pub keep : Bool → ℕ → List ℕ
keep true d = d ∷ []
keep false d = []

-- those of the first n draws that are kept, in order
unfoldable pub kept : List ℕ → ℕ → List ℕ
kept s zero = []
kept s (suc n) = kept s n ++ keep (ltb (draw s n) q) (draw s n)

-- how many draws a polynomial may take of n bytes: at most 777
abbrev pub draws : ℕ → ℕ
draws n = min 777 (n / 7)

-- the polynomial that the bytes s give: the first 512 draws kept, if there are as many (check 10)
unfoldable pub uniform : List ℕ → Option (List ℕ)
uniform s = pick (leb 512 (length (kept s (draws (length s))))) (some (take 512 (kept s (draws (length s))))) none

-- Algorithm 5, SampleQ, of a header of eight bytes and a seed: 777 draws are 5439 bytes
unfoldable pub sample_q : List ℕ → List ℕ → Option (List ℕ)
sample_q hdr seed = uniform (shake256 (hdr ++ seed) 5439)

-- the sampler over lent bytes: checks 8 and 10
abbrev pub uniform_checks : List ℕ → List ℕ → List (ℕ × Bool)
uniform_checks s out = (8, polynomial_sized out) ∷ (10, filled (uniform s)) ∷ []

-- its status, and what out holds afterwards
unfoldable pub sampled_of : List ℕ → List ℕ → ℕ × List ℕ
sampled_of s out = sample_leaves (first_no (uniform_checks s out)) (uniform s) out
