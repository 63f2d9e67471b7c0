-- ChalHash and ChalPoly (000, Algorithms 9 and 10; 01, "Streams and shares"). The edition decides the order of w and mu, and which bit means -1.
use Rattle.std.specs.Prelude.{Bool, List, [], ◌∷◌, ◌++◌, ℕ, zero, suc, min, ◌+◌, ◌*◌, ◌/◌, ◌%◌, eqb, ℤ, pos, negsuc, length, get_or, set, replicate, Result}
use Rattle.std.proofs.Math.Option.{Option, some, none}
use Rattle.hash.specs.Lists.{pick}
use Rattle.hash.specs.Params.{lookup_of}
use Rattle.hash.specs.Shake.{shake256}
use Rattle.hash.specs.declared.params.Edition.{Edition}
use Rattle.hash.specs.declared.params.Params.{Params}
use Rattle.hash.specs.declared.params.Unknown.{Unknown}
use Rattle.ring.specs.Checks.{first_no, polynomial_sized, filled, sample_leaves}
use Rattle.signature.specs.Outcome.{set_known, found_in}

-- ---- Algorithm 10 over a stream of bytes

-- draw number n: two bytes, the lower first; bit 0 is the sign, bits 1 to 9 the position
abbrev pub chal_draw : List ℕ → ℕ → ℕ
chal_draw s n = get_or s (n * 2) 0 + get_or s (n * 2 + 1) 0 * 256

abbrev pub place : ℕ → ℕ
place d = d / 2 % 512

-- the bit that means -1: 1 as printed, (-1)^b0; 0 in the response files
abbrev pub minus_bit : Edition → ℕ
minus_bit Edition.Printed = 1
minus_bit Edition.Kat = 0

abbrev pub sign : Edition → ℕ → ℤ
sign e d = pick (eqb (d % 2) (minus_bit e)) (negsuc 0) (pos 1)

-- 1 where z is not 0; how many coefficients are not 0
abbrev pub nz : ℤ → ℕ
nz (pos zero) = 0
nz (pos (suc n)) = 1
nz (negsuc n) = 1

unfoldable pub weight : List ℤ → ℕ
weight [] = 0
weight (z ∷ c) = nz z + weight c

-- a draw on a free position sets it; on a taken one it is dropped
unfoldable pub step : Edition → List ℤ → ℕ → List ℤ
step e c d = pick (eqb (nz (get_or c (place d) (pos 0))) 0) (set c (place d) (sign e d)) c

-- the polynomial after n draws of the stream s, for weight w
unfoldable pub run : Edition → List ℕ → ℕ → ℕ → List ℤ
run e s w zero = replicate 512 (pos 0)
run e s w (suc n) = pick (eqb (weight (run e s w n)) w) (run e s w n) (step e (run e s w n) (chal_draw s n))

-- how many draws n bytes give: at most 1,088
abbrev pub chal_draws : ℕ → ℕ
chal_draws n = min 1088 (n / 2)

-- the challenge polynomial of a stream, if w positions are taken in time (check 11)
unfoldable pub challenge : Edition → ℕ → List ℕ → Option (List ℤ)
challenge e w s = pick (eqb (weight (run e s w (chal_draws (length s)))) w) (some (run e s w (chal_draws (length s)))) none

-- the header of eight bytes: a letter and a number
abbrev pub headed : ℕ → ℕ → List ℕ
headed a n = a ∷ n ∷ 0 ∷ 0 ∷ 0 ∷ 0 ∷ 0 ∷ 0 ∷ []

-- Algorithm 10, of 'c' and omega: 1,088 draws are 2176 bytes, 16 blocks
unfoldable pub chal_poly : Params → List ℕ → Option (List ℤ)
chal_poly p hash = challenge p.edition p.omega (shake256 (headed 99 p.omega ++ hash) 2176)

-- ---- Algorithm 9, of 'h' and k: w is the rounded commitment, one byte a coefficient

abbrev pub ordered : Edition → List ℕ → List ℕ → List ℕ
ordered Edition.Printed w mu = w ++ mu
ordered Edition.Kat w mu = mu ++ w

unfoldable pub chal_hash : Params → List ℕ → List ℕ → List ℕ
chal_hash p w mu = shake256 (headed 104 p.k ++ ordered p.edition w mu) (p.kappa / 4)

-- ---- the sampler over lent bytes: s is the look-up's answer, with any share count, on which nothing here depends; p is the record found in it

abbrev pub challenge_checks : Result Params Unknown → Params → List ℕ → List ℤ → List (ℕ × Bool)
challenge_checks s p bytes out = (1, set_known s) ∷ (8, polynomial_sized out) ∷ (11, filled (challenge p.edition p.omega bytes)) ∷ []

-- the status, and what out holds afterwards
unfoldable pub sampled_challenge : ℕ → List ℕ → List ℤ → ℕ × List ℤ
sampled_challenge set bytes out =
    let s = lookup_of set 1 Edition.Printed in
    let p = found_in s in
    sample_leaves (first_no (challenge_checks s p bytes out)) (challenge p.edition p.omega bytes) out
