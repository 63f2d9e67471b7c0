-- Steps (what the code leaves on its way; no call's contract reaches these): residues kept apart (000, 2.7.2: q = q1 q2; a residue number system).
-- Words of two residues, the one modulo q2 above the one modulo q1, and what numbers below q they stand for. Residues are loose (02, #109), below
-- 2^30 as 32 primes are, so that 15 products of two, not reduced, fit a word with room for one more.
use Rattle.std.specs.Prelude.{◌≡◌, List, ℕ, ◌+◌, ◌*◌, ◌%◌, ◌/◌, ◌^◌}
use Rattle.ring.specs.declared.prime.Prime.{Prime}
use Rattle.ring.specs.Words.{Residues}
use Rattle.ring.specs.Poly.{map_n, map2}
use Rattle.ring.specs.Residue.{prime, mods, crt_of}
use Rattle.ring.specs.Transform.{pointwise}

-- the residue modulo a prime that a word of two holds
abbrev pub residue_in : Prime → ℕ → ℕ
residue_in Prime.Second x = x / 2 ^ 30
residue_in Prime.First x = x % 2 ^ 30

-- the numbers below q of residues modulo q2, in hi, and modulo q1, in lo, or of sums of them
unfoldable pub recombined : List ℕ → List ℕ → List ℕ
recombined hi lo = map2 crt_of (mods (prime Prime.Second) hi) (mods (prime Prime.First) lo)

-- .. of words of two
unfoldable pub words_of : List ℕ → List ℕ
words_of xs = recombined (map_n (residue_in Prime.Second) xs) (map_n (residue_in Prime.First) xs)

-- products of residues modulo one prime, place by place, not reduced
abbrev pub times_in : Prime → ℕ → ℕ → ℕ
times_in s y z = residue_in s y * residue_in s z

-- a multiple of the prime that is above all of them, to subtract them from
abbrev pub multiple : Prime → ℕ
multiple Prime.Second = 34630286449 * prime Prime.Second
multiple Prime.First = 69810257854 * prime Prime.First

-- a step on the sums hi and lo: h of what they stand for and of the product of a and x; what was below m is below m + n
pub record Accrued (h : List ℕ → List ℕ → List ℕ) (n : ℕ) (a x hi lo hi' lo' : List ℕ) : Type 0 where
  pub same : recombined hi' lo' ≡ h (recombined hi lo) (pointwise (words_of a) (words_of x))
  pub low : (m : ℕ) → Residues m 512 hi → Residues m 512 lo → Residues (m + n) 512 hi' × Residues (m + n) 512 lo'
