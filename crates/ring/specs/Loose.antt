-- Steps (what the code leaves on its way; no call's contract reaches these): residues modulo p returned loosely (02, #109), congruent to the
-- least one and below so many primes, and how many these are at each level of the transform. No layer above cites this file.
use Rattle.std.specs.Prelude.{◌≡◌, List, ℕ, suc, ◌+◌, ◌*◌, ◌-◌, ◌%◌, ◌/◌, ◌^◌, ◌<◌, ◌≤◌, length}
use Rattle.ring.specs.Words.{Below}
use Rattle.ring.specs.Residue.{up, down, join, part, mods}

-- r, returned loosely (02, #109), stands for the least residue x: congruent to it, and below n primes; a product is below two
pub record Loose (p n x r : ℕ) : Type 0 where
  pub low : r < n * p
  pub same : r % p ≡ x

-- .. place by place
pub record LooseList (p n : ℕ) (xs rs : List ℕ) : Type 0 where
  pub low : Below (n * p) rs
  pub same : mods p rs ≡ xs

-- a butterfly of the transform (Cooley and Tukey): x + w y and x - w y, each at most two primes above x
pub record CooleyTukey (p w x y sum diff : ℕ) : Type 0 where
  pub sum_is : sum % p ≡ up p w (x % p) (y % p)
  pub diff_is : diff % p ≡ down p w (x % p) (y % p)
  pub sum_low : sum ≤ x + 2 * p
  pub diff-low : diff ≤ x + 2 * p

-- a butterfly of the inverse (Gentleman and Sande): x + y as it is, and w (y - x) below two primes
pub record GentlemanSande (p w x y sum diff : ℕ) : Type 0 where
  pub sum_is : sum % p ≡ join p (x % p) (y % p)
  pub diff_is : diff % p ≡ part p w (x % p) (y % p)
  pub sum_low : sum ≤ x + y
  pub diff-low : diff < 2 * p

-- b is made of a: F of its rests, and if the entries of a are below m, p at the least, those of b are below g m
pub record Stepped (p : ℕ) (F : List ℕ → List ℕ) (g : ℕ → ℕ) (a b : List ℕ) : Type 0 where
  pub same : mods p b ≡ F (mods p a)
  pub low : (m : ℕ) → p ≤ m → Below m a → Below (g m) b

-- how many primes entries stay below: forth, where a block of 2^d begins; each level adds two, from 2 to 20
abbrev pub forth_range : ℕ → ℕ
forth_range d = 20 - 2 * d

-- .. and back, where a block of 2^d ends; each level doubles, and the fifth ends reduced: 1, 2, 4, 8, 16, 2, 4, 8, 16, 32
unfoldable pub back_range : ℕ → ℕ
back_range d = 2 ^ (d / 5 + d % 5)

-- a block of 2^d entries below m at node k of the tree with 512 leaves
pub record Block (m d k : ℕ) (a : List ℕ) : Type 0 where
  pub long : length a ≡ 2 ^ d
  pub inside : suc k * 2 ^ d ≤ 1024
  pub low : Below m a
