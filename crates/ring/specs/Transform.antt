-- The number theoretic transform of R_q (000, 2.7.1).
use Rattle.std.specs.Prelude.{List, ℕ, ◌+◌, ◌*◌, ◌%◌, ◌^◌}
use Rattle.hash.specs.Lists.{table}
use Rattle.ring.specs.declared.prime.Prime.{Prime}
use Rattle.ring.specs.Words.{q}
use Rattle.ring.specs.Poly.{eval, map2, prod}
use Rattle.ring.specs.Residue.{rev, prime, mods, back_one, crt_of}

-- the subgroup generator (2.7.2), and z_i, its odd powers in the order of the reversed index
abbrev pub g : ℕ
g = 358453792785495

unfoldable pub root : ℕ → ℕ
root i = g ^ (2 * rev 9 i + 1) % q

-- NTT: f^_i = f(z_i)
unfoldable pub ntt : List ℕ → List ℕ
ntt f = table (λ (i : ℕ). eval f (root i) % q) 512

-- its inverse: the one polynomial of 512 words whose transform is x, as the contract of `poly::intt` promises (theorem `ntt-intt`; that
-- there is no other: `intt-ntt`)
unfoldable pub intt : List ℕ → List ℕ
intt x = map2 crt_of (back_one Prime.Second (mods (prime Prime.Second) x)) (back_one Prime.First (mods (prime Prime.First) x))

-- the pointwise product f^ o g^
unfoldable pub pointwise : List ℕ → List ℕ → List ℕ
pointwise a b = map2 (λ (x : ℕ) (y : ℕ). (x * y) % q) a b

-- the product of the ring
unfoldable pub mul : List ℕ → List ℕ → List ℕ
mul f h = prod q f h
