-- Inside the layer: the transform and its inverse modulo one prime, by halves (000, 2.7.2), and the number below q with two given rests.
-- No layer above cites this file.
use Rattle.std.specs.Prelude.{List, ◌++◌, ℕ, zero, suc, ◌+◌, ◌*◌, ◌-◌, ◌%◌, ◌/◌, ◌^◌, take, drop}
use Rattle.hash.specs.Lists.{table}
use Rattle.ring.specs.declared.prime.Prime.{Prime}
use Rattle.ring.specs.Poly.{map_n, map2}

-- the lowest b bits of k, in reverse (2.7.1)
unfoldable pub rev : ℕ → ℕ → ℕ
rev zero k = 0
rev (suc b) k = (k % 2) * 2 ^ b + rev b (k / 2)

-- the two primes, q = q1 q2, and g modulo each
abbrev pub prime : Prime → ℕ
prime Prime.First = 16515073
prime Prime.Second = 33292289

abbrev pub gen : Prime → ℕ
gen Prime.First = 12686483
gen Prime.Second = 11827776

-- 1 / 512 modulo the prime
abbrev pub over512 : Prime → ℕ
over512 Prime.First = 16482817
over512 Prime.Second = 33227265

-- the factor at node k of the tree of halves, 1 at its top, 2 k and 2 k + 1 below k; and the table of them
unfoldable pub power : ℕ → ℕ → ℕ → ℕ
power p g k = g ^ rev 9 k % p

abbrev pub zeta : Prime → ℕ → ℕ
zeta s k = power (prime s) (gen s) k

unfoldable pub powers : Prime → List ℕ
powers s = table (zeta s) 512

-- a + w b and a - w b
abbrev pub up : ℕ → ℕ → ℕ → ℕ → ℕ
up p w a b = (a + (w * b) % p) % p

abbrev pub down : ℕ → ℕ → ℕ → ℕ → ℕ
down p w a b = (a + (p - (w * b) % p)) % p

-- a + b and w (b - a)
abbrev pub join : ℕ → ℕ → ℕ → ℕ
join p a b = (a + b) % p

abbrev pub part : ℕ → ℕ → ℕ → ℕ → ℕ
part p w a b = (w * ((b + (p - a)) % p)) % p

-- both halves anew: h1 and h2 at the entries of each place
abbrev pub halves : (ℕ → ℕ → ℕ) → (ℕ → ℕ → ℕ) → ℕ → List ℕ → List ℕ
halves h1 h2 n f = map2 h1 (take n f) (drop n f) ++ map2 h2 (take n f) (drop n f)

-- the values of f, of 2^d coefficients, at the leaves below node k
unfoldable pub fwd : ℕ → (ℕ → ℕ) → ℕ → ℕ → List ℕ → List ℕ
fwd p z zero k f = f
fwd p z (suc d) k f =
    fwd p z d (2 * k) (map2 (up p (z k)) (take (2 ^ d) f) (drop (2 ^ d) f))
    ++ fwd p z d (2 * k + 1) (map2 (down p (z k)) (take (2 ^ d) f) (drop (2 ^ d) f))

-- .. and back, but for a factor 2^d; j is the node that mirrors k on its level
unfoldable pub bwd : ℕ → (ℕ → ℕ) → ℕ → ℕ → List ℕ → List ℕ
bwd p z zero j f = f
bwd p z (suc d) j f =
    map2 (join p) (bwd p z d (2 * j + 1) (take (2 ^ d) f)) (bwd p z d (2 * j) (drop (2 ^ d) f))
    ++ map2 (part p (z j)) (bwd p z d (2 * j + 1) (take (2 ^ d) f)) (bwd p z d (2 * j) (drop (2 ^ d) f))

-- each entry times s; the rests modulo p; products place by place
abbrev pub scale : ℕ → ℕ → List ℕ → List ℕ
scale p s f = map_n (λ (a : ℕ). (s * a) % p) f

abbrev pub mods : ℕ → List ℕ → List ℕ
mods p f = map_n (λ (a : ℕ). a % p) f

abbrev pub timesp : ℕ → ℕ → ℕ → ℕ
timesp p a b = (a * b) % p

-- the inverse transform modulo one prime
unfoldable pub back_one : Prime → List ℕ → List ℕ
back_one s f = scale (prime s) (over512 s) (bwd (prime s) (zeta s) 9 1 f)

-- the number below q with the least residue r1 modulo q1, and congruent to r2 modulo q2; 520194 is 1 / q1 modulo q2
abbrev pub crt_of : ℕ → ℕ → ℕ
crt_of r2 r1 = r1 + prime Prime.First * (((r2 + (prime Prime.Second - r1)) * 520194) % prime Prime.Second)
