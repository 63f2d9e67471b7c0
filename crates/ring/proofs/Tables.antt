-- The powers of g modulo both primes meet what the transform asks of them: tests that antt computes.
use mathlib.Core.Path.{◌≡◌, refl}
use mathlib.Core.Bool.{Bool}
use Prim.Native.Nat.{ℕ, zero, suc, ◌+◌, ◌*◌, ◌-◌, ◌%◌, ◌/◌, ◌^◌, ◌<◌}
use native.Mathlib.Nat.{not-suc-le-zero, mod-lt}
use native.Mathlib.Omega.{arith}
use lib.Dec.{T, eqb, eqb→eq, ltb, lit<}
use lib.ListN.{get_or}
use Rattle.hash.specs.Lists.{table, pick}
use Rattle.hash.proofs.Computed.{below, at}
use Rattle.hash.proofs.Table.{get_d-table}
use Rattle.ring.specs.declared.prime.Prime.{Prime}
use Rattle.ring.specs.Residue.{rev, prime, gen, over512, power, zeta, powers}
use Rattle.ring.proofs.Cong.{Eqv}
use Rattle.ring.proofs.Values.{Roots, pts}

pub prime-pos : (s : Prime) → 0 < prime s
prime-pos Prime.First = lit< tt
prime-pos Prime.Second = lit< tt

-- the table of powers, and its entries
pub powers-at : (s : Prime) (k : ℕ) → k < 512 → get_or (powers s) k 0 ≡ zeta s k
unfolding powers
powers-at s k h = get_d-table (zeta s) 512 k h

pub zeta-low : (s : Prime) (k : ℕ) → zeta s k < prime s
unfolding power
zeta-low s k = mod-lt _ (prime-pos s)

-- ---- the nodes

-- x^(size of the node) at node k
abbrev pub node : ℕ → ℕ → ℕ → ℕ
node p g k = g ^ rev 10 k % p

-- the node that mirrors k on its level
mir : ℕ → ℕ → ℕ
mir zero k = 1
mir (suc b) k = pick (ltb k 2) 1 (2 * mir b (k / 2) + (1 - k % 2))

pub mirrored : ℕ → ℕ
mirrored k = mir 10 k

-- the tests, at node k + 1
module _ (p g : ℕ) where
  abbrev t-square : ℕ → Bool
  t-square k = eqb ((power p g (suc k) * power p g (suc k)) % p) (node p g (suc k) % p)

  abbrev t-left : ℕ → Bool
  t-left k = eqb (node p g (2 * suc k) % p) (power p g (suc k) % p)

  abbrev t-right : ℕ → Bool
  t-right k = eqb ((node p g (2 * suc k + 1) + power p g (suc k)) % p) (0 % p)

  abbrev t-mirror : ℕ → Bool
  t-mirror k = eqb ((power p g (suc k) * power p g (mirrored (suc k)) + 1) % p) (0 % p)

abbrev t-mirror-left : ℕ → Bool
t-mirror-left k = eqb (mirrored (2 * suc k)) (2 * mirrored (suc k) + 1)

abbrev t-mirror-right : ℕ → Bool
t-mirror-right k = eqb (mirrored (2 * suc k + 1)) (2 * mirrored (suc k))

-- a test at each k + 1 below n + 1 gives the fact at each k from 1
shifted : (P : ℕ → Type 0) (n : ℕ) → ((k : ℕ) → k < n → P (suc k)) → (k : ℕ) → 0 < k → k < suc n → P k
shifted P n f zero l h = absurd (not-suc-le-zero l)
shifted P n f (suc k) l h = f k (omega arith)

roots-of : (p g n : ℕ) → 0 < p → T (below (t-square p g) n) → T (below (t-left p g) n) → T (below (t-right p g) n)
    → T (below (t-mirror p g) n) → T (below t-mirror-left n) → T (below t-mirror-right n)
    → Roots p (suc n) (power p g) (node p g) mirrored
roots-of p g n pos a b c d e f =
    record {
      pos = pos;
      square = shifted _ n (λ k h. record { same = eqb→eq _ _ (at (t-square p g) n a k h) });
      left = shifted _ n (λ k h. record { same = eqb→eq _ _ (at (t-left p g) n b k h) });
      right = shifted _ n (λ k h. record { same = eqb→eq _ _ (at (t-right p g) n c k h) });
      mirror = shifted _ n (λ k h. record { same = eqb→eq _ _ (at (t-mirror p g) n d k h) });
      mirror-left = shifted _ n (λ k h. eqb→eq _ _ (at t-mirror-left n e k h));
      mirror-right = shifted _ n (λ k h. eqb→eq _ _ (at t-mirror-right n f k h));
    }

-- each test is a declaration of its own: one declaration may take 50 million steps
square1 : T (below (t-square 16515073 12686483) 511)
unfolding rev power below
square1 = tt

square2 : T (below (t-square 33292289 11827776) 511)
unfolding rev power below
square2 = tt

left1 : T (below (t-left 16515073 12686483) 511)
unfolding rev power below
left1 = tt

left2 : T (below (t-left 33292289 11827776) 511)
unfolding rev power below
left2 = tt

right1 : T (below (t-right 16515073 12686483) 511)
unfolding rev power below
right1 = tt

right2 : T (below (t-right 33292289 11827776) 511)
unfolding rev power below
right2 = tt

mirror1 : T (below (t-mirror 16515073 12686483) 511)
unfolding rev power below mir mirrored
mirror1 = tt

mirror2 : T (below (t-mirror 33292289 11827776) 511)
unfolding rev power below mir mirrored
mirror2 = tt

mirror-left : T (below t-mirror-left 511)
unfolding below mir mirrored
mirror-left = tt

mirror-right : T (below t-mirror-right 511)
unfolding below mir mirrored
mirror-right = tt

pub roots-at : (s : Prime) → Roots (prime s) 512 (zeta s) (node (prime s) (gen s)) mirrored
roots-at Prime.First = roots-of 16515073 12686483 511 (lit< tt) square1 left1 right1 mirror1 mirror-left mirror-right
roots-at Prime.Second = roots-of 33292289 11827776 511 (lit< tt) square2 left2 right2 mirror2 mirror-left mirror-right

pub top-at : (s : Prime) → Eqv (prime s) (node (prime s) (gen s) 1 + 1) 0
unfolding rev
top-at Prime.First = record { same = refl }
top-at Prime.Second = record { same = refl }

pub mirror-top : mirrored 1 ≡ 1
unfolding mir mirrored
mirror-top = refl

pub over-at : (s : Prime) → Eqv (prime s) (over512 s * 512) 1
over-at Prime.First = record { same = refl }
over-at Prime.Second = record { same = refl }

-- ---- the leaves

-- point i of the transform modulo the prime
unfoldable pub point : Prime → ℕ → ℕ
point s i = gen s ^ (2 * rev 9 i + 1) % prime s

-- the leaves of the tree are the points, in their order
pub leaves : (s : Prime) → pts (node (prime s) (gen s)) 9 1 ≡ table (point s) 512
unfolding rev pts table point
leaves Prime.First = refl
leaves Prime.Second = refl
