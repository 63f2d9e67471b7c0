-- The tables of Keccak by their rules of FIPS 202, computed.
use Prim.Native.Nat.{ℕ, zero, suc, ◌+◌, ◌-◌, ◌*◌, ◌/◌, ◌%◌, ◌^◌}
use mathlib.Core.Path.{◌≡◌, refl}
use mathlib.Core.Bool.{Bool, true, false}
use mathlib.Core.List.{List, [], ◌∷◌}
use lib.Dec.{ltb}
use lib.Bits.{bit_xor}
use Rattle.hash.specs.Lists.{table}
use Rattle.hash.specs.Keccak.{lane, offsets, constants}
use Rattle.hash.specs.Moves.{ahead, move_numbers}

-- 3.2.5, algorithm 5: the register, bit 0 first, after t steps
cut : Bool → ℕ → ℕ
cut true r = r
cut false r = bit_xor r 0x171

register : ℕ → ℕ
register zero = 1
register (suc t) = let r = register t * 2 in cut (ltb r 256) r

rc : ℕ → ℕ
rc t = register (t % 255) % 2

-- algorithm 6: bit 2 ^ j - 1 of the constant of round i is rc (j + 7 i)
sum : ℕ → ℕ → ℕ
sum zero i = 0
sum (suc j) i = sum j i + rc (j + 7 * i) * 2 ^ (2 ^ j - 1)

constants-rule : constants ≡ table (sum 7) 24
unfolding table sum rc register cut
constants-rule = refl

-- 3.2.2, algorithm 2: a table read at n lanes of the walk from (x, y)
walk : List (List ℕ) → ℕ → ℕ → ℕ → List ℕ
walk T zero x y = []
walk T (suc n) x y = lane T x y ∷ walk T n y (ahead x y)

-- the offset at step t of the walk from (1, 0) is (t + 1) (t + 2) / 2
offsets-rule : walk offsets 24 1 0 ≡ table (λ t. (t + 1) * (t + 2) / 2 % 64) 24
unfolding table walk
offsets-rule = refl

-- the moves are numbered along it: it comes to each lane but (0, 0) once, and then to (1, 0) again
moves-rule : walk move_numbers 25 1 0 ≡ table (λ t. t % 24) 25
unfolding table walk
moves-rule = refl
