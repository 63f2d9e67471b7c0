-- Numbers of bytes, the low one first, and the lanes of a state in their order.
use Rattle.std.specs.Prelude.{ℕ, zero, suc, ◌+◌, ◌*◌, ◌/◌, ◌%◌, ◌^◌, List}
use Rattle.hash.specs.Keccak.{State, lane}
use Rattle.hash.specs.Lists.{table}

-- the number of n bytes, the low one first
unfoldable pub le : (ℕ → ℕ) → ℕ → ℕ
le f zero = 0
le f (suc n) = le f n + f n * 2 ^ (8 * n)

-- byte j of a number, and its n bytes
abbrev pub byte_of : ℕ → ℕ → ℕ
byte_of x j = x / 2 ^ (8 * j) % 256

abbrev pub le_bytes : ℕ → ℕ → List ℕ
le_bytes n x = table (byte_of x) n

-- lane i in the order of 3.1.2
abbrev pub lane_at : State → ℕ → ℕ
lane_at A i = lane A (i % 5) (i / 5)
