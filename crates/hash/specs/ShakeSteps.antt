-- Steps (what the code leaves on its way; no call's contract reaches these): SHAKE256 by words of eight bytes, the low byte first.
use Rattle.std.specs.Prelude.{ℕ, ◌+◌, ◌/◌, ◌%◌, List, ◌++◌, take, drop}
use Rattle.std.specs.Int.Bits.{bit_xor}
use Rattle.hash.specs.Keccak.{State, lane, set_lane}
use Rattle.hash.specs.Lists.{table}

-- l with f 0, .., f (n - 1) laid at the place at
abbrev pub pasted : (ℕ → ℕ) → List ℕ → ℕ → ℕ → List ℕ
pasted f l at n = take at l ++ (table f n ++ drop (at + n) l)

-- the state with x xored into lane k
unfoldable pub xor_lane : State → ℕ → ℕ → State
xor_lane A k x = set_lane A (k % 5) (k / 5) (bit_xor (lane A (k % 5) (k / 5)) x)
