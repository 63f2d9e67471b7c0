-- Steps (what the code leaves on its way; no call's contract reaches these): ChalHash and ChalPoly (000, Algorithms 9 and 10) block by block.
use Rattle.std.specs.Prelude.{List, [], ◌∷◌, ℕ, ◌+◌, ◌*◌, ◌/◌, ◌%◌, ◌^◌, length, get_or}
use Rattle.std.specs.Int.Count.{ones}
use Rattle.hash.specs.Lists.{table}
use Rattle.hash.specs.Keccak.{State, keccak_f}
use Rattle.hash.specs.Shake.{absorb_from, finish, rate, stream}
use Rattle.signature.specs.declared.challenge.Source.{Source}
use Rattle.signature.specs.Challenge.{chal_draws}

-- ---- the map of taken positions: bit p of eight words, and the ones of all of them

abbrev pub bit_at : List ℕ → ℕ → ℕ
bit_at m p = get_or m (p / 64) 0 / 2 ^ (p % 64) % 2

unfoldable pub ones_of : List ℕ → ℕ
ones_of [] = 0
ones_of (x ∷ m) = ones x + ones_of m

-- ---- what is drawn from

-- its bytes: 16 blocks of the stream, or those lent; and how many draws they are
abbrev pub bytes_of : Source → List ℕ
bytes_of (Source.Stream S) = table (stream S) 2176
bytes_of (Source.Lent bytes) = bytes.now

abbrev pub draws_of : Source → ℕ
draws_of (Source.Stream S) = 1088
draws_of (Source.Lent bytes) = chal_draws (length bytes.now)

-- block i, where that of a stream is the next one; and the source behind it
abbrev pub block_of : Source → ℕ → List ℕ
block_of (Source.Stream S) i = rate S
block_of (Source.Lent bytes) i = table (λ j. get_or bytes.now (i * 136 + j) 0) 136

abbrev pub next_of : Source → Source
next_of (Source.Stream S) = Source.Stream (keccak_f S)
next_of (Source.Lent bytes) = Source.Lent bytes

-- the state behind a message of n bytes that S absorbed, and a and b
abbrev pub behind : State → ℕ → List ℕ → List ℕ → State
behind S n a b = finish (absorb_from (absorb_from S n a) (n + length a) b) (n + length a + length b)
