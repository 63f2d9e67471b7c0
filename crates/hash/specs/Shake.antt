-- SHAKE256, FIPS 202 sections 3.1.2, 4, 5.1 and 6.2, over bytes: a state is 200 bytes, of which the first 136 are the rate.
use Rattle.std.specs.Prelude.{ℕ, zero, suc, ◌+◌, ◌-◌, ◌*◌, ◌/◌, ◌%◌, ◌^◌, Bool, true, false, List, [], ◌∷◌, ◌++◌, eqb, length, take, drop}
use Rattle.std.specs.Int.Bits.{bit_xor}
use Rattle.hash.specs.Lists.{table, zeros}
use Rattle.hash.specs.Keccak.{State, lane, set_lane, lanes, keccak_f}

-- byte k of a state: byte k % 8, from the low end, of lane k / 8, in the order of 3.1.2
abbrev pub byte_at : State → ℕ → ℕ
byte_at A k = lane A (k / 8 % 5) (k / 8 / 5) / 2 ^ (8 * (k % 8)) % 256

-- the state with b xored into byte k
unfoldable pub xor_byte : State → ℕ → ℕ → State
xor_byte A k b = set_lane A (k / 8 % 5) (k / 8 / 5) (bit_xor (lane A (k / 8 % 5) (k / 8 / 5)) (b * 2 ^ (8 * (k % 8))))

-- .. with bs xored in from byte k on
unfoldable pub xor_bytes : State → ℕ → List ℕ → State
xor_bytes A k [] = A
xor_bytes A k (b ∷ bs) = xor_bytes (xor_byte A k b) (suc k) bs

-- 6.2 and 5.1: the four bits 1111, and pad10*1, to the end of a block that lacks q bytes, q at least 1
unfoldable pub padding : ℕ → List ℕ
padding zero = []
padding (suc zero) = 0x9f ∷ []
padding (suc (suc q)) = 0x1f ∷ (zeros q ++ (0x80 ∷ []))

unfoldable pub padded : List ℕ → List ℕ
padded m = m ++ padding (136 - length m % 136)

-- 4, the sponge: n blocks of p absorbed
unfoldable pub blocks : ℕ → State → List ℕ → State
blocks zero A p = A
blocks (suc n) A p = blocks n (keccak_f (xor_bytes A 0 (take 136 p))) (drop 136 p)

abbrev pub zero_state : State
zero_state = lanes (λ x y. 0)

unfoldable pub absorbed : List ℕ → State
absorbed m = blocks (length m / 136 + 1) zero_state (padded m)

-- squeezed: the state that gives block i, and that block
unfoldable pub after : ℕ → State → State
after zero A = A
after (suc i) A = keccak_f (after i A)

abbrev pub rate : State → List ℕ
rate A = table (byte_at A) 136

-- byte i of the stream that a state gives
abbrev pub stream : State → ℕ → ℕ
stream S i = byte_at (after (i / 136) S) (i % 136)

-- 6.2: d bytes of the stream of m
abbrev pub shake256 : List ℕ → ℕ → List ℕ
shake256 m d = table (stream (absorbed m)) d

-- the same, a byte at a time: b as byte n of the message; bs from byte n on; the end after n bytes
abbrev pub turn : Bool → State → State
turn true A = keccak_f A
turn false A = A

unfoldable pub absorb_byte : State → ℕ → ℕ → State
absorb_byte A n b = turn (eqb (n % 136) 135) (xor_byte A (n % 136) b)

unfoldable pub absorb_from : State → ℕ → List ℕ → State
absorb_from A n [] = A
absorb_from A n (b ∷ bs) = absorb_from (absorb_byte A n b) (suc n) bs

unfoldable pub finish : State → ℕ → State
finish A n = keccak_f (xor_bytes A (n % 136) (padding (136 - n % 136)))
