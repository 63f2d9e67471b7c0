-- The mask generator (01: masking generator; 02, #105): a state of SHAKE256, the place of the next draw in its block, and whether it is ok, that
-- is, no polynomial ran dry. A polynomial of masking words is read as one of the matrix is (ring, specs/Uniform.antt): of the next 777 draws of
-- seven bytes those below q are kept, and the first 512 of them are its words. The next polynomial begins behind the last draw used. Where fewer
-- than 512 are kept the generator is dry from there on (check 20), and its polynomials are zero.
use Rattle.std.specs.Prelude.{Bool, true, List, ℕ, zero, suc, min, ◌+◌, ◌*◌, ◌/◌, ◌%◌, leb, length, get_or}
use Rattle.hash.specs.Lists.{table, zeros, pick}
use Rattle.hash.specs.Keccak.{State, lanes}
use Rattle.hash.specs.Shake.{after, absorbed, stream}
use Rattle.hash.specs.Endian.{lane_at}
use Rattle.ring.specs.Checks.{filled, held_or}
use Rattle.ring.specs.Uniform.{draw, kept, uniform}
use Rattle.sharing.specs.declared.masks.MaskGen.{MaskGen}
use Rattle.sharing.specs.declared.masks.Drawn.{Drawn}
use Rattle.sharing.specs.Encoding.{Generator}

-- the state as five planes; the place, a byte of its block; and the generator at place n of a state's block
abbrev pub state_of : MaskGen → State
state_of g = lanes (λ (x : ℕ) (y : ℕ). get_or g.lanes (5 * y + x) 0)

abbrev pub place_in : MaskGen → ℕ
place_in g = min g.at 135

abbrev pub held_at : State → ℕ → Bool → MaskGen
held_at S n b = record { lanes = table (lane_at S) 25; at = n; ok = b }

-- the bytes of the next 777 draws, and the generator n draws on
unfoldable pub bytes_ahead : MaskGen → List ℕ
bytes_ahead g = table (λ (j : ℕ). stream (state_of g) (place_in g + j)) 5439

unfoldable pub mask_moved : ℕ → MaskGen → MaskGen
mask_moved n g = held_at (after ((place_in g + 7 * n) / 136) (state_of g)) ((place_in g + 7 * n) % 136) g.ok

-- one draw, and the generator behind it
unfoldable pub mask_draw : MaskGen → ℕ
mask_draw g = draw (bytes_ahead g) 0

abbrev pub drawn : MaskGen → Drawn
drawn g = record { word = mask_draw g; next = mask_moved 1 g }

-- how many of the first n draws of s are used: all up to the one that fills
unfoldable pub used : List ℕ → ℕ → ℕ
used s zero = 0
used s (suc n) = pick (leb 512 (length (kept s n))) (used s n) (suc n)

-- the same generator, ok or dry
abbrev pub flagged : Bool → MaskGen → MaskGen
flagged b g = record { lanes = g.lanes; at = g.at; ok = b }

-- the next polynomial, and the generator behind it
unfoldable pub mask_poly : MaskGen → List ℕ
mask_poly g = pick g.ok (held_or (uniform (bytes_ahead g)) (zeros 512)) (zeros 512)

unfoldable pub mask_next : MaskGen → MaskGen
mask_next g = pick g.ok (flagged (filled (uniform (bytes_ahead g))) (mask_moved (used (bytes_ahead g) 777) g)) g

-- the generator of a seed
unfoldable pub mask_start : List ℕ → MaskGen
mask_start seed = held_at (absorbed seed) 0 true

-- as a generator of polynomials
abbrev pub masks : Generator
masks = record { State = MaskGen; poly = mask_poly; next = mask_next }
