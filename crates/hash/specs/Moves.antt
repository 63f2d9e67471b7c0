-- Steps (what the code leaves on its way; no call's contract reaches these): rho and pi inside the state, lane by lane (02, #104): 24 moves
-- along one walk, with one spare lane, held outside of the state.
use Rattle.std.specs.Prelude.{ℕ, ◌+◌, ◌*◌, ◌%◌, ◌≡◌, Bool, List, [], ◌∷◌, ltb}
use Rattle.hash.specs.Lists.{pick}
use Rattle.hash.specs.Keccak.{State, lane, set_lane, lanes, rotl, offsets, rho, pi}

-- pi takes the lane (x, y) to (y, ahead x y), which is a step of the walk of FIPS 202, 3.2.2 (algorithm 2, step 3b)
abbrev pub ahead : ℕ → ℕ → ℕ
ahead x y = (2 * x + 3 * y) % 5

-- The walk from (1, 0) gives the order of the moves: row y has the numbers of the moves of the lanes (0, y) to (4, y).
-- It comes to all lanes but (0, 0), which rho and pi leave as it is.
abbrev pub move_numbers : List (List ℕ)
move_numbers =
    (24 ∷ 0 ∷ 18 ∷ 6 ∷ 12 ∷ [])
    ∷ (7 ∷ 23 ∷ 2 ∷ 9 ∷ 22 ∷ [])
    ∷ (1 ∷ 3 ∷ 17 ∷ 16 ∷ 20 ∷ [])
    ∷ (13 ∷ 8 ∷ 4 ∷ 5 ∷ 15 ∷ [])
    ∷ (19 ∷ 10 ∷ 21 ∷ 14 ∷ 11 ∷ [])
    ∷ []

-- is (x, y) reached by one of the moves 0 to i - 1? The lane that comes there is ((x + 3 y) mod 5, x) (3.2.3).
abbrev pub reached : ℕ → ℕ → ℕ → Bool
reached i x y = ltb (lane move_numbers ((x + 3 * y) % 5) x) i

-- the state after i moves of A: the lanes reached hold their moved values, and the rest are untouched
unfoldable pub moves : ℕ → State → State
moves i A = lanes (λ x y. pick (reached i x y) (lane (pi (rho A)) x y) (lane A x y))

-- S with v, the lane (x, y), rotated by its offset and put in its place
abbrev pub move_lane : State → ℕ → ℕ → ℕ → State
move_lane S x y v = set_lane S y (ahead x y) (rotl v (lane offsets x y))

-- S is the state after i moves of A, and v, the spare lane, is the lane (x, y) of A
abbrev pub Moving : State → ℕ → ℕ → ℕ → State → ℕ → Type 0
Moving A i x y S v = (S ≡ moves i A) × (v ≡ lane A x y)
