-- rho and pi inside the state, move by move.
use mathlib.Core.Path.{◌≡◌, refl, ap, ◌∙◌}
use mathlib.Core.List.{List, []}
use Prim.Native.Nat.{ℕ, suc, ◌+◌, ◌*◌, ◌%◌, ◌<◌}
use native.Mathlib.Omega.{arith}
use lib.ListN.{get_or}
use Rattle.hash.specs.Lists.{pick}
use Rattle.hash.specs.Keccak.{State, lane, lanes, plane, turned, rotl, rho_lane, rho, pi}
use Rattle.hash.specs.Moves.{ahead, move_numbers, reached, moves, move_lane, Moving}
use Rattle.hash.proofs.Shape.{five}

-- ---- after every move, lane by lane

lane-lanes : (f : ℕ → ℕ → ℕ) (x y : ℕ) → x < 5 → y < 5 → lane (lanes f) x y ≡ f x y
lane-lanes f x y h k =
    ap (λ (p : List ℕ). get_or p x 0) (five (λ y. get_or (lanes f) y [] ≡ plane (λ x. f x y)) refl refl refl refl refl y k)
    ∙ five (λ x. get_or (plane (λ x. f x y)) x 0 ≡ f x y) refl refl refl refl refl x h

-- a lane that is reached holds the rotated lane that pi brings there, and any other that of A
pub lane-moves : (A : State) (i x y : ℕ) → x < 5 → y < 5
    → lane (moves i A) x y ≡ pick (reached i x y) (rho_lane A ((x + 3 * y) % 5) x) (lane A x y)
unfolding moves rho pi
lane-moves A i x y h k =
    let m : (x + 3 * y) % 5 < 5 = omega arith in
    lane-lanes (λ x y. pick (reached i x y) (lane (pi (rho A)) x y) (lane A x y)) x y h k
    ∙ ap (λ (v : ℕ). pick (reached i x y) v (lane A x y))
    (lane-lanes (λ x y. lane (rho A) ((x + 3 * y) % 5) x) x y h k ∙ lane-lanes (rho_lane A) ((x + 3 * y) % 5) x m h)

-- after 24 moves it is rho and then pi
pub all_moved : (A : State) → moves 24 A ≡ pi (rho A)
unfolding moves rho pi rotl turned
all_moved A = refl

-- before the first one it is A, where A is five planes of five lanes
pub none-moved : (A : State) → A ≡ lanes (lane A) → A ≡ moves 0 A
unfolding moves
none-moved A h = h

-- ---- each move, computed: the move of (x, y) leads from the state before it to the state after it, and to the next spare lane

abbrev Leads : State → ℕ → ℕ → Type 0
Leads A x y =
    let n = lane move_numbers x y in
    Moving A (suc n) y (ahead x y) (move_lane (moves n A) x y (lane A x y)) (lane (moves n A) y (ahead x y))

leads : (A : State) (y : ℕ) → y < 5 → (x : ℕ) → x < 5 → Leads A x y
unfolding moves rho pi rotl turned
leads A =
    five (λ y. (x : ℕ) → x < 5 → Leads A x y)
    (five (λ x. Leads A x 0) (refl, refl) (refl, refl) (refl, refl) (refl, refl) (refl, refl))
    (five (λ x. Leads A x 1) (refl, refl) (refl, refl) (refl, refl) (refl, refl) (refl, refl))
    (five (λ x. Leads A x 2) (refl, refl) (refl, refl) (refl, refl) (refl, refl) (refl, refl))
    (five (λ x. Leads A x 3) (refl, refl) (refl, refl) (refl, refl) (refl, refl) (refl, refl))
    (five (λ x. Leads A x 4) (refl, refl) (refl, refl) (refl, refl) (refl, refl) (refl, refl))

pub one-move : (A S : State) (x y i v : ℕ) → x < 5 → y < 5 → lane move_numbers x y ≡ i → Moving A i x y S v
    → Moving A (suc i) y (ahead x y) (move_lane S x y v) (lane S y (ahead x y))
one-move A S x y i v h k e m = rw (m.0, m.1, ← e) (leads A y k x h)
