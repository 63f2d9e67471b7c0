-- A state as its 25 lanes in a row, in the order of 3.1.2, and back.
use mathlib.Core.Path.{◌≡◌, refl, sym}
use mathlib.Core.List.{List, [], ◌∷◌}
use Prim.Native.Nat.{ℕ, ◌+◌, ◌*◌}
use lib.ListN.{length, get_or}
use Rattle.hash.specs.Lists.{table}
use Rattle.hash.specs.Keccak.{State, lane, lanes, chi, round, rounds, keccak_f}
use Rattle.hash.specs.Shake.{absorbed, finish}
use Rattle.hash.specs.Endian.{lane_at}
use Rattle.hash.proofs.Table.{listed}
use Rattle.hash.proofs.Sponge.{finish-absorbed}

abbrev pub flat : State → List ℕ
flat A = table (lane_at A) 25

abbrev pub unflat : List ℕ → State
unflat l = lanes (λ (x : ℕ) (y : ℕ). get_or l (5 * y + x) 0)

-- the row, lane by lane
pub flat-is : (A : State)
    → flat A
    ≡ lane A 0 0 ∷ lane A 1 0 ∷ lane A 2 0 ∷ lane A 3 0 ∷ lane A 4 0
    ∷ lane A 0 1 ∷ lane A 1 1 ∷ lane A 2 1 ∷ lane A 3 1 ∷ lane A 4 1
    ∷ lane A 0 2 ∷ lane A 1 2 ∷ lane A 2 2 ∷ lane A 3 2 ∷ lane A 4 2
    ∷ lane A 0 3 ∷ lane A 1 3 ∷ lane A 2 3 ∷ lane A 3 3 ∷ lane A 4 3
    ∷ lane A 0 4 ∷ lane A 1 4 ∷ lane A 2 4 ∷ lane A 3 4 ∷ lane A 4 4
    ∷ []
unfolding table
flat-is A = refl

-- there and back
pub flat-unflat : (l : List ℕ) → length l ≡ 25 → flat (unflat l) ≡ l
unfolding table
flat-unflat l e = sym (listed 25 l e)

pub unflat-flat : (f : ℕ → ℕ → ℕ) → unflat (flat (lanes f)) ≡ lanes f
unfolding table
unflat-flat f = refl

-- .. from a state that was permuted, and from that of a message: both are five planes of five lanes
pub unflat-permuted : (A : State) → unflat (flat (keccak_f A)) ≡ keccak_f A
unfolding keccak_f rounds round chi table
unflat-permuted A = refl

pub unflat-absorbed : (m : List ℕ) → unflat (flat (absorbed m)) ≡ absorbed m
unfolding finish
unflat-absorbed m = rw (← finish-absorbed m) (unflat-permuted _)
