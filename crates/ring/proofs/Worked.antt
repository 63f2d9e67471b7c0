-- Worked examples: rounding and centring at their edges, and x^511 times x.
use mathlib.Core.Path.{◌≡◌, refl}
use mathlib.Core.List.{[], ◌∷◌, ◌++◌}
use Prim.Native.Nat.{◌-◌}
use lib.IntN.{pos, neg_ℤ}
use lib.ListN.{replicate}
use Rattle.ring.specs.Words.{q}
use Rattle.ring.specs.Round.{rounded, centred}
use Rattle.ring.specs.Transform.{mul}

-- rounding by 42 bits: half a unit goes up, and the last interval goes round to 0
pub p1 : rounded 42 125 2199023255551 ≡ 0
unfolding rounded
p1 = refl

pub p2 : rounded 42 125 2199023255552 ≡ 1
unfolding rounded
p2 = refl

pub p3 : rounded 42 125 547556790632447 ≡ 124
unfolding rounded
p3 = refl

pub p4 : rounded 42 125 547556790632448 ≡ 0
unfolding rounded
p4 = refl

-- .. and by 44 bits
pub p5-below : rounded 44 31 8796093022207 ≡ 0
unfolding rounded
p5-below = refl

pub p5-from : rounded 44 31 8796093022208 ≡ 1
unfolding rounded
p5-from = refl

pub p6-below : rounded 44 31 536561674354687 ≡ 30
unfolding rounded
p6-below = refl

pub p6-from : rounded 44 31 536561674354688 ≡ 0
unfolding rounded
p6-from = refl

-- centred values: the half belongs to the positive side
pub p7-below : centred q 274912291586048 ≡ pos 274912291586048
unfolding centred
p7-below = refl

pub p7-from : centred q 274912291586049 ≡ neg_ℤ (pos 274912291586048)
unfolding centred
p7-from = refl

pub p8-below : centred 31 15 ≡ pos 15
unfolding centred
p8-below = refl

pub p8-from : centred 31 16 ≡ neg_ℤ (pos 15)
unfolding centred
p8-from = refl

-- x^511 x = x^512 = -1
pub p9 : mul (replicate 511 0 ++ (1 ∷ [])) (0 ∷ 1 ∷ replicate 510 0) ≡ (q - 1) ∷ replicate 511 0
unfolding mul
p9 = refl
