-- A loop that adds up lists.
use mathlib.Core.Path.{◌≡◌, refl, ap}
use mathlib.Core.List.{List}
use Prim.Native.Nat.{ℕ, ◌+◌}
use native.Mathlib.Numerals.{add-one}
use Rattle.ring.specs.Words.{add_w}
use Rattle.hash.specs.Lists.{zeros}
use Rattle.sharing.specs.Blocks.{sum_of}

-- s is the sum so far, x what is added
pub sum-start : (w : ℕ) (f : ℕ → List ℕ) → zeros w ≡ sum_of w 0 f
unfolding sum_of
sum-start w f = refl

pub sum-turn : (w i : ℕ) (f : ℕ → List ℕ) (s t x : List ℕ) → s ≡ sum_of w i f → x ≡ f i → t ≡ add_w s x → t ≡ sum_of w (i + 1) f
unfolding sum_of
sum-turn w i f s t x e g h =
    let m : sum_of w (i + 1) f ≡ add_w (sum_of w i f) (f i) = ap (λ (k : ℕ). sum_of w k f) (add-one i) in
    cc (e, g, h, m)
