-- The hint (000, Algorithm 2 line 18, Algorithm 3 line 7): residues undo centred values, so that the verifier's y + h is the signer's rounded w.
use mathlib.Core.Path.{◌≡◌, ap, ◌∙◌}
use mathlib.Core.List.{List, [], ◌∷◌}
use Prim.Native.Nat.{ℕ, ◌+◌, ◌-◌, ◌%◌, ◌<◌}
use native.Mathlib.Nat.{mod-lt}
use native.Mathlib.Omega.{arith}
use lib.Dec.{lit<}
use lib.ListN.{length}
use Rattle.ring.specs.Words.{q, Below, zip_to}
use Rattle.ring.specs.Round.{rounded, round_w, centred, residue, residues}
use Rattle.ring.proofs.Mapped.{map-none, map_next, zip_empty, zip-next, rounded-lt}
use Rattle.ring.proofs.Reduced.{residues-none, residues-next, residue-centred}
use Rattle.ring.proofs.Sums.{length-zip}
use Rattle.signature.specs.Recover.{sub31, add31, centred_all, hint_of, adjusted}
use Rattle.signature.proofs.Centred.{length-centred}

pub residues-centred : (xs : List ℕ) → Below q xs → residues q (centred_all q xs) ≡ xs
unfolding centred_all
residues-centred [] h = residues-none q
residues-centred (x ∷ xs) h = residues-next q (centred q x) (centred_all q xs) ∙ cc (residue-centred q x h.0, residues-centred xs h.1)

pub length-hint : (w y : List ℕ) → length (hint_of w y) ≡ length w
unfolding hint_of
length-hint w y = length-centred 31 (zip_to sub31 w (round_w y)) ∙ length-zip sub31 w (round_w y)

-- ---- the hint taken off and put on again

hint-one : (a b : ℕ) → a < 31 → b < 31 → add31 b (residue 31 (centred 31 (sub31 a b))) ≡ a
hint-one a b ha hb =
    let e : residue 31 (centred 31 ((a + (31 - b)) % 31)) ≡ (a + (31 - b)) % 31 = residue-centred 31 ((a + (31 - b)) % 31) (mod-lt (a + (31 - b)) (lit< tt)) in
    ap (λ (n : ℕ). (b + n) % 31) e ∙ omega arith

pub hint-back : (w y : List ℕ) → length w ≡ length y → adjusted y (hint_of (round_w w) y) ≡ round_w w
unfolding adjusted hint_of centred_all
hint-back [] [] e = simp (map-none, zip_empty)
hint-back [] (y ∷ ys) e = absurd (omega arith)
hint-back (x ∷ xs) [] e = absurd (omega arith)
hint-back (x ∷ xs) (y ∷ ys) e =
    let f : ℕ → ℕ = rounded 44 31 in
    let one : add31 (f y) (residue 31 (centred 31 (sub31 (f x) (f y)))) ≡ f x =
    hint-one (f x) (f y) (rounded-lt 44 31 (lit< tt) x) (rounded-lt 44 31 (lit< tt) y) in
    simp (map_next, zip-next, residues-next) (cc (one, hint-back xs ys (omega arith)))
