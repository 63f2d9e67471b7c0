-- Laws of the checks: what a yes gives, two of them at once, and the test of each element of a list.
use mathlib.Core.Path.{◌≡◌, refl, sym, ap, ◌∙◌}
use mathlib.Core.Bool.{Bool, true, false}
use mathlib.Core.List.{List, [], ◌∷◌, ◌++◌}
use Prim.Native.Nat.{ℕ, suc, ◌≤◌, ◌<◌}
use native.Mathlib.Omega.{arith}
use borrow.Author.Tests.{lt-ltb, leb-true, le-leb}
use lib.Dec.{leb}
use lib.ListN.{get_or}
use Rattle.hash.specs.Lists.{pick}
use Rattle.ring.specs.Checks.{first_no, both}
use Rattle.ring.specs.Words.{Below, all_below}
use Rattle.ring.proofs.Sums.{below_at, all-below}

pub absurd-bool : {C : Type 0} → true ≡ false → C
absurd-bool e = let z : ◌≡◌ {A = ℕ} 0 1 = cc in absurd (omega arith)

-- one check and the status of those that follow, as `first_no` computes: where none is a no it was answered with yes, and so were they
pub asked : (n : ℕ) (b : Bool) (rest : ℕ) → pick b rest (suc n) ≡ 0 → (b ≡ true) × (rest ≡ 0)
asked n true rest e = (refl, e)
asked n false rest e = absurd (omega (arith, e))

-- its no is the status, and a yes leaves it to those that follow
pub no-here : (n : ℕ) {b : Bool} (rest : ℕ) → b ≡ false → n ≡ pick b rest n
no-here n rest e = rw e refl

pub yes-here : (n : ℕ) {b : Bool} {rest m : ℕ} → b ≡ true → m ≡ rest → m ≡ pick b rest n
yes-here n e h = rw e h

-- two at once: a yes of both, a no of one of them, the last one alone
pub both_true : (a b : Bool) → both a b ≡ true → (a ≡ true) × (b ≡ true)
both_true true b e = (refl, e)
both_true false b e = absurd-bool (sym e)

pub both_yes : {a b : Bool} → a ≡ true → b ≡ true → both a b ≡ true
both_yes {b = b} e h = ap (λ (x : Bool). both x b) e ∙ h

pub left-no : {a : Bool} (b : Bool) → a ≡ false → both a b ≡ false
left-no b e = ap (λ (x : Bool). both x b) e

pub right-no : (a : Bool) {b : Bool} → b ≡ false → both a b ≡ false
right-no true e = e
right-no false e = refl

pub both-last : (a : Bool) → both a true ≡ a
both-last true = refl
both-last false = refl

-- what a test says of the number of each check, and of 0, it says of the first no
abbrev pub numbers_pass : (ℕ → Bool) → List (ℕ × Bool) → Bool
numbers_pass t [] = true
numbers_pass t (c ∷ cs) = both (t c.0) (numbers_pass t cs)

pub first_passes : (t : ℕ → Bool) (cs : List (ℕ × Bool)) → t 0 ≡ true → numbers_pass t cs ≡ true → t (first_no cs) ≡ true
first_passes t [] z a = z
first_passes t ((n, true) ∷ cs) z a = first_passes t cs z (both_true (t n) (numbers_pass t cs) a).1
first_passes t ((n, false) ∷ cs) z a = (both_true (t n) (numbers_pass t cs) a).0

-- checks numbered up to m
pub first-low : (m : ℕ) (cs : List (ℕ × Bool)) → numbers_pass (λ k. leb k m) cs ≡ true → first_no cs ≤ m
first-low m cs a = leb-true (first_no cs) m (first_passes (λ k. leb k m) cs (le-leb 0 m (omega arith)) a)

-- checks numbered from 1 on, and others behind them: a no among the first decides, else the others do
abbrev pub numbered : List (ℕ × Bool) → Bool
numbered cs = numbers_pass (leb 1) cs

pub no-before : (cs ds : List (ℕ × Bool)) (n : ℕ) → n ≡ first_no cs → (n ≡ 0 → ⊥) → n ≡ first_no (cs ++ ds)
no-before [] ds n e h = absurd (h e)
no-before ((m, true) ∷ cs) ds n e h = no-before cs ds n e h
no-before ((m, false) ∷ cs) ds n e h = e

pub yes-before : (cs ds : List (ℕ × Bool)) → numbered cs ≡ true → first_no cs ≡ 0 → first_no (cs ++ ds) ≡ first_no ds
yes-before [] ds h e = refl
yes-before ((m, true) ∷ cs) ds h e = yes-before cs ds (both_true (leb 1 m) (numbered cs) h).1 e
yes-before ((m, false) ∷ cs) ds h e = absurd (omega (arith, leb-true 1 m (both_true (leb 1 m) (numbered cs) h).0, e))

pub yes_both : (cs ds : List (ℕ × Bool)) → numbered cs ≡ true → first_no (cs ++ ds) ≡ 0 → (first_no cs ≡ 0) × (first_no ds ≡ 0)
yes_both [] ds h e = (refl, e)
yes_both ((m, true) ∷ cs) ds h e = yes_both cs ds (both_true (leb 1 m) (numbered cs) h).1 e
yes_both ((m, false) ∷ cs) ds h e = absurd (omega (arith, leb-true 1 m (both_true (leb 1 m) (numbered cs) h).0, e))

-- is each element below p? A yes, from the list and from its entries; a no where an entry is p
pub below-yes : (p : ℕ) (xs : List ℕ) → Below p xs → all_below p xs ≡ true
unfolding all_below
below-yes p [] h = refl
below-yes p (x ∷ xs) h = rw (lt-ltb x p h.0) (below-yes p xs h.1)

pub entries-yes : (p : ℕ) (xs : List ℕ) → ((i : ℕ) → get_or xs i 0 < p) → all_below p xs ≡ true
unfolding all_below
entries-yes p [] h = refl
entries-yes p (x ∷ xs) h = rw (lt-ltb x p (h 0)) (entries-yes p xs (λ (i : ℕ). h (suc i)))

pub entry-no : (p : ℕ) (xs : List ℕ) (i : ℕ) → 0 < p → get_or xs i 0 ≡ p → all_below p xs ≡ false
entry-no p xs i z e = go (all_below p xs) refl
  where
    go : (b : Bool) → all_below p xs ≡ b → b ≡ false
    go true t = let l : get_or xs i 0 < p = below_at p z xs (all-below p xs t) i in absurd (omega arith)
    go false t = refl
