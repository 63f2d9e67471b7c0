-- What `other_than` tells: none stands for n, and some for a number that is not n.
use Rattle.std.proofs.Common.{◌≡◌, refl, arith}
use Rattle.std.specs.Prelude.{Bool, true, false, ℕ, eqb, None, Some}
use borrow.Author.Tests.{eqb-true, eqb-false}
use Rattle.std.specs.Option.{is_some}
use Rattle.hash.specs.Lists.{pick, other_than}

pub none-other : (n i : ℕ) → None ≡ other_than n i → i ≡ n
none-other n i = go (eqb i n) refl
  where
    go : (b : Bool) → eqb i n ≡ b → None ≡ pick b None (Some i) → i ≡ n
    go true k h = eqb-true i n k
    go false k h = let z : ◌≡◌ {A = ℕ} 0 1 = cc in absurd (omega arith)

pub some-other : (n i : ℕ) {x : ℕ} → Some x ≡ other_than n i → (i ≡ x) × (i ≡ n → ⊥)
some-other n i {x} = go (eqb i n) refl
  where
    go : (b : Bool) → eqb i n ≡ b → Some x ≡ pick b None (Some i) → (i ≡ x) × (i ≡ n → ⊥)
    go true k h = let z : ◌≡◌ {A = ℕ} 0 1 = cc in absurd (omega arith)
    go false k h = (cc, eqb-false i n k)

pub not-other : (n i : ℕ) → is_some (other_than n i) ≡ false → i ≡ n
not-other n i = go (eqb i n) refl
  where
    go : (b : Bool) → eqb i n ≡ b → is_some (pick b None (Some i)) ≡ false → i ≡ n
    go true k h = eqb-true i n k
    go false k h = let z : ◌≡◌ {A = ℕ} 0 1 = cc in absurd (omega arith)

pub is-other : (n i : ℕ) → is_some (other_than n i) ≡ true → i ≡ n → ⊥
is-other n i = go (eqb i n) refl
  where
    go : (b : Bool) → eqb i n ≡ b → is_some (pick b None (Some i)) ≡ true → i ≡ n → ⊥
    go true k h = let z : ◌≡◌ {A = ℕ} 0 1 = cc in absurd (omega arith)
    go false k h = eqb-false i n k
