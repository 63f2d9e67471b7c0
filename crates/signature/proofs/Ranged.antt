-- `all` over a range, said of the numbers in it; and what it says of zero bits and of lists that may not be there.
use mathlib.Core.Path.{◌≡◌, refl, sym, subst, ◌∙◌}
use mathlib.Core.Bool.{Bool, true, false}
use mathlib.Core.List.{List}
use mathlib.Core.Option.{Option}
use Prim.Native.Nat.{ℕ, zero, suc, ◌+◌, ◌-◌, ◌≤◌, ◌<◌}
use native.Mathlib.Decide.{dec_lt}
use native.Mathlib.Omega.{arith}
use native.Mathlib.Numerals.{add-one}
use lib.ListN.{length, get_or, drop}
use denote.Param.Members.{Mut}
use Rattle.std.specs.Prelude.{Option as Answer}
use Rattle.std.specs.declared.ops.Range.{Range}
use Rattle.std.proofs.iter.Yields.{nat_range_steps}
use Rattle.std.specs.Bool.{MatchBool}
use Rattle.std.specs.Fn.{Called}
use Rattle.std.specs.Iterator.{YieldsThen}
use Rattle.std.specs.List.{FoldsTo, AllWithin, HoldsAt, range_with_len}
use Rattle.std.specs.Option.{MatchOption}
use Rattle.std.proofs.lemmas.Iterator.{YieldsList-from_range, cases_from_all}
use Rattle.std.proofs.lemmas.List.FromFn.{length-range_with_len, get_or-range_with_len}
use Rattle.signature.specs.AnswerSteps.{all_zero}
use Rattle.signature.specs.Matrix.{build_all, filled}
use Rattle.signature.proofs.Filled.{zero-next, one-next, zero-end}
use Rattle.signature.proofs.Entries.{all_none, all_more}

pub all_from_range : {F : Type 0} {g : Mut F (ℕ × Unit {0}) Bool} (s u : Range ℕ) (f : F) (r : Bool) (Yes No : ℕ → Type 0)
    → (xs : List ℕ) × (o : Answer ℕ) × (j : F) × YieldsThen nat_range_steps s xs o u × FoldsTo (λ p x q. Called g p (x, tt) true q) f xs j × MatchOption o (r ≡ true) (λ x. (r ≡ false) × ((h : F) × Called g j (x, tt) false h))
    → ((x : ℕ) (q : F) → Called g f (x, tt) true q → (q ≡ f) × Yes x) → ((x : ℕ) (q : F) → Called g f (x, tt) false q → No x)
    → MatchBool r ((k : ℕ) → s.start ≤ k → k < s.end → Yes k) ((k : ℕ) × (s.start ≤ k) × (k < s.end) × No k)
all_from_range s u f r Yes No d yes' no' = by r (cases_from_all u f r Yes No d (YieldsList-from_range s.start s.end _ refl refl) yes' no')
  where
    all : List ℕ
    all = range_with_len s.start (s.end - s.start)

    long : length all ≡ s.end - s.start
    long = length-range_with_len s.start (s.end - s.start)

    at : (P : ℕ → Type 0) (i k : ℕ) → i < s.end - s.start → k ≡ s.start + i → P (get_or all i 0) → P k
    at P i k l e h = subst P {x = get_or all i 0} {y = k} (omega (arith, get_or-range_with_len s.start (s.end - s.start) i 0 l)) h

    by : (b : Bool) → MatchBool b (AllWithin Yes all 0 (length all)) ((k : ℕ) × (k < length all) × HoldsAt No all k)
        → MatchBool b ((k : ℕ) → s.start ≤ k → k < s.end → Yes k) ((k : ℕ) × (s.start ≤ k) × (k < s.end) × No k)
    by true h = λ k a l. at Yes (k - s.start) k (omega arith) (omega arith) (h (k - s.start) 0 (omega arith) (omega (arith, long)))
    by false h = (s.start + h.0, omega arith, omega (arith, h.1, long), at No h.0 (s.start + h.0) (omega (arith, h.1, long)) refl (h.2 0))

pub decided : {A B : Type 0} (r b : Bool) → MatchBool r A B → (A → b ≡ true) → (B → b ≡ false) → r ≡ b
decided true b m f g = sym (f m)
decided false b m f g = sym (g m)

-- ---- zero bits

pub zeros-from : (n : ℕ) (l : List ℕ) (k : ℕ) → length l ≤ k + n → ((j : ℕ) → k ≤ j → j < length l → get_or l j 0 ≡ 0) → all_zero (drop k l) ≡ true
zeros-from zero l k h f = zero-end l k (omega arith)
zeros-from (suc n) l k h f = go (dec_lt k (length l)) (zeros-from n l (k + 1) (omega arith) (λ j a. f j (omega arith)))
  where
    go : Dec (k < length l) → all_zero (drop (k + 1) l) ≡ true → all_zero (drop k l) ≡ true
    go (yes m) r = zero-next l k m (f k (omega arith) m) ∙ r
    go (no m) r = zero-end l k (omega arith)

pub one-from : (n : ℕ) (l : List ℕ) (k j : ℕ) → j ≡ k + n → j < length l → (get_or l j 0 ≡ 0 → ⊥) → all_zero (drop k l) ≡ false
one-from zero l k j e h f = let x : j ≡ k = omega arith in one-next l k (omega arith) (subst (λ (i : ℕ). get_or l i 0 ≡ 0 → ⊥) x f)
one-from (suc n) l k j e h f = go (dec_lt 0 (get_or l k 0)) (one-from n l (k + 1) j (omega arith) h f)
  where
    go : Dec (0 < get_or l k 0) → all_zero (drop (k + 1) l) ≡ false → all_zero (drop k l) ≡ false
    go (yes m) r = one-next l k (omega arith) (λ z. omega arith)
    go (no m) r = zero-next l k (omega arith) (omega arith) ∙ r

-- ---- n lists that may not be there

pub all-there : (n : ℕ) (f : ℕ → Option (List ℕ)) → ((k : ℕ) → k < n → filled (f k) ≡ true) → filled (build_all n f) ≡ true
all-there zero f h = all_none f
all-there (suc n) f h = subst (λ (m : ℕ). filled (build_all m f) ≡ true) (add-one n) (all_more n f (all-there n f (λ k l. h k (omega arith))) (h n (omega arith)))
