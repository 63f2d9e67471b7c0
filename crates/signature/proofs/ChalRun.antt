-- Laws of Algorithm 10: what the sampler's map and polynomial say of the run, a draw, the end of it; and of the polynomial, its weight, length and
-- coefficients.
use mathlib.Core.Path.{◌≡◌, refl, sym, ap, ◌∙◌}
use mathlib.Core.Bool.{Bool, true, false}
use mathlib.Core.List.{List, [], ◌∷◌}
use mathlib.Core.Logic.{◌⊎◌, ⊎_elim}
use Prim.Native.Nat.{ℕ, zero, suc, min, ◌+◌, ◌*◌, ◌/◌, ◌%◌, ◌^◌, ◌≤◌, ◌<◌}
use native.Mathlib.Nat.{add_assoc, zero-div, not-suc-le-zero, le_of_suc-le-suc}
use native.Mathlib.Numerals.{add-one}
use native.Mathlib.Decide.{ℕ_discrete, le_ind}
use native.Mathlib.Omega.{arith}
use borrow.Author.Tests.{eq-eqb, ne_eqb}
use lib.Count.{ones}
use lib.Dec.{eqb}
use lib.IntN.{ℤ, pos, negsuc}
use lib.ListN.{length, get_or, set, replicate, length-set, get_or-replicate}
use lib.Seq.{get_or-set_same, get_or-set_other}
use mir.Syntax.{w8}
use mir.Val.{to_z, of_z}
use Rattle.hash.specs.Lists.{pick}
use Rattle.hash.specs.declared.params.Edition.{Edition}
use Rattle.signature.specs.Challenge.{chal_draw, place, minus_bit, sign, nz, weight, step, run, chal_draws, challenge}
use Rattle.std.specs.Prelude.{Some, None}
use Rattle.ring.specs.UniformSteps.{option_of}
use Rattle.ring.proofs.Filled.{held-there, held-missing}
use Rattle.signature.specs.ChallengeSteps.{bytes_of, block_of, bit_at, ones_of}
use Rattle.signature.specs.declared.challenge.Source.{Source}
use Rattle.signature.proofs.ChalBytes.{source_at, block-draws}
use Rattle.signature.proofs.ChalMap.{marked, mark-ones, mark-same, mark-other}

-- ---- weights

ones_none : (n : ℕ) → ones_of (replicate n 0) ≡ 0
unfolding ones_of ones
ones_none zero = refl
ones_none (suc n) = omega (arith, ones_none n)

weight-none : (n : ℕ) → weight (replicate n (pos 0)) ≡ 0
unfolding weight
weight-none zero = refl
weight-none (suc n) = omega (arith, weight-none n)

weight-set : (c : List ℤ) (p : ℕ) (z : ℤ) → p < length c → nz (get_or c p (pos 0)) ≡ 0 → nz z ≡ 1 → weight (set c p z) ≡ weight c + 1
unfolding weight
weight-set [] p z h f e = absurd (not-suc-le-zero h)
weight-set (x ∷ c) zero z h f e = omega arith
weight-set (x ∷ c) (suc p) z h f e = omega (arith, weight-set c p z (le_of_suc-le-suc h) f e)

nz-sign : (e : Edition) (d : ℕ) → nz (sign e d) ≡ 1
nz-sign e d = go (eqb (d % 2) (minus_bit e))
  where
    go : (b : Bool) → nz (pick b (negsuc 0) (pos 1)) ≡ 1
    go true = refl
    go false = refl

-- ---- the run

-- the map m and the polynomial c after `at` draws
pub record Held (e : Edition) (s : List ℕ) (w : ℕ) (m : List ℕ) (c : List ℤ) (at : ℕ) : Type 0 where
  pub is : c ≡ run e s w at
  pub words : length m ≡ 8
  pub size : length c ≡ 512
  pub same : (p : ℕ) → p < 512 → bit_at m p ≡ nz (get_or c p (pos 0))
  pub count : ones_of m ≡ weight c

pub run-start : (e : Edition) (s : List ℕ) (w at : ℕ) → at ≡ 0 → Held e s w (replicate 8 0) (replicate 512 (pos 0)) at
unfolding run
run-start e s w at h = record {
  is = rw h refl;
  words = refl;
  size = refl;
  same = λ p l.
      ap (λ (x : ℕ). x / 2 ^ (p % 64) % 2) (get_or-replicate 8 (p / 64) 0 0 (omega arith)) ∙ ap (λ (x : ℕ). x % 2) (zero-div (2 ^ (p % 64)))
      ∙ ap nz (sym (get_or-replicate 512 p (pos 0) (pos 0) l));
  count = ones_none 8 ∙ sym (weight-none 512);
}

module _ {e : Edition} {s : List ℕ} {w : ℕ} {m : List ℕ} {c : List ℤ} {at : ℕ} (held : Held e s w m c at)
    (few : weight c ≡ w → ⊥) (d : ℕ) (is-draw : d ≡ chal_draw s at) where
  low : place d < 512
  low = omega arith

  run_step : run e s w (at + 1) ≡ step e c d
  unfolding run
  run_step = rw (add-one, run, ← held.is, ne_eqb _ _ few, ← is-draw)

  dropped : (bit_at m (place d) ≡ 0 → ⊥) → Held e s w m c (at + 1)
  unfolding step
  dropped t = record {
    is = sym (run_step ∙ ap (λ (b : Bool). pick b (set c (place d) (sign e d)) c) (ne_eqb _ 0 (λ x. t (held.same (place d) low ∙ x))));
    words = held.words;
    size = held.size;
    same = held.same;
    count = held.count;
  }

  put : bit_at m (place d) ≡ 0 → Held e s w (marked m (place d)) (set c (place d) (sign e d)) (at + 1)
  unfolding step
  put t =
      let f : nz (get_or c (place d) (pos 0)) ≡ 0 = sym (held.same (place d) low) ∙ t in
      let i : place d < length c = omega (arith, low, held.size) in
      record {
        is = sym (run_step ∙ ap (λ (b : Bool). pick b (set c (place d) (sign e d)) c) (eq-eqb _ 0 f));
        words = length-set m _ _ ∙ held.words;
        size = length-set c _ _ ∙ held.size;
        same = λ p h. go p h i (ℕ_discrete p (place d));
        count = mark-ones m (place d) held.words low t ∙ ap (λ (n : ℕ). n + 1) held.count ∙ sym (weight-set c (place d) (sign e d) i f (nz-sign e d));
      }
    where
      go : (p : ℕ) → p < 512 → place d < length c → Dec (p ≡ place d) → bit_at (marked m (place d)) p ≡ nz (get_or (set c (place d) (sign e d)) p (pos 0))
      go p h i (yes x) =
          rw x (mark-same m (place d) held.words low t ∙ sym (ap nz (get_or-set_same c (place d) (sign e d) (pos 0) i) ∙ nz-sign e d))
      go p h i (no n) = mark-other m (place d) held.words low p n ∙ held.same p h ∙ ap nz (sym (get_or-set_other c (place d) p (sign e d) (pos 0) n))

-- a draw in the terms of the code: k the ones of the map, d the draw, p its position, t the bit there, m' the map and z the sign that are stored
module _ {e : Edition} {s : List ℕ} {w : ℕ} {m : List ℕ} {c : List ℤ} {at : ℕ} (held : Held e s w m c at)
    (k : ℕ) (is-count : k ≡ ones_of m) (few : k ≡ w → ⊥) (d p t : ℕ) (is-draw : d ≡ chal_draw s at) (is-place : p ≡ place d) (is-bit : t ≡ bit_at m p) where
  few-taken : weight c ≡ w → ⊥
  few-taken x = few (is-count ∙ held.count ∙ x)

  pub turn-drop : (t ≡ 0 → ⊥) → Held e s w m c (at + 1)
  turn-drop h = dropped held few-taken d is-draw (λ x. h (is-bit ∙ ap (bit_at m) is-place ∙ x))

  pub turn-put : t ≡ 0 → (m' : List ℕ) → m' ≡ marked m p → (z : ℤ) → z ≡ sign e d → Held e s w m' (set c p z) (at + 1)
  turn-put h m' x z f = rw (x, f, is-place) (put held few-taken d is-draw (ap (bit_at m) (sym is-place) ∙ sym is-bit ∙ h))

-- the draws of a block b, m of them, from the map m₀ and the polynomial c₀ to m₁ and c₁ after j: whatever stream they are part of
pub record Carried (e : Edition) (w m : ℕ) (b m₀ : List ℕ) (c₀ : List ℤ) (m₁ : List ℕ) (c₁ : List ℤ) (j : ℕ) : Type 0 where
  pub on : (s : List ℕ) (at : ℕ) → ((i : ℕ) → i < m → chal_draw b i ≡ chal_draw s (at + i)) → Held e s w m₀ c₀ at → Held e s w m₁ c₁ (at + j)

module _ {e : Edition} {w m : ℕ} {b m₀ : List ℕ} {c₀ : List ℤ} {m₁ : List ℕ} {c₁ : List ℤ} {j : ℕ} (held : Carried e w m b m₀ c₀ m₁ c₁ j) (inside : j < m)
    (k : ℕ) (is-count : k ≡ ones_of m₁) (few : k ≡ w → ⊥) (d p t : ℕ) (is-draw : d ≡ chal_draw b j) (is-place : p ≡ place d) (is-bit : t ≡ bit_at m₁ p) where
  pub carried_drop : (t ≡ 0 → ⊥) → Carried e w m b m₀ c₀ m₁ c₁ (j + 1)
  carried_drop h = record {
    on = λ s at f x. rw add_assoc at (turn-drop (held.on s at f x) k is-count few d p t (is-draw ∙ f j inside) is-place is-bit h);
  }

  pub carried-put : t ≡ 0 → (m' : List ℕ) → m' ≡ marked m₁ p → (z : ℤ) → z ≡ sign e d → Carried e w m b m₀ c₀ m' (set c₁ p z) (j + 1)
  carried-put h m' g z y = record {
    on = λ s at f x. rw add_assoc at (turn-put (held.on s at f x) k is-count few d p t (is-draw ∙ f j inside) is-place is-bit h m' g z y);
  }

-- .. of block i of what is drawn from
pub through : {e : Edition} {w m j : ℕ} {b m₀ : List ℕ} {c₀ : List ℤ} {m₁ : List ℕ} {c₁ : List ℤ} (x y : Source) (n i : ℕ)
    → Held e (bytes_of x) w m₀ c₀ (min n (i * 68)) → y ≡ source_at i x → b ≡ block_of y i → i * 68 < n → n ≤ 1088 → m ≤ 68
    → Carried e w m b m₀ c₀ m₁ c₁ j → Held e (bytes_of x) w m₁ c₁ (i * 68 + j)
through {m = m} {b = b} x y n i held e f h l g carried =
    let z : min n (i * 68) ≡ i * 68 = omega arith in
    carried.on (bytes_of x) (i * 68) (block-draws x y b i m e f (omega arith) g) (rw z at held)

-- a sign that is stored as a byte and read back
pub stored-sign : (e : Edition) (d : ℕ) (z : ℤ) → z ≡ sign e d → to_z w8 (of_z w8 z) ≡ sign e d
stored-sign e d z x = rw x (go (eqb (d % 2) (minus_bit e)))
  where
    go : (b : Bool) → to_z w8 (of_z w8 (pick b (negsuc 0) (pos 1))) ≡ pick b (negsuc 0) (pos 1)
    go true = refl
    go false = refl

-- ---- its end

-- once full, the run stays as it is
stays : (e : Edition) (s : List ℕ) (w i n : ℕ) → weight (run e s w i) ≡ w → i ≤ n → run e s w n ≡ run e s w i
unfolding run
stays e s w i n x h = le_ind (λ (k : ℕ). run e s w k ≡ run e s w i) refl (λ k l ih. rw (run, eq-eqb _ _ (ap weight ih ∙ x)) ih) n h

module _ {e : Edition} {s : List ℕ} {w : ℕ} {m : List ℕ} {c : List ℤ} {at : ℕ} (held : Held e s w m c at) (k : ℕ) (is-count : k ≡ ones_of m) where
  pub full : at ≤ chal_draws (length s) → k ≡ w → Some c ≡ option_of (challenge e w s)
  unfolding challenge
  full h x =
      let f : weight (run e s w at) ≡ w = ap weight (sym held.is) ∙ sym held.count ∙ sym is-count ∙ x in
      held-there _ c (rw (stays e s w at (chal_draws (length s)) f h, eq-eqb _ _ f, ← held.is))

  pub gone : (ones_of m ≡ w) ⊎ (at ≡ chal_draws (length s)) → (k ≡ w → ⊥) → None ≡ option_of (challenge e w s)
  unfolding challenge
  gone h x =
      let n : weight (run e s w (chal_draws (length s))) ≡ w → ⊥ =
      λ y. x (is-count ∙ ⊎_elim (λ f. f) (λ f. held.count ∙ ap weight (held.is ∙ ap (run e s w) f) ∙ y) h) in
      held-missing _ (rw (ne_eqb _ _ n))
