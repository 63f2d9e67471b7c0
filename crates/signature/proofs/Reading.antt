-- Reading the whole signature: the reader's steps and the definition.
use Prim.Native.Nat.{ℕ, zero, suc, ◌+◌, ◌≤◌}
use mathlib.Core.Path.{◌≡◌, refl, sym, ap, subst, ◌∙◌}
use mathlib.Core.Bool.{Bool, true, false}
use mathlib.Core.List.{List, [], ◌∷◌, ◌++◌}
use mathlib.Core.Option.{Option, some, none}
use native.Mathlib.Omega.{arith}
use lib.IntN.{ℤ}
use lib.ListN.{length, take, drop, length-drop}
use lib.Seq.{drop_at, drop-drop, take-add}
use Rattle.std.specs.Prelude.{Option as Answer, Some, None}
use Rattle.signature.specs.Code.{codes, read_code, read_codes, one_more, then_one}
use Rattle.signature.specs.Form.{read_both}
use Rattle.signature.specs.AnswerSteps.{NextOf, all_zero, ReadOf}
use Rattle.signature.proofs.Lists.{read-le}
use Rattle.signature.proofs.Strings.{Bits, bits-drop}
use Rattle.signature.proofs.Whole.{trips, canons}

-- ---- the answer of several numbers

module _ (at : ℕ) (zs : List ℤ) where
  pub next-no : (o : Option (List ℤ × ℕ)) (r : Answer ℕ) → None ≡ r → NextOf at o r zs → o ≡ none
  next-no none r e n = refl
  next-no (some s) r e n = let p = e ∙ n.0 in let x : ◌≡◌ {A = ℕ} 0 1 = cc in absurd (omega arith)

  pub next-at : (o : Option (List ℤ × ℕ)) (k : ℕ) (r : Answer ℕ) → Some k ≡ r → NextOf at o r zs → (j : ℕ) × (o ≡ some (zs, j)) × (k ≡ at + j)
  next-at none k r e n = let p = e ∙ n in let x : ◌≡◌ {A = ℕ} 0 1 = cc in absurd (omega arith)
  next-at (some s) k r e n =
      let p = e ∙ n.0 in
      let b : k ≡ at + s.1 = cc in
      (s.1, ap (λ (x : List ℤ). some (x, s.1)) (sym n.1), b)

-- ---- numbers lie within their bits

one-le : (t : List ℕ) (w : ℕ) (r : List ℤ × ℕ) (o : Option (ℤ × ℕ)) (zs : List ℤ) (k : ℕ) → r.1 ≤ length t → read_code w (drop r.1 t) ≡ o
    → one_more r o ≡ some (zs, k) → k ≤ length t
one-le t w r none zs k h f g = let x : ◌≡◌ {A = ℕ} 0 1 = cc in absurd (omega arith)
one-le t w r (some s) zs k h f g =
    let p : ◌≡◌ {A = List ℤ × ℕ} (r.0 ++ (s.0 ∷ []), r.1 + s.1) (zs, k) = cc in
    omega (arith, ap (λ (x : List ℤ × ℕ). x.1) p, read-le w (drop r.1 t) s.0 s.1 f, length-drop r.1 t)

then-le : (t : List ℕ) (w : ℕ) (o : Option (List ℤ × ℕ)) (zs : List ℤ) (k : ℕ) → ((xs : List ℤ) (j : ℕ) → o ≡ some (xs, j) → j ≤ length t)
    → then_one w t o ≡ some (zs, k) → k ≤ length t
then-le t w none zs k ih g = let x : ◌≡◌ {A = ℕ} 0 1 = cc in absurd (omega arith)
then-le t w (some r) zs k ih g = one-le t w r (read_code w (drop r.1 t)) zs k (ih r.0 r.1 refl) refl g

pub reads-le : (w n : ℕ) (t : List ℕ) (zs : List ℤ) (k : ℕ) → read_codes w n t ≡ some (zs, k) → k ≤ length t
unfolding read_codes
reads-le w zero t zs k e = let p : ◌≡◌ {A = List ℤ × ℕ} ([], 0) (zs, k) = cc in omega (arith, ap (λ (x : List ℤ × ℕ). x.1) p)
reads-le w (suc n) t zs k e = then-le t w (read_codes w n t) zs k (λ xs j f. reads-le w n t xs j f) e

-- ---- hint and response

module _ (n m : ℕ) (t : List ℕ) where
  pub no-hint : read_codes 0 n t ≡ none → read_both n m t ≡ none
  unfolding read_both
  no-hint e = rw e

  module _ (h : List ℤ) (i : ℕ) (e : read_codes 0 n t ≡ some (h, i)) where
    no-response : read_codes 40 m (drop i t) ≡ none → read_both n m t ≡ none
    unfolding read_both
    no-response g = rw (e, g)

    both-lists : (z : List ℤ) (j : ℕ) → read_codes 40 m (drop i t) ≡ some (z, j) → read_both n m t ≡ some (h, z, i + j)
    unfolding read_both
    both-lists z j g = rw (e, g)

-- what is written is read back
pub both-trip : (h z : List ℤ) (r : List ℕ) → read_both (length h) (length z) (codes 0 h ++ (codes 40 z ++ r)) ≡ some (h, z, length (codes 0 h) + length (codes 40 z))
both-trip h z r =
    let C = codes 0 h in
    let D = codes 40 z in
    let e = ap (read_codes 40 (length z)) (drop_at C (D ++ r) (length C) refl) ∙ trips 40 z r in
    both-lists (length h) (length z) (C ++ (D ++ r)) h (length C) (trips 0 h (D ++ r)) z (length D) e

-- the bits read are those that the writer makes of the numbers, of which there are n and m
abbrev Coded : ℕ → ℕ → List ℕ → List ℤ × List ℤ × ℕ → Type 0
Coded n m t x = (take x.2 t ≡ codes 0 x.0 ++ codes 40 x.1) × (length x.0 ≡ n) × (length x.1 ≡ m)

pub both-canon : (n m : ℕ) (t : List ℕ) (h z : List ℤ) (k : ℕ) → Bits t → read_both n m t ≡ some (h, z, k)
    → (take k t ≡ codes 0 h ++ codes 40 z) × (length h ≡ n) × (length z ≡ m)
both-canon n m t h z k bits e = go (read_codes 0 n t) refl
  where
    go₂ : (a : List ℤ × ℕ) → read_codes 0 n t ≡ some a → (o : Option (List ℤ × ℕ)) → read_codes 40 m (drop a.1 t) ≡ o → Coded n m t (h, z, k)
    go₂ a g none l = let q = no-response n m t a.0 a.1 g l in let y : ◌≡◌ {A = ℕ} 0 1 = cc in absurd (omega arith)
    go₂ a g (some c) l =
        let q = both-lists n m t a.0 a.1 g c.0 c.1 l in
        let r : ◌≡◌ {A = List ℤ × List ℤ × ℕ} (a.0, c.0, a.1 + c.1) (h, z, k) = cc in
        let u = canons 0 n t a.0 a.1 bits g in
        let v = canons 40 m (drop a.1 t) c.0 c.1 (bits-drop a.1 t bits) l in
        let w = take-add a.1 c.1 t ∙ ap (λ (x : List ℕ). x ++ take c.1 (drop a.1 t)) u.0 ∙ ap (λ (x : List ℕ). codes 0 a.0 ++ x) v.0 in
        subst (Coded n m t) r (w, u.1, v.1)

    go : (o : Option (List ℤ × ℕ)) → read_codes 0 n t ≡ o → Coded n m t (h, z, k)
    go none g = let q = no-hint n m t g in let y : ◌≡◌ {A = ℕ} 0 1 = cc in absurd (omega arith)
    go (some a) g = go₂ a g (read_codes 40 m (drop a.1 t)) refl

-- ---- the reader's ways out

pub read_none : (o : Option (List ℤ × List ℤ × ℕ)) (t : List ℕ) (h z : List ℤ) → o ≡ none → ReadOf o t false h z
read_none o t h z e = rw e refl

-- n and m numbers of the bits F from `at` on; the hint ends at a, the response at b
module _ (n m : ℕ) (F : List ℕ) (at : ℕ) (h : List ℤ) (i a : ℕ) (e : read_codes 0 n (drop at F) ≡ some (h, i)) (end : a ≡ at + i) where
  behind-hint : drop i (drop at F) ≡ drop a F
  behind-hint = drop-drop i at F ∙ ap (λ (k : ℕ). drop k F) (sym end)

  pub hint-room : at ≤ length F → a ≤ length F
  hint-room l = omega (arith, reads-le 0 n (drop at F) h i e, length-drop at F)

  pub hint-only : read_codes 40 m (drop a F) ≡ none → read_both n m (drop at F) ≡ none
  hint-only f = no-response n m (drop at F) h i e (ap (read_codes 40 m) behind-hint ∙ f)

  pub read-both : (z : List ℤ) (j b : ℕ) (r : Bool) → read_codes 40 m (drop a F) ≡ some (z, j) → b ≡ a + j → r ≡ all_zero (drop b F)
      → ReadOf (read_both n m (drop at F)) (drop at F) r h z
  read-both z j b r f g k =
      let l : at + (i + j) ≡ b = omega arith in
      let d : drop (i + j) (drop at F) ≡ drop b F = drop-drop (i + j) at F ∙ ap (λ (x : ℕ). drop x F) l in
      subst (λ (o : Option (List ℤ × List ℤ × ℕ)). ReadOf o (drop at F) r h z) (sym (both-lists n m (drop at F) h i e z j (ap (read_codes 40 m) behind-hint ∙ f)))
      (k ∙ ap all_zero (sym d), refl, refl)

-- ---- what a caller learns from the answer

-- h and z stand at the front of the bits t, and every bit behind them is 0
pub record ZeroFilled (n m : ℕ) (t : List ℕ) (h z : List ℤ) : Type 0 where
  pub place : ℕ
  pub both_is : read_both n m t ≡ some (h, z, place)
  pub fill-zero : all_zero (drop place t) ≡ true

module _ (n m : ℕ) (t : List ℕ) (h z : List ℤ) where
  pub read-true : ReadOf (read_both n m t) t true h z → ZeroFilled n m t h z
  read-true u = go (read_both n m t) refl u
    where
      go : (o : Option (List ℤ × List ℤ × ℕ)) → read_both n m t ≡ o → ReadOf o t true h z → ZeroFilled n m t h z
      go none g v = let x : ◌≡◌ {A = ℕ} 0 1 = cc in absurd (omega arith)
      go (some x) g v =
          let a = v.1 in
          let b = v.2 in
          let e : ◌≡◌ {A = List ℤ × List ℤ × ℕ} (x.0, x.1, x.2) (h, z, x.2) = cc in
          record { place = x.2; both_is = g ∙ ap some e; fill-zero = sym v.0 }

  pub read-false : ReadOf (read_both n m t) t false h z → (h' z' : List ℤ) → ZeroFilled n m t h' z' → ⊥
  read-false u h' z' a =
      let v = subst (λ (o : Option (List ℤ × List ℤ × ℕ)). ReadOf o t false h z) a.both_is u in
      let e : ◌≡◌ {A = Bool} false true = v.0 ∙ a.fill-zero in
      let x : ◌≡◌ {A = ℕ} 0 1 = cc in
      omega arith
