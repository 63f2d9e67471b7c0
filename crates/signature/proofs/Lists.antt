-- Laws of several numbers.
use Prim.Native.Nat.{ℕ, zero, suc, ◌+◌, ◌-◌, ◌≤◌, ◌<◌}
use mathlib.Core.Path.{◌≡◌, refl, sym, ap, ◌∙◌}
use mathlib.Core.List.{List, [], ◌∷◌, ◌++◌, append_assoc, append-nil}
use mathlib.Core.Option.{Option, some, none}
use native.Mathlib.Omega.{arith}
use native.Mathlib.Nat.{not-suc-le-zero, le_of_suc-le-suc}
use native.Mathlib.Numerals.{add-one}
use native.Mathlib.Decide.{le_ind, dec_lt, ℕ_discrete}
use Rattle.std.specs.Prelude.{Some, None}
use lib.IntN.{ℤ, pos}
use lib.ListN.{length, get_or, set, take, drop, length-append, length-drop}
use lib.Seq.{sets, take-suc-set, drop-drop}
use Rattle.signature.specs.Code.{code, signed_of, codes, run_of, mag_of, read_code, read_codes}
use Rattle.signature.specs.AnswerSteps.{got_of}
use Rattle.signature.proofs.Strings.{sets-append}
use Rattle.signature.proofs.Codes.{read_short, read-zero, read-cut, read_some}

codes-suc : (w : ℕ) (zs : List ℤ) (i : ℕ) → i < length zs → codes w (take (suc i) zs) ≡ codes w (take i zs) ++ code w (get_or zs i (pos 0))
unfolding codes
codes-suc w [] i h = absurd (not-suc-le-zero h)
codes-suc w (z ∷ zs) zero h = append-nil (code w z)
codes-suc w (z ∷ zs) (suc i) h = ap (λ (l : List ℕ). code w z ++ l) (codes-suc w zs i (le_of_suc-le-suc h)) ∙ sym (append_assoc (code w z) (codes w (take i zs)) (code w (get_or zs i (pos 0))))

codes-le : (w : ℕ) (zs : List ℤ) (i : ℕ) → length (codes w (take i zs)) ≤ length (codes w zs)
unfolding codes
codes-le w zs zero = omega arith
codes-le w [] (suc i) = omega arith
codes-le w (z ∷ zs) (suc i) = omega (arith, length-append (code w z) (codes w (take i zs)), length-append (code w z) (codes w zs), codes-le w zs i)

module _ (w : ℕ) (zs : List ℤ) (i : ℕ) (h : i < length zs) where
  pub codes-more : codes w (take (i + 1) zs) ≡ codes w (take i zs) ++ code w (get_or zs i (pos 0))
  codes-more = rw add-one (codes-suc w zs i h)

  pub codes-next : length (codes w (take (i + 1) zs)) ≡ length (codes w (take i zs)) + length (code w (get_or zs i (pos 0)))
  codes-next = ap length codes-more ∙ length-append (codes w (take i zs)) (code w (get_or zs i (pos 0)))

  pub codes-room : length (codes w (take i zs)) + length (code w (get_or zs i (pos 0))) ≤ length (codes w zs)
  codes-room = omega (arith, codes-next, codes-le w zs (i + 1))

  pub write-more : (l m m' : List ℕ) (at : ℕ) → m ≡ sets l at (codes w (take i zs)) → m' ≡ sets m (at + length (codes w (take i zs))) (code w (get_or zs i (pos 0)))
      → m' ≡ sets l at (codes w (take (i + 1) zs))
  write-more l m m' at p q =
      q ∙ ap (λ (x : List ℕ). sets x (at + length (codes w (take i zs))) (code w (get_or zs i (pos 0)))) p
      ∙ sym (ap (sets l at) codes-more ∙ sets-append l at (codes w (take i zs)) (code w (get_or zs i (pos 0))))

-- ---- reading

got-code : (at : ℕ) (o : Option (ℤ × ℕ)) (z : ℤ) (next : ℕ) → Some (z, next) ≡ got_of at o → (k : ℕ) × (o ≡ some (z, k)) × (next ≡ at + k)
got-code at none z next e = let x : ◌≡◌ {A = ℕ} 0 1 = cc in absurd (omega arith)
got-code at (some r) z next e =
    let p : ◌≡◌ {A = ℤ × ℕ} (z, next) (r.0, at + r.1) = cc in
    (r.1, ap (λ (x : ℤ × ℕ). some (x.0, r.1)) (sym p), ap (λ (x : ℤ × ℕ). x.1) p)

got-none : (at : ℕ) (o : Option (ℤ × ℕ)) → None ≡ got_of at o → o ≡ none
got-none at none e = refl
got-none at (some r) e = let x : ◌≡◌ {A = ℕ} 0 1 = cc in absurd (omega arith)

pub read_more : (w : ℕ) (t : List ℕ) (i j k : ℕ) (xs : List ℤ) (z : ℤ) → read_codes w i t ≡ some (xs, j) → read_code w (drop j t) ≡ some (z, k) → read_codes w (i + 1) t ≡ some (xs ++ (z ∷ []), j + k)
unfolding read_codes
read_more w t i j k xs z e f = rw (add-one, read_codes, e, f)

-- a turn of the reader: number i, read behind j bits, goes into place i of out
pub read-turn : (w : ℕ) (t : List ℕ) (i j k n : ℕ) (out : List ℤ) (z y : ℤ) → i < length out → y ≡ z → read_codes w i t ≡ some (take i out, j)
    → read_code w (drop j t) ≡ some (z, k) → j + k ≡ n → read_codes w (i + 1) t ≡ some (take (i + 1) (set out i y), n)
read-turn w t i j k n out z y h e f g s = rw (read_more w t i j k (take i out) z f g, s, e, add-one, take-suc-set out i z h)

read_none : (w : ℕ) (t : List ℕ) (i j : ℕ) (xs : List ℤ) → read_codes w i t ≡ some (xs, j) → read_code w (drop j t) ≡ none → read_codes w (suc i) t ≡ none
unfolding read_codes
read_none w t i j xs e f = rw (read_codes, e, f)

none_left : (w : ℕ) (t : List ℕ) (i j n : ℕ) (xs : List ℤ) → read_codes w i t ≡ some (xs, j) → read_code w (drop j t) ≡ none → i < n → read_codes w n t ≡ none
unfolding read_codes
none_left w t i j n xs e f h = le_ind (λ (m : ℕ). read_codes w m t ≡ none) (read_none w t i j xs e f) (λ m k ih. rw (read_codes, ih)) n h

pub read-le : (w : ℕ) (t : List ℕ) (z : ℤ) (k : ℕ) → read_code w t ≡ some (z, k) → k ≤ length t
read-le w t z k e = go₁ (dec_lt (w + run_of (drop w t)) (length t))
  where
    go₃ : w + run_of (drop w t) < length t → (mag_of w t ≡ 0 → ⊥) → Dec (w + run_of (drop w t) + 1 < length t) → k ≤ length t
    go₃ s h (yes l) =
        let r = read_some w t _ _ refl refl s h _ refl l in
        let p : ◌≡◌ {A = ℤ × ℕ} (z, k) (signed_of (mag_of w t) (get_or t (w + run_of (drop w t) + 1) 0), w + run_of (drop w t) + 2) = cc in
        omega (arith, ap (λ (x : ℤ × ℕ). x.1) p)
    go₃ s h (no l) = let r = read-cut w t _ _ refl refl s h (omega (arith, l)) in let x : ◌≡◌ {A = ℕ} 0 1 = cc in absurd (omega arith)

    go₂ : w + run_of (drop w t) < length t → Dec (mag_of w t ≡ 0) → k ≤ length t
    go₂ s (yes h) =
        let r = read-zero w t _ _ refl refl s h in
        let p : ◌≡◌ {A = ℤ × ℕ} (z, k) (pos 0, w + run_of (drop w t) + 1) = cc in
        omega (arith, ap (λ (x : ℤ × ℕ). x.1) p)
    go₂ s (no h) = go₃ s h (dec_lt (w + run_of (drop w t) + 1) (length t))

    go₁ : Dec (w + run_of (drop w t) < length t) → k ≤ length t
    go₁ (yes s) = go₂ s (ℕ_discrete (mag_of w t) 0)
    go₁ (no s) = let r = read_short w t (omega (arith, s)) in let x : ◌≡◌ {A = ℕ} 0 1 = cc in absurd (omega arith)

-- ---- the reader at place k: the numbers begin at `at`, i of them are read and lie in out

pub past-start : (F : List ℕ) (at k : ℕ) → at ≤ k → drop (k - at) (drop at F) ≡ drop k F
past-start F at k h = let e : at + (k - at) ≡ k = omega arith in drop-drop (k - at) at F ∙ ap (λ (n : ℕ). drop n F) e

module _ (F : List ℕ) (w at k i : ℕ) (out : List ℤ) (order : at ≤ k) (e : read_codes w i (drop at F) ≡ some (take i out, k - at)) where
  -- the next has too few bits
  pub read-stopped : (n : ℕ) → i < n → None ≡ got_of k (read_code w (drop k F)) → read_codes w n (drop at F) ≡ none
  read-stopped n h b =
      none_left w (drop at F) i (k - at) n (take i out) e (ap (read_code w) (past-start F at k order) ∙ got-none k (read_code w (drop k F)) b) h

  -- the next is z, and goes into place i as y
  pub read-on : (z y : ℤ) (next : ℕ) → y ≡ z → i < length out → k ≤ length F → Some (z, next) ≡ got_of k (read_code w (drop k F))
      → (at ≤ next) × (next ≤ length F) × (read_codes w (i + 1) (drop at F) ≡ some (take (i + 1) (set out i y), next - at))
  read-on z y next same h l g =
      let f = got-code k (read_code w (drop k F)) z next g in
      let x : k - at + f.0 ≡ next - at = omega (arith, f.2) in (
        omega (arith, f.2),
        omega (arith, f.2, read-le w (drop k F) z f.0 f.1, length-drop k F),
        read-turn w (drop at F) i (k - at) f.0 (next - at) out z y h same e (ap (read_code w) (past-start F at k order) ∙ f.1) x,
      )
