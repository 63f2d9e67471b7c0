-- Several numbers: what is written is read back, and what is read is what the writer writes of it.
use Prim.Native.Nat.{ℕ, zero, suc, ◌+◌}
use mathlib.Core.Path.{◌≡◌, refl, sym, ap, ◌∙◌}
use mathlib.Core.List.{List, [], ◌∷◌, ◌++◌, append_assoc, append-nil}
use mathlib.Core.Option.{Option, some, none}
use native.Mathlib.Omega.{arith}
use native.Mathlib.Nat.{add-zero, zero-add}
use native.Mathlib.Numerals.{add-one}
use lib.IntN.{ℤ}
use lib.ListN.{length, take, drop, length-append}
use lib.Seq.{drop_at, take-add}
use Rattle.signature.specs.Code.{code, codes, read_code, read_codes, then_one, one_more}
use Rattle.signature.proofs.Strings.{Bits, bits-drop}
use Rattle.signature.proofs.Lists.{read_more}
use Rattle.signature.proofs.Trip.{trip}
use Rattle.signature.proofs.Canon.{canon}

codes-append : (w : ℕ) (xs ys : List ℤ) → codes w (xs ++ ys) ≡ codes w xs ++ codes w ys
unfolding codes
codes-append w [] ys = refl
codes-append w (x ∷ xs) ys = ap (λ (l : List ℕ). code w x ++ l) (codes-append w xs ys) ∙ sym (append_assoc (code w x) (codes w xs) (codes w ys))

-- the numbers xs, then z, then more bits
step : (w : ℕ) (xs : List ℤ) (z : ℤ) (rest : List ℕ) (n : ℕ) → read_codes w n (codes w xs ++ (code w z ++ rest)) ≡ some (xs, length (codes w xs))
    → read_codes w (suc n) (codes w xs ++ (code w z ++ rest)) ≡ some (xs ++ (z ∷ []), length (codes w (xs ++ (z ∷ []))))
unfolding codes
step w xs z rest n e =
    let t = codes w xs ++ (code w z ++ rest) in
    let d : read_code w (drop (length (codes w xs)) t) ≡ some (z, length (code w z)) = ap (read_code w) (drop_at (codes w xs) (code w z ++ rest) (length (codes w xs)) refl) ∙ trip w z rest in
    let k : length (codes w xs) + length (code w z) ≡ length (codes w (xs ++ (z ∷ []))) =
    sym (length-append (codes w xs) (code w z)) ∙ ap length (ap (λ (l : List ℕ). codes w xs ++ l) (sym (append-nil (code w z))) ∙ sym (codes-append w xs (z ∷ []))) in
    ap (λ (m : ℕ). read_codes w m t) (sym (add-one n)) ∙ read_more w t n (length (codes w xs)) (length (code w z)) xs z e d ∙ ap (λ (m : ℕ). some (xs ++ (z ∷ []), m)) k

codes-snoc : (w : ℕ) (xs : List ℤ) (z : ℤ) → codes w (xs ++ (z ∷ [])) ≡ codes w xs ++ code w z
unfolding codes
codes-snoc w xs z = codes-append w xs (z ∷ []) ∙ ap (λ (l : List ℕ). codes w xs ++ l) (append-nil (code w z))

-- xs are read; so are xs and zs
go : (w : ℕ) (zs xs : List ℤ) (t rest : List ℕ) (n : ℕ) → t ≡ codes w xs ++ (codes w zs ++ rest) → read_codes w n t ≡ some (xs, length (codes w xs))
    → read_codes w (n + length zs) t ≡ some (xs ++ zs, length (codes w (xs ++ zs)))
unfolding codes
go w [] xs t rest n p e = ap (λ (m : ℕ). read_codes w m t) (add-zero n) ∙ e ∙ ap (λ (ys : List ℤ). some (ys, length (codes w ys))) (sym (append-nil xs))
go w (z ∷ zs) xs t rest n p e =
    let h : t ≡ codes w xs ++ (code w z ++ (codes w zs ++ rest)) = p ∙ ap (λ (l : List ℕ). codes w xs ++ l) (append_assoc (code w z) (codes w zs) rest) in
    let s : read_codes w (suc n) t ≡ some (xs ++ (z ∷ []), length (codes w (xs ++ (z ∷ [])))) =
    ap (read_codes w (suc n)) h ∙ step w xs z (codes w zs ++ rest) n (ap (read_codes w n) (sym h) ∙ e) in
    let q : t ≡ codes w (xs ++ (z ∷ [])) ++ (codes w zs ++ rest) =
    h ∙ sym (append_assoc (codes w xs) (code w z) (codes w zs ++ rest)) ∙ ap (λ (l : List ℕ). l ++ (codes w zs ++ rest)) (sym (codes-snoc w xs z)) in
    let m : n + suc (length zs) ≡ suc n + length zs = omega arith in
    ap (λ (k : ℕ). read_codes w k t) m ∙ go w zs (xs ++ (z ∷ [])) t rest (suc n) q s
    ∙ ap (λ (ys : List ℤ). some (ys, length (codes w ys))) (append_assoc xs (z ∷ []) zs)

-- reading what was written gives the numbers back
pub trips : (w : ℕ) (zs : List ℤ) (rest : List ℕ) → read_codes w (length zs) (codes w zs ++ rest) ≡ some (zs, length (codes w zs))
unfolding codes read_codes
trips w zs rest = ap (λ (n : ℕ). read_codes w n (codes w zs ++ rest)) (sym (zero-add (length zs))) ∙ go w zs [] (codes w zs ++ rest) rest 0 refl refl

-- ---- and what is read is written so

last : (w : ℕ) (t : List ℕ) (r : List ℤ × ℕ) (o : Option (ℤ × ℕ)) (zs : List ℤ) (k : ℕ) → Bits t → take r.1 t ≡ codes w r.0 → read_code w (drop r.1 t) ≡ o
    → one_more r o ≡ some (zs, k) → (take k t ≡ codes w zs) × (length zs ≡ length r.0 + 1)
last w t r none zs k h e f g = let x : ◌≡◌ {A = ℕ} 0 1 = cc in absurd (omega arith)
last w t r (some s) zs k h e f g =
    let p : ◌≡◌ {A = List ℤ × ℕ} (r.0 ++ (s.0 ∷ []), r.1 + s.1) (zs, k) = cc in
    let a : take (r.1 + s.1) t ≡ codes w (r.0 ++ (s.0 ∷ [])) =
    take-add r.1 s.1 t ∙ ap (λ (l : List ℕ). l ++ take s.1 (drop r.1 t)) e
    ∙ ap (λ (l : List ℕ). codes w r.0 ++ l) (canon w (drop r.1 t) s.0 s.1 (bits-drop r.1 t h) f) ∙ sym (codes-snoc w r.0 s.0) in (
      ap (λ (x : List ℤ × ℕ). take x.1 t) (sym p) ∙ a ∙ ap (λ (x : List ℤ × ℕ). codes w x.0) p,
      ap (λ (x : List ℤ × ℕ). length x.0) (sym p) ∙ length-append r.0 (s.0 ∷ []),
    )

then-last : (w n : ℕ) (t : List ℕ) (o : Option (List ℤ × ℕ)) (zs : List ℤ) (k : ℕ) → Bits t
    → ((xs : List ℤ) (j : ℕ) → o ≡ some (xs, j) → (take j t ≡ codes w xs) × (length xs ≡ n))
    → then_one w t o ≡ some (zs, k) → (take k t ≡ codes w zs) × (length zs ≡ suc n)
then-last w n t none zs k h ih g = let x : ◌≡◌ {A = ℕ} 0 1 = cc in absurd (omega arith)
then-last w n t (some r) zs k h ih g =
    let i = ih r.0 r.1 refl in
    let l = last w t r (read_code w (drop r.1 t)) zs k h i.0 refl g in
    (l.0, omega (arith, l.1, i.1))

pub canons : (w n : ℕ) (t : List ℕ) (zs : List ℤ) (k : ℕ) → Bits t → read_codes w n t ≡ some (zs, k) → (take k t ≡ codes w zs) × (length zs ≡ n)
unfolding read_codes codes
canons w zero t zs k h e =
    let p : ◌≡◌ {A = List ℤ × ℕ} ([], 0) (zs, k) = cc in
    (ap (λ (x : List ℤ × ℕ). take x.1 t) (sym p) ∙ ap (λ (x : List ℤ × ℕ). codes w x.0) p, ap (λ (x : List ℤ × ℕ). length x.0) (sym p))
canons w (suc n) t zs k h e = then-last w n t (read_codes w n t) zs k h (λ xs j f. canons w n t xs j h f) e
