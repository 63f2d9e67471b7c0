-- Zero fill behind bits, as written and as tested.
use Prim.Native.Nat.{ℕ, zero, suc, ◌+◌, ◌*◌, ◌-◌, ◌^◌, ◌≤◌, ◌<◌}
use mathlib.Core.Path.{◌≡◌, refl, sym, ap, ◌∙◌}
use mathlib.Core.Bool.{true, false}
use mathlib.Core.List.{List, [], ◌∷◌, ◌++◌, append_assoc}
use native.Mathlib.Omega.{arith}
use native.Mathlib.Nat.{not-suc-le-zero, le_of_suc-le-suc, add-zero, suc-mul}
use native.Mathlib.Numerals.{add-one}
use lib.IntN.{ℤ}
use lib.ListN.{length, get_or, take, drop, replicate, length-append, length-replicate, replicate-append-replicate, drop_of_length-le}
use lib.Seq.{sets, sets-eq, drop-cons}
use Rattle.signature.specs.Bits.{bits_of, val_of, bit_string, chop}
use Rattle.signature.specs.Code.{codes, codes_bits}
use Rattle.signature.specs.Form.{form_bits, bit_count}
use Rattle.signature.specs.AnswerSteps.{fields_of, all_zero}
use Rattle.signature.proofs.Strings.{length_fields, sets-append, sets-right}
use Rattle.signature.proofs.Packing.{chop-fields, fields-append}
use Rattle.signature.proofs.Counts.{codes-length}

-- ---- zeros

pub drop-replicate : (k n b : ℕ) → drop k (replicate n b) ≡ replicate (n - k) b
drop-replicate zero n b = let e : n ≡ n - 0 = omega arith in ap (λ (k : ℕ). replicate k b) e
drop-replicate (suc k) zero b = let e : 0 ≡ 0 - suc k = omega arith in ap (λ (m : ℕ). replicate m b) e
drop-replicate (suc k) (suc n) b = let e : n - k ≡ suc n - suc k = omega arith in drop-replicate k n b ∙ ap (λ (m : ℕ). replicate m b) e

zero_bits : (w : ℕ) → bits_of w 0 ≡ replicate w 0
unfolding bits_of
zero_bits zero = refl
zero_bits (suc w) = ap (λ (l : List ℕ). 0 ∷ l) (zero_bits w)

zero-fields : (w n : ℕ) → bit_string w (replicate n 0) ≡ replicate (n * w) 0
unfolding bit_string
zero-fields w zero = let e : 0 * w ≡ 0 = omega arith in ap (λ (k : ℕ). replicate k 0) (sym e)
zero-fields w (suc n) =
    let e : w + n * w ≡ suc n * w = omega (arith, suc-mul n w) in
    ap (λ (l : List ℕ). l ++ bit_string w (replicate n 0)) (zero_bits w) ∙ ap (λ (l : List ℕ). replicate w 0 ++ l) (zero-fields w n)
    ∙ replicate-append-replicate w (n * w) 0 ∙ ap (λ (k : ℕ). replicate k 0) e

sets-zeros : (n : ℕ) (vs : List ℕ) → length vs ≤ n → sets (replicate n 0) 0 vs ≡ vs ++ replicate (n - length vs) 0
sets-zeros n vs h =
    let e : 0 + length vs ≡ length vs = omega arith in
    let z : ℕ = 0 in
    let k : length (replicate n z) ≡ n = length-replicate n z in
    sets-eq vs (replicate n 0) 0 (omega arith) ∙ ap (λ (l : List ℕ). vs ++ l) (ap (λ (m : ℕ). drop m (replicate n 0)) e ∙ drop-replicate (length vs) n 0)

-- ---- the test

pub zeros-are : (n : ℕ) → all_zero (replicate n 0) ≡ true
unfolding all_zero
zeros-are zero = refl
zeros-are (suc n) = zeros-are n

pub are-zeros : (l : List ℕ) → all_zero l ≡ true → l ≡ replicate (length l) 0
unfolding all_zero
are-zeros [] e = refl
are-zeros (zero ∷ l) e = ap (λ (m : List ℕ). 0 ∷ m) (are-zeros l e)
are-zeros (suc b ∷ l) e = let x : ◌≡◌ {A = ℕ} 0 1 = cc in absurd (omega arith)

zero-head : (b : ℕ) (l : List ℕ) → b ≡ 0 → all_zero (b ∷ l) ≡ all_zero l
unfolding all_zero
zero-head b l e = rw e

one-head : (b : ℕ) (l : List ℕ) → (b ≡ 0 → ⊥) → all_zero (b ∷ l) ≡ false
unfolding all_zero
one-head zero l h = absurd (h refl)
one-head (suc b) l h = refl

module _ (l : List ℕ) (k : ℕ) where
  pub zero-next : k < length l → get_or l k 0 ≡ 0 → all_zero (drop k l) ≡ all_zero (drop (k + 1) l)
  zero-next h e = ap all_zero (drop-cons l k 0 h) ∙ zero-head _ _ e ∙ ap (λ (n : ℕ). all_zero (drop n l)) (sym (add-one k))

  pub one-next : k < length l → (get_or l k 0 ≡ 0 → ⊥) → all_zero (drop k l) ≡ false
  one-next h e = ap all_zero (drop-cons l k 0 h) ∙ one-head _ _ e

  pub zero-end : length l ≤ k → all_zero (drop k l) ≡ true
  unfolding all_zero
  zero-end h = ap all_zero (drop_of_length-le l h)

-- .. several bits at a time, by their number
pub zeros-pass : (n j : ℕ) (t : List ℕ) → n ≤ j → val_of (take j t) ≡ 0 → all_zero t ≡ all_zero (drop n t)
unfolding val_of all_zero
zeros-pass zero j t h e = refl
zeros-pass (suc n) zero t h e = absurd (not-suc-le-zero h)
zeros-pass (suc n) (suc j) [] h e = refl
zeros-pass (suc n) (suc j) (b ∷ t) h e =
    let z : b ≡ 0 = omega arith in
    let r : val_of (take j t) ≡ 0 = omega arith in
    zero-head b t z ∙ zeros-pass n j t (le_of_suc-le-suc h) r

pub zeros-fail : (j : ℕ) (t : List ℕ) → (val_of (take j t) ≡ 0 → ⊥) → all_zero t ≡ false
unfolding val_of all_zero
zeros-fail zero t h = absurd (h refl)
zeros-fail (suc j) [] h = absurd (h refl)
zeros-fail (suc j) (zero ∷ t) h = zeros-fail j t (λ e. h (ap (λ (n : ℕ). 0 + 2 * n) e))
zeros-fail (suc j) (suc b ∷ t) h = refl

-- ---- the writer

pub bits-length : (c : List ℕ) (h z : List ℤ) → length (form_bits (fields_of c h z)) ≡ bit_count (fields_of c h z)
unfolding form_bits bit_count
bits-length c h z =
    length-append (bit_string 8 c) (codes 0 h ++ codes 40 z)
    ∙ omega (arith, length_fields 8 c, length-append (codes 0 h) (codes 40 z), codes-length 0 h, codes-length 40 z)

module _ (c : List ℕ) (h z : List ℤ) (out₀ out₁ out : List ℕ) (n : ℕ) where
  pub written : length out ≡ n → ((i : ℕ) → get_or out i 0 < 2 ^ 8) → bit_count (fields_of c h z) ≤ 8 * n → out₀ ≡ c ++ replicate (n - length c) 0
      → bit_string 8 out₁ ≡ sets (bit_string 8 out₀) (8 * length c) (codes 0 h) → bit_string 8 out ≡ sets (bit_string 8 out₁) (8 * length c + length (codes 0 h)) (codes 40 z)
      → out ≡ chop 8 n (form_bits (fields_of c h z) ++ replicate (8 * n - bit_count (fields_of c h z)) 0)
  unfolding form_bits bit_count
  written len byte room e₀ e₁ e₂ =
      let vs = codes 0 h ++ codes 40 z in
      let k = n - length c in
      let lv : length vs ≡ codes_bits 0 h + codes_bits 40 z = length-append (codes 0 h) (codes 40 z) ∙ omega (arith, codes-length 0 h, codes-length 40 z) in
      let lc : length (bit_string 8 c) ≡ 8 * length c = length_fields 8 c ∙ omega arith in
      let d : k * 8 - length vs ≡ 8 * n - (8 * length c + (codes_bits 0 h + codes_bits 40 z)) = omega arith in
      let f₀ : bit_string 8 out₀ ≡ bit_string 8 c ++ replicate (k * 8) 0 =
      ap (bit_string 8) e₀ ∙ fields-append 8 c (replicate k 0) ∙ ap (λ (l : List ℕ). bit_string 8 c ++ l) (zero-fields 8 k) in
      let f : bit_string 8 out ≡ sets (bit_string 8 out₀) (8 * length c) vs =
      e₂ ∙ ap (λ (l : List ℕ). sets l (8 * length c + length (codes 0 h)) (codes 40 z)) e₁ ∙ sym (sets-append (bit_string 8 out₀) (8 * length c) (codes 0 h) (codes 40 z)) in
      let g : sets (bit_string 8 c ++ replicate (k * 8) 0) (8 * length c) vs ≡ bit_string 8 c ++ (vs ++ replicate (k * 8 - length vs) 0) =
      ap (λ (m : ℕ). sets (bit_string 8 c ++ replicate (k * 8) 0) m vs) (sym (add-zero (8 * length c))) ∙ sets-right (bit_string 8 c) (replicate (k * 8) 0) (8 * length c) 0 vs lc
      ∙ ap (λ (l : List ℕ). bit_string 8 c ++ l) (sets-zeros (k * 8) vs (omega arith)) in
      sym (chop-fields 8 out byte) ∙ ap (λ (m : ℕ). chop 8 m (bit_string 8 out)) len
      ∙ ap (chop 8 n) (f ∙ ap (λ (l : List ℕ). sets l (8 * length c) vs) f₀ ∙ g ∙ sym (append_assoc (bit_string 8 c) vs (replicate (k * 8 - length vs) 0))
      ∙ ap (λ (m : ℕ). (bit_string 8 c ++ vs) ++ replicate m 0) d)

pub form-room : (c : List ℕ) (h z : List ℤ) (n : ℕ) → bit_count (fields_of c h z) ≤ 8 * n → 8 * length c + (length (codes 0 h) + length (codes 40 z)) ≤ n * 8
unfolding bit_count
form-room c h z n l = omega (arith, codes-length 0 h, codes-length 40 z)
