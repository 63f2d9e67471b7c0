-- Codes read off a word: runs of a number's bits, and the bits of a string that the number holds.
use Prim.Native.Nat.{ℕ, zero, suc, min, ◌+◌, ◌*◌, ◌-◌, ◌/◌, ◌%◌, ◌^◌, ◌≤◌, ◌<◌}
use mathlib.Core.Path.{◌≡◌, refl, sym, ap, subst, ◌∙◌}
use mathlib.Core.Bool.{Bool, true, false, not, ◌&&◌}
use mathlib.Core.List.{List, [], ◌∷◌, ◌++◌}
use mathlib.Core.Option.{some}
use native.Mathlib.Omega.{arith}
use native.Mathlib.Nat.{not-suc-le-zero, le_of_suc-le-suc, le_refl, add-zero, zero-add, zero-div, pow-suc, mod-lt}
use native.Mathlib.Numerals.{add-one}
use lib.Dec.{lit<, ltb, leb, eqb}
use borrow.Author.Tests.{ltb-true, leb-true, le-leb, eqb-false, not-true}
use lib.IntN.{ℤ, pos}
use lib.ListN.{length, get_or, set, take, drop, replicate, length-set, length-drop}
use lib.Seq.{length-take-le, get_or-take, get_or-drop, take-take, take-suc, take-add, drop_at, drop-cons, drop-drop}
use lib.Pow.{mod-pow-add}
use lib.Count.{count_trailing_zeros, under}
use Rattle.hash.specs.Lists.{pick}
use Rattle.signature.specs.Bits.{bits_of, val_of}
use Rattle.signature.specs.Code.{run_of, signed_of, read_code, read_codes}
use Rattle.signature.proofs.Strings.{get_d_bits, Bits, bits-take, bits-drop, bits-val}
use Rattle.signature.proofs.Words.{val-drop, val-take}
use Rattle.signature.proofs.Codes.{run-stop, read-zero, read_some}
use Rattle.signature.proofs.Lists.{read_more, read-turn, past-start}

-- ---- a number's own runs: ones are the zeros of its complement

under_one : (b t : ℕ) (l : List ℕ) → b < 2 → t ≡ run_of l → under (1 - b) t ≡ run_of (b ∷ l)
unfolding run_of
under_one zero t l h e = refl
under_one (suc zero) t l h e = ap suc e
under_one (suc (suc b)) t l h e = absurd (not-suc-le-zero (le_of_suc-le-suc (le_of_suc-le-suc h)))

run-cons-le : (b : ℕ) (l : List ℕ) (j : ℕ) → run_of l ≤ j → run_of (b ∷ l) ≤ suc j
unfolding run_of
run-cons-le zero l j h = omega arith
run-cons-le (suc b) l j h = omega arith

pub run-complement : (k x : ℕ) → x < 2 ^ k → count_trailing_zeros k (2 ^ k - 1 - x) ≡ run_of (bits_of k x)
unfolding count_trailing_zeros run_of bits_of
run-complement zero x h = refl
run-complement (suc k) x h =
    let p = pow-suc 2 k in
    let y = 2 ^ suc k - 1 - x in
    let half : y / 2 ≡ 2 ^ k - 1 - x / 2 = omega arith in
    let low : y % 2 ≡ 1 - x % 2 = omega arith in
    ap (λ (n : ℕ). under (y % 2) (count_trailing_zeros k n)) half ∙ ap (λ (n : ℕ). under n (count_trailing_zeros k (2 ^ k - 1 - x / 2))) low
    ∙ under_one (x % 2) _ (bits_of k (x / 2)) (mod-lt x (lit< tt)) (run-complement k (x / 2) (omega arith))

pub run-le : (k j x : ℕ) → x < 2 ^ j → run_of (bits_of k x) ≤ j
unfolding run_of bits_of
run-le zero j x h = omega arith
run-le (suc k) zero x h = let e : x % 2 ≡ 0 = omega arith in omega (arith, ap (λ (n : ℕ). run_of (n ∷ bits_of k (x / 2))) e)
run-le (suc k) (suc j) x h = run-cons-le (x % 2) (bits_of k (x / 2)) j (run-le k j (x / 2) (omega (arith, pow-suc 2 j)))

zero-below : (r t x d : ℕ) → x % 2 ≡ d → suc r ≤ under d t → (r ≤ t → x / 2 % 2 ^ r ≡ 0) → x % 2 ^ suc r ≡ 0
zero-below r t x zero e h f = omega (arith, f (le_of_suc-le-suc h), mod-pow-add x r 1, ap (λ (n : ℕ). x % 2 ^ n) (add-one r))
zero-below r t x (suc d) e h f = absurd (not-suc-le-zero h)

zeros-divide : (k x r : ℕ) → r ≤ count_trailing_zeros k x → x % 2 ^ r ≡ 0
unfolding count_trailing_zeros
zeros-divide k x zero h = omega arith
zeros-divide zero x (suc r) h = absurd (not-suc-le-zero h)
zeros-divide (suc k) x (suc r) h = zero-below r (count_trailing_zeros k (x / 2)) x (x % 2) refl h (λ g. zeros-divide k (x / 2) r g)

pub zeros-least : (x r : ℕ) → r ≡ min 56 (count_trailing_zeros 64 x) → x % 2 ^ r ≡ 0
zeros-least x r e = zeros-divide 64 x r (omega (arith, e))

-- ---- a number that holds the first j bits of t

same-run : (b : ℕ) (l t : List ℕ) (j : ℕ) → (run_of l < j → run_of l ≡ run_of t) → run_of (b ∷ l) < suc j → run_of (b ∷ l) ≡ run_of (b ∷ t)
unfolding run_of
same-run zero l t j f h = refl
same-run (suc b) l t j f h = ap suc (f (le_of_suc-le-suc h))

run-window : (t : List ℕ) (j k x : ℕ) → Bits t → j ≤ length t → j ≤ k → x ≡ val_of (take j t) → run_of (bits_of k x) < j → run_of (bits_of k x) ≡ run_of t
unfolding bits_of val_of
run-window t zero k x b l h e r = absurd (not-suc-le-zero r)
run-window [] (suc j) k x b l h e r = absurd (not-suc-le-zero l)
run-window (d ∷ t) (suc j) zero x b l h e r = absurd (not-suc-le-zero h)
run-window (d ∷ t) (suc j) (suc k) x b l h e r =
    let d-bit = b 0 in
    let low : x % 2 ≡ d = omega arith in
    let half : x / 2 ≡ val_of (take j t) = omega arith in
    let R = bits_of k (x / 2) in
    ap (λ (n : ℕ). run_of (n ∷ R)) low
    ∙ same-run d R t j (λ g. run-window t j k (x / 2) (λ i. b (suc i)) (le_of_suc-le-suc l) (le_of_suc-le-suc h) half g)
    (subst (λ (n : ℕ). run_of (n ∷ R) < suc j) low r)

bit-window : (t : List ℕ) (j x p : ℕ) → Bits t → j ≤ length t → x ≡ val_of (take j t) → p < j → x / 2 ^ p % 2 ≡ get_or t p 0
bit-window t j x p b l e h =
    let g : bits_of j x ≡ take j t =
    ap (bits_of j) e ∙ ap (λ (n : ℕ). bits_of n (val_of (take j t))) (sym (length-take-le j t l)) ∙ bits-val (take j t) (bits-take j t b) in
    sym (get_d_bits j x p h) ∙ ap (λ (m : List ℕ). get_or m p 0) g ∙ get_or-take j t p 0 h

zeros-window : (t : List ℕ) (j x a : ℕ) → Bits t → j ≤ length t → a ≤ j → x ≡ val_of (take j t) → x % 2 ^ a ≡ 0 → val_of (take a t) ≡ 0
zeros-window t j x a b l h e z =
    let k = length-take-le j t l in
    sym (ap val_of (take-take a j t h)) ∙ sym (val-take (take j t) (bits-take j t b) a (omega arith)) ∙ ap (λ (n : ℕ). n % 2 ^ a) (sym e) ∙ z

-- the bits from place a on
shift-window : (t : List ℕ) (j x a : ℕ) → Bits t → j ≤ length t → a ≤ j → x ≡ val_of (take j t) → x / 2 ^ a ≡ val_of (take (j - a) (drop a t))
shift-window t j x a b l h e =
    let k = length-take-le j t l in
    let s : a + (j - a) ≡ j = omega arith in
    let d : drop a (take j t) ≡ take (j - a) (drop a t) =
    ap (λ (n : ℕ). drop a (take n t)) (sym s) ∙ ap (drop a) (take-add a (j - a) t)
    ∙ drop_at (take a t) (take (j - a) (drop a t)) a (length-take-le a t (omega arith)) in
    ap (λ (n : ℕ). n / 2 ^ a) e ∙ val-drop (take j t) (bits-take j t b) a (omega arith) ∙ ap val_of d

-- ---- numbers with no low bits: zeros, then a number that is not 0

zero-read : (t : List ℕ) (j : ℕ) → j < length t → get_or t j 0 ≡ 0 → read_code 0 (drop j t) ≡ some (pos 0, 1)
unfolding val_of
zero-read t j l z =
    let r : 0 ≡ run_of (drop j t) = sym (run-stop t j l z) in
    read-zero 0 (drop j t) 0 0 r (omega arith) (omega (arith, length-drop j t)) refl

-- as many numbers 0 as there are zeros; out holds zeros from place i on
skip-zeros : (a : ℕ) (t : List ℕ) (out : List ℤ) (i j : ℕ) → ((p : ℕ) → i ≤ p → get_or out p (pos 0) ≡ pos 0) → i + a ≤ length out
    → read_codes 0 i t ≡ some (take i out, j) → val_of (take a (drop j t)) ≡ 0 → j + a ≤ length t → read_codes 0 (i + a) t ≡ some (take (i + a) out, j + a)
unfolding val_of
skip-zeros zero t out i j rest h e v l =
    ap (λ (n : ℕ). read_codes 0 n t) (add-zero i) ∙ e ∙ ap (λ (n : ℕ). some (take n out, j)) (sym (add-zero i))
    ∙ ap (λ (n : ℕ). some (take (i + 0) out, n)) (sym (add-zero j))
skip-zeros (suc a) t out i j rest h e v l =
    let u : get_or t j 0 + 2 * val_of (take a (drop (suc j) t)) ≡ 0 = sym (ap (λ (m : List ℕ). val_of (take (suc a) m)) (drop-cons t j 0 (omega arith))) ∙ v in
    let z : get_or t j 0 ≡ 0 = omega arith in
    let r : val_of (take a (drop (suc j) t)) ≡ 0 = omega arith in
    let n : take i out ++ (pos 0 ∷ []) ≡ take (i + 1) out =
    sym (ap (λ (k : ℕ). take k out) (add-one i) ∙ take-suc out i (pos 0) (omega arith) ∙ ap (λ (y : ℤ). take i out ++ (y ∷ [])) (rest i (le_refl i))) in
    let m = read_more 0 t i j 1 (take i out) (pos 0) e (zero-read t j (omega arith) z) ∙ ap (λ (x : List ℤ). some (x, j + 1)) n in
    let p : i + suc a ≡ i + 1 + a = omega arith in
    let q : j + suc a ≡ j + 1 + a = omega arith in
    let y = ap (λ (k : ℕ). val_of (take a (drop k t))) (add-one j) ∙ r in
    let f = skip-zeros a t out (i + 1) (j + 1) (λ k g. rest k (omega arith)) (omega arith) m y (omega arith) in
    ap (λ (k : ℕ). read_codes 0 k t) p ∙ f ∙ ap (λ (k : ℕ). some (take k out, j + 1 + a)) (sym p) ∙ ap (λ (k : ℕ). some (take (i + suc a) out, k)) (sym q)

-- ---- a code whose run is in a word: x is the word at q, the run starts at its bit a

module _ (F : List ℕ) (bits : Bits F) (q x a n : ℕ) (inside : q + 56 ≤ length F) (word : x ≡ val_of (take 56 (drop q F)))
    (run : n ≡ run_of (bits_of 64 (x / 2 ^ a))) (few : a + n ≤ 54) where
  word-left : length (drop q F) ≡ length F - q
  word-left = length-drop q F

  word-run : n ≡ run_of (drop (q + a) F)
  word-run =
      let D = drop q F in
      let t = drop a D in
      run ∙ run-window t (56 - a) 64 (x / 2 ^ a) (bits-drop a D (bits-drop q F bits)) (omega (arith, word-left, length-drop a D)) (omega arith)
      (shift-window D 56 x a (bits-drop q F bits) (omega (arith, word-left)) (omega arith) word) (omega (arith, run)) ∙ ap run_of (drop-drop a q F)

  -- the code at k, with w low bits
  word-code : (k w m : ℕ) → k + w ≡ q + a → m ≡ val_of (take w (drop k F)) + n * 2 ^ w → (m ≡ 0 → ⊥)
      → read_code w (drop k F) ≡ some (signed_of m (x / 2 ^ (a + n + 1) % 2), w + n + 2)
  word-code k w m e v h =
      let t = drop k F in
      let lt : length t ≡ length F - k = length-drop k F in
      let r : n ≡ run_of (drop w t) = word-run ∙ ap (λ (j : ℕ). run_of (drop j F)) (sym e) ∙ ap run_of (sym (drop-drop w k F)) in
      let p : q + (a + n + 1) ≡ k + (w + n + 1) = omega arith in
      let s : x / 2 ^ (a + n + 1) % 2 ≡ get_or t (w + n + 1) 0 =
      bit-window (drop q F) 56 x (a + n + 1) (bits-drop q F bits) (omega (arith, word-left)) word (omega arith) ∙ get_or-drop q F (a + n + 1) 0
      ∙ ap (λ (j : ℕ). get_or F j 0) p ∙ sym (get_or-drop k F (w + n + 1) 0) in
      read_some w t n m r (v ∙ ap (λ (j : ℕ). val_of (take w t) + j * 2 ^ w) r) (omega arith) h (x / 2 ^ (a + n + 1) % 2) s (omega arith)

-- turns of the reader, at k: at starts the numbers, i of them are read
module _ (F : List ℕ) (at k i : ℕ) (order : at ≤ k) where
  -- the word x at k has a zeros, then b ones: zeros and the number behind them go into places i to i + a of out, which has zeros from i on
  pub small-turn : (bits : Bits F) (x a b : ℕ) (out : List ℤ) (y : ℤ) → k + 56 ≤ length F → x ≡ val_of (take 56 (drop k F)) → b ≡ run_of (bits_of 64 (x / 2 ^ a))
      → a + b ≤ 54 → 0 < b → x % 2 ^ a ≡ 0 → i + a < length out → ((p : ℕ) → i ≤ p → get_or out p (pos 0) ≡ pos 0)
      → read_codes 0 i (drop at F) ≡ some (take i out, k - at) → y ≡ signed_of b (x / 2 ^ (a + b + 1) % 2)
      → read_codes 0 (i + a + 1) (drop at F) ≡ some (take (i + a + 1) (set out (i + a) y), k + (a + b + 2) - at)
  unfolding val_of
  small-turn bits x a b out y inside word run few h z room rest e f =
      let t = drop at F in
      let lt : length t ≡ length F - at = length-drop at F in
      let lk = length-drop k F in
      let q : k + a - at ≡ k - at + a = omega arith in
      let n : k - at + a + (0 + b + 2) ≡ k + (a + b + 2) - at = omega arith in
      let v = ap (λ (l : List ℕ). val_of (take a l)) (past-start F at k order) ∙ zeros-window (drop k F) 56 x a (bits-drop k F bits) (omega arith) (omega arith) word z in
      let m : b ≡ val_of (take 0 (drop (k + a) F)) + b * 2 ^ 0 = omega arith in
      let r = word-code F bits k x a b inside word run few (k + a) 0 b (add-zero (k + a)) m (λ o. omega arith) in
      let c = ap (λ (j : ℕ). read_code 0 (drop j t)) (sym q) ∙ ap (read_code 0) (past-start F at (k + a) (omega arith)) ∙ r in
      read-turn 0 t (i + a) (k - at + a) (0 + b + 2) _ out _ y room f (skip-zeros a t out i (k - at) rest (omega arith) e v (omega arith)) c n

  -- two numbers, the second at k + c
  pair_turn : (w c d : ℕ) (out : List ℤ) (u v y z : ℤ) → i + 1 < length out → y ≡ u → z ≡ v → read_codes w i (drop at F) ≡ some (take i out, k - at)
      → read_code w (drop k F) ≡ some (u, c) → read_code w (drop (k + c) F) ≡ some (v, d)
      → read_codes w (i + 2) (drop at F) ≡ some (take (i + 2) (set (set out i y) (i + 1) z), k + c + d - at)
  pair_turn w c d out u v y z room e f g r₁ r₂ =
      let t = drop at F in
      let q : k - at + c ≡ k + c - at = omega arith in
      let n : k + c - at + d ≡ k + c + d - at = omega arith in
      let o : i + 1 + 1 ≡ i + 2 = omega arith in
      let one = read-turn w t i (k - at) c (k + c - at) out u y (omega arith) e g (ap (read_code w) (past-start F at k order) ∙ r₁) q in
      let two = read-turn w t (i + 1) (k + c - at) d (k + c + d - at) (set out i y) v z (omega (arith, length-set out i y)) f one
      (ap (read_code w) (past-start F at (k + c) (omega arith)) ∙ r₂) n in
      subst (λ (j : ℕ). read_codes w j t ≡ some (take j (set (set out i y) (i + 1) z), k + c + d - at)) o two

  -- the words x and y have the runs of two numbers
  pub wide-turn : (bits : Bits F) (w x y a b m n : ℕ) (out : List ℤ) (u v : ℤ) → k + w + w + 2 + 56 ≤ length F → x ≡ val_of (take 56 (drop (k + w) F))
      → y ≡ val_of (take 56 (drop (k + w + w + 2) F)) → a ≡ run_of (bits_of 64 x) → b ≡ run_of (bits_of 64 (y / 2 ^ a)) → a + b ≤ 54
      → m ≡ val_of (take w (drop k F)) + a * 2 ^ w → n ≡ val_of (take w (drop (k + w + a + 2) F)) + b * 2 ^ w → (m ≡ 0 → ⊥) → (n ≡ 0 → ⊥) → i + 1 < length out
      → read_codes w i (drop at F) ≡ some (take i out, k - at) → u ≡ signed_of m (x / 2 ^ (a + 1) % 2) → v ≡ signed_of n (y / 2 ^ (a + b + 1) % 2)
      → read_codes w (i + 2) (drop at F) ≡ some (take (i + 2) (set (set out i u) (i + 1) v), k + w + a + 2 + w + b + 2 - at)
  wide-turn bits w x y a b m n out u v inside is_x is_y is-a is_b few is_m is-n hm hn room e f g =
      let z : x ≡ x / 2 ^ 0 = omega arith in
      let q : k + w + a + 2 + w ≡ k + w + w + 2 + a = omega arith in
      let p : k + (w + a + 2) ≡ k + w + a + 2 = omega arith in
      let l : k + (w + a + 2) + (w + b + 2) - at ≡ k + w + a + 2 + w + b + 2 - at = omega arith in
      let a-is = is-a ∙ ap (λ (j : ℕ). run_of (bits_of 64 j)) z in
      let r₁ = word-code F bits (k + w) x 0 a (omega arith) is_x a-is (omega arith) k w m (sym (add-zero (k + w))) is_m hm in
      let r₂ = word-code F bits (k + w + w + 2) y a b inside is_y is_b few (k + w + a + 2) w n q is-n hn in
      pair_turn w (w + a + 2) (w + b + 2) out _ _ u v room (f ∙ ap (λ (j : ℕ). signed_of m (x / 2 ^ (j + 1) % 2)) (sym (zero-add a))) g e r₁
      (ap (λ (j : ℕ). read_code w (drop j F)) p ∙ r₂) ∙ ap (λ (j : ℕ). some (take (i + 2) (set (set out i u) (i + 1) v), j)) l

-- ---- the tests of the code

-- a number that is there, or 0 where there is none
module _ (m n v x : ℕ) (is_x : x ≡ pick (leb m n) v 0) where
  pub there-is : m ≤ n → x ≡ v
  there-is h = is_x ∙ ap (λ (c : Bool). pick c v 0) (le-leb m n h)

  pub there : (x ≡ 0 → ⊥) → m ≤ n
  there h = go (leb m n) refl
    where
      go : (c : Bool) → leb m n ≡ c → m ≤ n
      go true g = leb-true m n g
      go false g = absurd (h (is_x ∙ ap (λ (c : Bool). pick c v 0) g))

pub run-some : (x a b : ℕ) → b ≡ run_of (bits_of 64 (x / 2 ^ a)) → 0 < b → x ≡ 0 → ⊥
unfolding run_of bits_of
run-some x a b f h z =
    let r : b ≡ 0 = f ∙ ap (λ (y : ℕ). run_of (bits_of 64 (y / 2 ^ a))) z ∙ ap (λ (y : ℕ). run_of (bits_of 64 y)) (zero-div (2 ^ a)) in
    omega arith

both_hold : (p q : Bool) → (p && q) ≡ true → (p ≡ true) × (q ≡ true)
both_hold true q e = (refl, e)
both_hold false q e = let x : ◌≡◌ {A = ℕ} 0 1 = cc in absurd (omega arith)

-- the number behind the zeros is not 0, it ends in the word, and there is a place for it
pub small-tests : (a b n : ℕ) → ((ltb 0 b && leb (a + b) 54) && ltb a n) ≡ true → (0 < b) × (a + b ≤ 54) × (a < n)
small-tests a b n e =
    let f = both_hold (ltb 0 b && leb (a + b) 54) (ltb a n) e in
    let g = both_hold (ltb 0 b) (leb (a + b) 54) f.0 in
    (ltb-true 0 b g.0, leb-true (a + b) 54 g.1, ltb-true a n f.1)

-- the second word is there, both runs end in their words, there is a place for both numbers, and neither is 0
pub pair-tests : (y a b r m n : ℕ) → ((((not (eqb y 0) && leb (a + b) 54) && ltb 1 r) && not (eqb m 0)) && not (eqb n 0)) ≡ true
    → (y ≡ 0 → ⊥) × (a + b ≤ 54) × (1 < r) × (m ≡ 0 → ⊥) × (n ≡ 0 → ⊥)
pair-tests y a b r m n e =
    let f = both_hold (((not (eqb y 0) && leb (a + b) 54) && ltb 1 r) && not (eqb m 0)) (not (eqb n 0)) e in
    let g = both_hold ((not (eqb y 0) && leb (a + b) 54) && ltb 1 r) (not (eqb m 0)) f.0 in
    let h = both_hold (not (eqb y 0) && leb (a + b) 54) (ltb 1 r) g.0 in
    let k = both_hold (not (eqb y 0)) (leb (a + b) 54) h.0 in
    (eqb-false y 0 (not-true _ k.0), leb-true (a + b) 54 k.1, ltb-true 1 r h.1, eqb-false m 0 (not-true _ g.1), eqb-false n 0 (not-true _ f.1))

-- ---- numbers that are all 0

zero-at : (n p : ℕ) → get_or (replicate n (pos 0)) p (pos 0) ≡ pos 0
zero-at zero p = refl
zero-at (suc n) zero = refl
zero-at (suc n) (suc p) = zero-at n p

pub all-cleared : (out : List ℤ) (n p : ℕ) → out ≡ replicate n (pos 0) → get_or out p (pos 0) ≡ pos 0
all-cleared out n p e = ap (λ (l : List ℤ). get_or l p (pos 0)) e ∙ zero-at n p
