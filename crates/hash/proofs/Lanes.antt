-- Absorbing a lane at a time is absorbing its eight bytes.
use mathlib.Core.Path.{◌≡◌, refl, sym, ap, ap₂, ◌∙◌}
use mathlib.Core.List.{List, [], ◌∷◌}
use Prim.Native.Nat.{ℕ, zero, suc, ◌+◌, ◌*◌, ◌/◌, ◌%◌, ◌^◌, ◌≤◌, ◌<◌}
use native.Mathlib.Nat.{add-zero, add-suc}
use native.Mathlib.Decide.{dec_lt, ℕ_discrete}
use native.Mathlib.Omega.{arith}
use borrow.Author.Tests.{eq-eqb, ne_eqb}
use lib.Arith.{bin_ind}
use lib.Dec.{eqb, lit<}
use lib.Bits.{bit_xor, differ, xor_step, xor_zero_r}
use lib.ListN.{length, get_or, set, drop}
use lib.Seq.{set-set, set_out, set-get_or, get_or-set_same, drop-cons}
use Rattle.hash.specs.Keccak.{State, lane, keccak_f}
use Rattle.hash.specs.Shake.{xor_byte, turn, absorb_byte, absorb_from}
use Rattle.hash.specs.ShakeSteps.{xor_lane}
use Rattle.hash.specs.Endian.{le}
use Rattle.hash.proofs.Word.{on-top, le_low}

-- ---- xor is associative: digit by digit

differ-lt : (x y : ℕ) → x < 2 → y < 2 → differ x y < 2
differ-lt zero y h k = k
differ-lt (suc zero) zero h k = h
differ-lt (suc zero) (suc zero) h k = lit< tt
differ-lt (suc zero) (suc (suc y)) h k = absurd (omega arith)
differ-lt (suc (suc x)) y h k = absurd (omega arith)

differ-assoc : (x y z : ℕ) → x < 2 → y < 2 → z < 2 → differ x (differ y z) ≡ differ (differ x y) z
differ-assoc zero y z h k l = refl
differ-assoc (suc zero) zero z h k l = refl
differ-assoc (suc zero) (suc zero) zero h k l = refl
differ-assoc (suc zero) (suc zero) (suc zero) h k l = refl
differ-assoc (suc zero) (suc zero) (suc (suc z)) h k l = absurd (omega arith)
differ-assoc (suc zero) (suc (suc y)) z h k l = absurd (omega arith)
differ-assoc (suc (suc x)) y z h k l = absurd (omega arith)

-- the upper digits and the lowest digit of a xor
upper : (a b : ℕ) → bit_xor a b / 2 ≡ bit_xor (a / 2) (b / 2)
upper a b =
    let d : differ (a % 2) (b % 2) < 2 = differ-lt (a % 2) (b % 2) (omega arith) (omega arith) in
    omega (arith, xor_step a b)

lowest : (a b : ℕ) → bit_xor a b % 2 ≡ differ (a % 2) (b % 2)
lowest a b =
    let d : differ (a % 2) (b % 2) < 2 = differ-lt (a % 2) (b % 2) (omega arith) (omega arith) in
    omega (arith, xor_step a b)

xor_assoc : (a b c : ℕ) → bit_xor a (bit_xor b c) ≡ bit_xor (bit_xor a b) c
xor_assoc =
    bin_ind (λ (n : ℕ). (b c : ℕ) → bit_xor n (bit_xor b c) ≡ bit_xor (bit_xor n b) c)
    (λ b c. refl)
    (λ n ih b c.
    xor_step n (bit_xor b c)
    ∙ ap₂ (λ (x y : ℕ). x * 2 + y)
    (ap (bit_xor (n / 2)) (upper b c) ∙ ih (b / 2) (c / 2) ∙ ap (λ (x : ℕ). bit_xor x (c / 2)) (sym (upper n b)))
    (ap (differ (n % 2)) (lowest b c) ∙ differ-assoc (n % 2) (b % 2) (c % 2) (omega arith) (omega arith) (omega arith)
    ∙ ap (λ (x : ℕ). differ x (c % 2)) (sym (lowest n b)))
    ∙ sym (xor_step (bit_xor n b) c))

-- ---- the number of bytes, made by xors

-- the first n bytes f j, each xored in at its place
unfoldable pub xored : (ℕ → ℕ) → ℕ → ℕ
xored f zero = 0
xored f (suc n) = bit_xor (xored f n) (f n * 2 ^ (8 * n))

module _ (f : ℕ → ℕ) (bytes : (j : ℕ) → f j < 256) where
  pub le-xored : (n : ℕ) → le f n ≡ xored f n
  unfolding xored le
  le-xored zero = refl
  le-xored (suc n) = sym (rw (← le-xored n) (on-top (le f n) (f n) (8 * n) (le_low f n (λ j l. bytes j)) (bytes n)).0)

-- ---- two xors into one lane are one

module _ {A : Type 0} where
  twice : (l : List A) (i : ℕ) (d : A) (f g : A → A)
      → set (set l i (f (get_or l i d))) i (g (get_or (set l i (f (get_or l i d))) i d)) ≡ set l i (g (f (get_or l i d)))
  twice l i d f g = set-set l i (f (get_or l i d)) (g (get_or (set l i (f (get_or l i d))) i d)) ∙ go (dec_lt i (length l))
    where
      go : Dec (i < length l) → set l i (g (get_or (set l i (f (get_or l i d))) i d)) ≡ set l i (g (f (get_or l i d)))
      go (yes h) = ap (λ (v : A). set l i (g v)) (get_or-set_same l i (f (get_or l i d)) d h)
      go (no h) =
          let k : length l ≤ i = omega arith in
          set_out l i (g (get_or (set l i (f (get_or l i d))) i d)) k ∙ sym (set_out l i (g (f (get_or l i d))) k)

xor-twice : (A : State) (k x y : ℕ) → xor_lane (xor_lane A k x) k y ≡ xor_lane A k (bit_xor x y)
unfolding xor_lane
xor-twice A k x y =
    let p = get_or A (k / 5) [] in
    twice A (k / 5) [] (λ (p : List ℕ). set p (k % 5) (bit_xor (get_or p (k % 5) 0) x)) (λ (p : List ℕ). set p (k % 5) (bit_xor (get_or p (k % 5) 0) y))
    ∙ ap (set A (k / 5))
    (twice (get_or A (k / 5) []) (k % 5) 0 (λ (l : ℕ). bit_xor l x) (λ (l : ℕ). bit_xor l y)
    ∙ ap (set (get_or A (k / 5) []) (k % 5)) (sym (xor_assoc (lane A (k % 5) (k / 5)) x y)))

xor_nothing : (A : State) (k : ℕ) → xor_lane A k 0 ≡ A
unfolding xor_lane
xor_nothing A k = rw (xor_zero_r, set-get_or, set-get_or)

byte_of_lane : (A : State) (k j b : ℕ) → j < 8 → xor_byte A (8 * k + j) b ≡ xor_lane A k (b * 2 ^ (8 * j))
unfolding xor_byte xor_lane
byte_of_lane A k j b h =
    let d : (8 * k + j) / 8 ≡ k = omega arith in
    let m : (8 * k + j) % 8 ≡ j = omega arith in
    rw (d, m)

-- the first and the last byte of the padding in one place
pub padding-twice : (A : State) → xor_byte (xor_byte A 135 0x1f) 135 0x80 ≡ xor_byte A 135 0x9f
padding-twice A =
    byte_of_lane (xor_byte A 135 0x1f) 16 7 0x80 (lit< tt)
    ∙ ap (λ (S : State). xor_lane S 16 (0x80 * 2 ^ 56)) (byte_of_lane A 16 7 0x1f (lit< tt))
    ∙ xor-twice A 16 (0x1f * 2 ^ 56) (0x80 * 2 ^ 56)
    ∙ sym (byte_of_lane A 16 7 0x9f (lit< tt))

-- ---- the eight bytes from i on, absorbed at a place n that begins a lane

last-lane : (k : ℕ) → eqb (8 * k + 7) 135 ≡ eqb k 16
last-lane k = go (ℕ_discrete k 16)
  where
    go : Dec (k ≡ 16) → eqb (8 * k + 7) 135 ≡ eqb k 16
    go (yes e) = eq-eqb (8 * k + 7) 135 (omega arith) ∙ sym (eq-eqb k 16 e)
    go (no e) = ne_eqb (8 * k + 7) 135 (omega arith) ∙ sym (ne_eqb k 16 e)

module _ (A : State) (n i : ℕ) (m : List ℕ) (aligned : n % 8 ≡ 0) (fits : i + 8 ≤ length m) where
  one_byte : (j : ℕ) → j < 8
      → absorb_from (xor_lane A (n % 136 / 8) (xored (λ (t : ℕ). get_or m (i + t) 0) j)) (n + j) (drop (i + j) m)
      ≡ absorb_from (turn (eqb (8 * (n % 136 / 8) + j) 135) (xor_lane A (n % 136 / 8) (xored (λ (t : ℕ). get_or m (i + t) 0) (suc j)))) (n + suc j) (drop (i + suc j) m)
  unfolding absorb_from absorb_byte xored
  one_byte j h =
      let k = n % 136 / 8 in
      let f : ℕ → ℕ = λ t. get_or m (i + t) 0 in
      let B = xor_lane A (n % 136 / 8) (xored (λ (t : ℕ). get_or m (i + t) 0) j) in
      let e : (n + j) % 136 ≡ 8 * (n % 136 / 8) + j = omega arith in
      let l : i + j < length m = omega arith in
      let x : xor_byte B ((n + j) % 136) (f j) ≡ xor_lane A (n % 136 / 8) (xored f (suc j)) =
      ap (λ (t : ℕ). xor_byte B t (f j)) e ∙ byte_of_lane B (n % 136 / 8) j (f j) h ∙ xor-twice A (n % 136 / 8) (xored f j) (f j * 2 ^ (8 * j)) in
      ap (absorb_from B (n + j)) (drop-cons m (i + j) 0 l)
      ∙ ap₂ (λ (t : ℕ) (S : State). absorb_from (turn (eqb t 135) S) (suc (n + j)) (drop (suc (i + j)) m)) e x
      ∙ rw (add-suc, add-suc)

  some_bytes : (j : ℕ) → j < 8
      → absorb_from A n (drop i m) ≡ absorb_from (xor_lane A (n % 136 / 8) (xored (λ (t : ℕ). get_or m (i + t) 0) j)) (n + j) (drop (i + j) m)
  unfolding xored
  some_bytes zero h = rw (xor_nothing, add-zero, add-zero)
  some_bytes (suc j) h =
      let e : (8 * (n % 136 / 8) + j ≡ 135) → ⊥ = omega arith in
      some_bytes j (omega arith) ∙ (rw (ne_eqb (8 * (n % 136 / 8) + j) 135 e) at (one_byte j (omega arith)))

  absorb-lane : absorb_from A n (drop i m)
      ≡ absorb_from (turn (eqb (n % 136 / 8) 16) (xor_lane A (n % 136 / 8) (xored (λ (t : ℕ). get_or m (i + t) 0) 8))) (n + 8) (drop (i + 8) m)
  absorb-lane = some_bytes 7 (lit< tt) ∙ (rw (last-lane (n % 136 / 8)) at (one_byte 7 (lit< tt)))

-- ---- a turn of the loop over lanes: lane number i of m, where k is its place in the block

module _ (A B X : State) (n i k v : ℕ) (m : List ℕ) (aligned : n % 8 ≡ 0) (fits : 8 * i + 8 ≤ length m) (bytes : (j : ℕ) → get_or m j 0 < 256)
    (place : k ≡ (n + 8 * i) % 136 / 8) (lane-is : v ≡ le (λ (t : ℕ). get_or m (8 * i + t) 0) 8) (so_far : absorb_from A (n + 8 * i) (drop (8 * i) m) ≡ X) where
  turned-lane : absorb_from (turn (eqb k 16) (xor_lane A k v)) (n + 8 * (i + 1)) (drop (8 * (i + 1)) m) ≡ X
  turned-lane =
      let a : (n + 8 * i) % 8 ≡ 0 = omega arith in
      let e : n + 8 * (i + 1) ≡ n + 8 * i + 8 = omega arith in
      let d : 8 * (i + 1) ≡ 8 * i + 8 = omega arith in
      rw (e, d, place, lane-is, le-xored (λ (t : ℕ). get_or m (8 * i + t) 0) (λ t. bytes (8 * i + t)) 8) (sym (absorb-lane A (n + 8 * i) (8 * i) m a fits) ∙ so_far)

  pub last_turn : k ≡ 16 → B ≡ keccak_f (xor_lane A k v) → absorb_from B (n + 8 * (i + 1)) (drop (8 * (i + 1)) m) ≡ X
  last_turn h e = rw e (rw (eq-eqb k 16 h) at turned-lane)

  pub next-turn : (k ≡ 16 → ⊥) → B ≡ xor_lane A k v → absorb_from B (n + 8 * (i + 1)) (drop (8 * (i + 1)) m) ≡ X
  next-turn h e = rw e (rw (ne_eqb k 16 h) at turned-lane)

-- only the place in the block counts
pub absorb-mod : (m : List ℕ) (A : State) (n k : ℕ) → n % 136 ≡ k % 136 → absorb_from A n m ≡ absorb_from A k m
unfolding absorb_from absorb_byte
absorb-mod [] A n k e = refl
absorb-mod (b ∷ m) A n k e = rw e (absorb-mod m (turn (eqb (k % 136) 135) (xor_byte A (k % 136) b)) (suc n) (suc k) (omega arith))
