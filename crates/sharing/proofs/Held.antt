-- A generator that the code holds: 25 lanes that fit 64 bits. A draw is 49 bits of two lanes, one behind the other.
use mathlib.Core.Path.{◌≡◌, refl, sym, ap, ◌∙◌}
use mathlib.Core.List.{List, [], ◌∷◌}
use Prim.Native.Nat.{ℕ, zero, suc, ◌+◌, ◌-◌, ◌*◌, ◌/◌, ◌%◌, ◌^◌, ◌<◌, ◌≤◌}
use native.Mathlib.Nat.{zero-add, add-zero, add-mul, mul_assoc, mul-mod_left, add-mul-div_right, add-mul-mod_self_right}
use native.Mathlib.Decide.{dec_lt}
use native.Mathlib.Omega.{arith}
use lib.Bits.{bit_xor, xor_comm, xor_shifted}
use lib.Dec.{lit<}
use lib.ListN.{get_or}
use lib.Pow.{pow-add, pow_pos, split, shl-shr, shr-shr, shr_lt, mod-pow-add, mod-mod-pow}
use mir.Syntax.{w64}
use mir.Val.{Val}
use denote.Array.{in_array, each}
use denote.Plain.{UInt}
use denote.Shadow.{shadow}
use Rattle.hash.specs.Lists.{table}
use Rattle.hash.specs.Keccak.{lane, keccak_f}
use Rattle.hash.specs.Shake.{stream}
use Rattle.hash.specs.Endian.{le, byte_of, lane_at}
use Rattle.hash.proofs.Table.{get_d-table}
use Rattle.hash.proofs.Output.{after_none, after_next}
use Rattle.hash.proofs.Word.{le_same, le-byte_of, byte-under}
use Rattle.hash.proofs.Flat.{flat, flat-unflat}
use Rattle.ring.proofs.Draws.{draw-by}
use Rattle.sharing.specs.declared.masks.MaskGen.{MaskGen}
use Rattle.sharing.specs.Masks.{state_of, place_in, held_at, bytes_ahead, mask_draw, mask_moved}

-- ---- 49 bits of two lanes

-- byte i of the lane y, behind the lane x
byte_high : (x y i : ℕ) → x < 2 ^ 64 → (x + y * 2 ^ 64) / 2 ^ (8 * (8 + i)) ≡ y / 2 ^ (8 * i)
byte_high x y i h =
    let e : 8 * (8 + i) ≡ 64 + 8 * i = omega arith in
    let d : (x + y * 2 ^ 64) / 2 ^ 64 ≡ y = omega arith in
    rw (e, ← shr-shr (x + y * 2 ^ 64) 64 (8 * i), d)

-- seven bytes f of the two, from byte r on, are 56 bits
module _ (f : ℕ → ℕ) (x y r : ℕ) (fits : x < 2 ^ 64) (low : (j : ℕ) → j < 7 → r + j < 8 → f j ≡ x / 2 ^ (8 * (r + j)) % 256)
    (high : (j : ℕ) → j < 7 → 8 ≤ r + j → f j ≡ y / 2 ^ (8 * (r + j - 8)) % 256) where
  either : (j : ℕ) → j < 7 → Dec (r + j < 8) → f j ≡ (x + y * 2 ^ 64) / 2 ^ (8 * (r + j)) % 256
  either j h (yes l) = low j h l ∙ sym (byte-under x y 8 (r + j) l)
  either j h (no l) =
      let e : 8 + (r + j - 8) ≡ r + j = omega arith in
      high j h (omega arith)
      ∙ ap (λ (n : ℕ). n % 256) (sym (byte_high x y (r + j - 8) fits) ∙ ap (λ (n : ℕ). (x + y * 2 ^ 64) / 2 ^ (8 * n)) e)

  byte-from : (j : ℕ) → j < 7 → f j ≡ byte_of ((x + y * 2 ^ 64) / 2 ^ (8 * r)) j
  byte-from j h =
      let e : 8 * r + 8 * j ≡ 8 * (r + j) = omega arith in
      either j h (dec_lt (r + j) 8)
      ∙ ap (λ (n : ℕ). n % 256) (sym (shr-shr (x + y * 2 ^ 64) (8 * r) (8 * j) ∙ ap (λ (n : ℕ). (x + y * 2 ^ 64) / 2 ^ n) e))

  seven : le f 7 % 2 ^ 49 ≡ (x + y * 2 ^ 64) / 2 ^ (8 * r) % 2 ^ 49
  seven =
      ap (λ (n : ℕ). n % 2 ^ 49)
      (le_same f (byte_of ((x + y * 2 ^ 64) / 2 ^ (8 * r))) 7 byte-from ∙ le-byte_of ((x + y * 2 ^ 64) / 2 ^ (8 * r)) 7)
      ∙ mod-mod-pow ((x + y * 2 ^ 64) / 2 ^ (8 * r)) 7 49

-- the code's shifts: s bits of x are left out, and y stands behind the rest
high_cut : (n s t : ℕ) → n * 2 ^ t % 2 ^ (s + t) ≡ n % 2 ^ s * 2 ^ t
high_cut n s t = mod-pow-add (n * 2 ^ t) s t ∙ rw (shl-shr n t, mul-mod_left n (2 ^ t), add-zero)

-- y, of which s bits are left, t places up: in the machine by two shifts, as a shift by 64 is none
two-shifts : (y s t : ℕ) → s + t ≡ 64 → 1 ≤ t → y * 2 % 2 ^ 64 * 2 ^ (63 - s) % 2 ^ 64 ≡ y % 2 ^ s * 2 ^ t
two-shifts y s t e h =
    let p : 2 ^ (s + t) ≡ 2 ^ 64 = ap (λ (n : ℕ). 2 ^ n) e in
    let o : 63 - s + s ≡ 63 = omega arith in
    let w : 1 + (63 - s) ≡ t = omega arith in
    let u : y * 2 % 2 ^ 64 ≡ y % 2 ^ 63 * 2 = omega arith in
    let v : 2 * 2 ^ (63 - s) ≡ 2 ^ t = sym (pow-add 2 1 (63 - s)) ∙ ap (λ (n : ℕ). 2 ^ n) w in
    ap (λ (n : ℕ). n * 2 ^ (63 - s) % 2 ^ 64) u
    ∙ ap (λ (n : ℕ). n % 2 ^ 64) (mul_assoc (y % 2 ^ 63) 2 (2 ^ (63 - s)) ∙ ap (λ (n : ℕ). y % 2 ^ 63 * n) v)
    ∙ ap (λ (n : ℕ). y % 2 ^ 63 * 2 ^ t % n) (sym p)
    ∙ high_cut (y % 2 ^ 63) s t
    ∙ ap (λ (n : ℕ). n * 2 ^ t) (ap (λ (n : ℕ). y % 2 ^ n % 2 ^ s) (sym o) ∙ mod-mod-pow y (63 - s) s)

pub draw-shifted : (x y s : ℕ) → x < 2 ^ 64 → s ≤ 56
    → bit_xor (x / 2 ^ s) (y * 2 % 2 ^ 64 * 2 ^ (63 - s) % 2 ^ 64) % 2 ^ 49 ≡ (x + y * 2 ^ 64) / 2 ^ s % 2 ^ 49
draw-shifted x y s h l =
    let t = 64 - s in
    let a = x / 2 ^ s in
    let b = y / 2 ^ s in
    let c = y % 2 ^ s * 2 ^ t in
    let e : s + t ≡ 64 = omega arith in
    let p : 2 ^ 64 ≡ 2 ^ s * 2 ^ t = ap (λ (n : ℕ). 2 ^ n) (sym e) ∙ pow-add 2 s t in
    let q : 64 ≡ t + s = omega arith in
    let r : 2 ^ 64 ≡ 2 ^ (t + s) = ap (λ (n : ℕ). 2 ^ n) q in
    let f : a < 2 ^ t = shr_lt t s (rw r at h) in
    let o : bit_xor a (y * 2 % 2 ^ 64 * 2 ^ (63 - s) % 2 ^ 64) ≡ c + a = ap (bit_xor a) (two-shifts y s t e (omega arith)) ∙ xor_comm a c ∙ xor_shifted (y % 2 ^ s) t a f in
    let m : y * 2 ^ t ≡ b * 2 ^ 64 + c =
    ap (λ (n : ℕ). n * 2 ^ t) (sym (split y s)) ∙ add-mul (b * 2 ^ s) (y % 2 ^ s) (2 ^ t) ∙ ap (λ (n : ℕ). n + c) (mul_assoc b (2 ^ s) (2 ^ t) ∙ ap (λ (n : ℕ). b * n) (sym p)) in
    let d : (x + y * 2 ^ 64) / 2 ^ s ≡ a + y * 2 ^ t =
    ap (λ (n : ℕ). (x + n) / 2 ^ s) (ap (λ (n : ℕ). y * n) (r ∙ pow-add 2 t s) ∙ sym (mul_assoc y (2 ^ t) (2 ^ s))) ∙ add-mul-div_right x (y * 2 ^ t) (pow_pos s) in
    let z : a + y * 2 ^ t ≡ c + a + b * 2 ^ 15 * 2 ^ 49 = omega (arith, m) in
    ap (λ (n : ℕ). n % 2 ^ 49) o ∙ sym (ap (λ (n : ℕ). n % 2 ^ 49) (d ∙ z) ∙ add-mul-mod_self_right (c + a) (b * 2 ^ 15) (2 ^ 49))

-- ---- what owning the lanes tells

low-lane : (l : List ℕ) (us : List Val) → shadow (each ℕ (UInt w64).own_val l us) → (i : ℕ) → get_or l i 0 < 2 ^ 64
low-lane [] us h i = lit< tt
low-lane (a ∷ l) [] h i = absurd h
low-lane (a ∷ l) (u ∷ us) h zero = h.0.1
low-lane (a ∷ l) (u ∷ us) h (suc i) = low-lane l us h.1 i

abbrev Owned : List ℕ → List Val → Type 0
Owned l vs = shadow (in_array ℕ (UInt w64).own_val 25 l vs)

-- ---- the generator g

module _ (g : MaskGen) (vs : List Val) (owned : Owned g.lanes vs) where
  row : flat (state_of g) ≡ g.lanes
  row = flat-unflat g.lanes owned.1.0.1

  -- at another place of its block
  held : (n m : ℕ) → n ≡ m → held_at (state_of g) n g.ok ≡ record { lanes = g.lanes; at = m; ok = g.ok }
  held n m e = λ i. record { lanes = row i; at = e i; ok = g.ok }

  -- a lane of its state
  lane-is : (k : ℕ) → k < 25 → lane_at (state_of g) k ≡ get_or g.lanes k 0
  lane-is k h = sym (get_d-table (lane_at (state_of g)) 25 k h) ∙ ap (λ (l : List ℕ). get_or l k 0) row

  fits : (k : ℕ) → get_or g.lanes k 0 < 2 ^ 64
  fits k = low-lane g.lanes owned.0 owned.1.1 k

  -- the seven bytes at the place, of lane k and the lane y behind it
  draw-is : (k y : ℕ) → k ≡ place_in g / 8 → ((j : ℕ) → j < 7 → 8 ≤ place_in g % 8 + j → stream (state_of g) (place_in g + j) ≡ y / 2 ^ (8 * (place_in g % 8 + j - 8)) % 256)
      → (get_or g.lanes k 0 + y * 2 ^ 64) / 2 ^ (8 * (place_in g % 8)) % 2 ^ 49 ≡ mask_draw g
  unfolding mask_draw bytes_ahead
  draw-is k y e high =
      let f : ℕ → ℕ = λ j. stream (state_of g) (place_in g + j) in
      let low : (j : ℕ) → j < 7 → place_in g % 8 + j < 8 → f j ≡ get_or g.lanes k 0 / 2 ^ (8 * (place_in g % 8 + j)) % 256 =
      λ j h l.
      let d : (place_in g + j) / 136 ≡ 0 = omega arith in
      let m : (place_in g + j) % 136 ≡ place_in g + j = omega arith in
      let u : (place_in g + j) / 8 ≡ k = omega arith in
      let v : (place_in g + j) % 8 ≡ place_in g % 8 + j = omega arith in
      rw (d, m, u, v, after_none) (ap (λ (x : ℕ). x / 2 ^ (8 * (place_in g % 8 + j)) % 256) (lane-is k (omega arith))) in
      sym
      (draw-by (table f 5439) 0 f (λ j h. ap (λ (i : ℕ). get_or (table f 5439) i 0) (zero-add j) ∙ get_d-table f 5439 j (omega arith))
      ∙ seven f (get_or g.lanes k 0) y (place_in g % 8) (fits k) low high)

  -- in the block: the lane behind is its next
  pub draw-within : place_in g < 129
      → (get_or g.lanes (place_in g / 8) 0 + get_or g.lanes (place_in g / 8 + 1) 0 * 2 ^ 64) / 2 ^ (8 * (place_in g % 8)) % 2 ^ 49 ≡ mask_draw g
  draw-within h =
      draw-is (place_in g / 8) (get_or g.lanes (place_in g / 8 + 1) 0) refl (λ j l o.
      let d : (place_in g + j) / 136 ≡ 0 = omega arith in
      let m : (place_in g + j) % 136 ≡ place_in g + j = omega arith in
      let u : (place_in g + j) / 8 ≡ place_in g / 8 + 1 = omega arith in
      let v : (place_in g + j) % 8 ≡ place_in g % 8 + j - 8 = omega arith in
      rw (d, m, u, v, after_none) (ap (λ (x : ℕ). x / 2 ^ (8 * (place_in g % 8 + j - 8)) % 256) (lane-is (place_in g / 8 + 1) (omega arith))))

  -- over its end: lane 16, and the first of the next block
  pub draw-over : 129 ≤ place_in g → (get_or g.lanes 16 0 + lane (keccak_f (state_of g)) 0 0 * 2 ^ 64) / 2 ^ (8 * (place_in g % 8)) % 2 ^ 49 ≡ mask_draw g
  draw-over h =
      draw-is 16 (lane (keccak_f (state_of g)) 0 0) (omega arith) (λ j l o.
      let d : (place_in g + j) / 136 ≡ 1 = omega arith in
      let m : (place_in g + j) % 136 ≡ place_in g % 8 + j - 8 = omega arith in
      let u : (place_in g % 8 + j - 8) / 8 ≡ 0 = omega arith in
      let v : (place_in g % 8 + j - 8) % 8 ≡ place_in g % 8 + j - 8 = omega arith in
      rw (d, m, u, v, after_next, after_none))

  -- behind the draw: in the same block
  pub stays : place_in g < 129 → record { lanes = g.lanes; at = place_in g + 7; ok = g.ok } ≡ mask_moved 1 g
  unfolding mask_moved
  stays h =
      let d : (place_in g + 7 * 1) / 136 ≡ 0 = omega arith in
      let e : (place_in g + 7 * 1) % 136 ≡ place_in g + 7 = omega arith in
      sym (rw (d, after_none) (held ((place_in g + 7 * 1) % 136) (place_in g + 7) e))

  pub settles : record { lanes = g.lanes; at = place_in g; ok = g.ok } ≡ mask_moved 0 g
  unfolding mask_moved
  settles =
      let d : (place_in g + 7 * 0) / 136 ≡ 0 = omega arith in
      let e : (place_in g + 7 * 0) % 136 ≡ place_in g = omega arith in
      sym (rw (d, after_none) (held ((place_in g + 7 * 0) % 136) (place_in g) e))

-- .. or in the next
pub goes_on : (g : MaskGen) → 129 ≤ place_in g → held_at (keccak_f (state_of g)) (place_in g - 129) g.ok ≡ mask_moved 1 g
unfolding mask_moved
goes_on g h =
    let d : (place_in g + 7 * 1) / 136 ≡ 1 = omega arith in
    let e : (place_in g + 7 * 1) % 136 ≡ place_in g - 129 = omega arith in
    rw (d, e, after_next, after_none)
