-- The packer: whole words of eight bytes are stored, and what is left of the bits is held in a number.
use Prim.Native.Nat.{ℕ, ◌+◌, ◌*◌, ◌-◌, ◌/◌, ◌%◌, ◌^◌, ◌≤◌, ◌<◌}
use mathlib.Core.Path.{◌≡◌, refl, sym, ap, ◌∙◌}
use mathlib.Core.List.{List, [], ◌++◌, append_assoc}
use native.Mathlib.Omega.{arith}
use native.Mathlib.Nat.{mod-eq_of_lt, mod-lt, mul_comm, add_comm}
use lib.Arith.{digits_lt}
use lib.ListN.{length, get_or, take, length-append}
use lib.Pow.{pow_pos, pow-add, pow_mono, shl_exact, shr_lt}
use lib.Seq.{sets, take_all, length-take-le}
use Rattle.hash.specs.Endian.{byte_of}
use Rattle.hash.specs.ShakeSteps.{pasted}
use Rattle.sharing.proofs.Lists.{inside}
use Rattle.signature.specs.Bits.{bits_of, bit_string, repack}
use Rattle.signature.proofs.Strings.{length-bits, length_fields, bits-append, bits-cat, bits-low, sets-append}
use Rattle.signature.proofs.Packing.{fields-more, packed}
use Rattle.signature.proofs.Words.{stored}

-- i numbers xs of w bits each: the bits `done` stand in the first j bytes of out, the others are the `have` bits of acc
pub record Packed (w : ℕ) (xs l out : List ℕ) (i j acc have : ℕ) : Type 0 where
  pub done : List ℕ
  pub long : length done ≡ j * 8
  pub low : acc < 2 ^ have
  pub stored_is : bit_string 8 out ≡ sets (bit_string 8 l) 0 done
  pub all-is : done ++ bits_of have acc ≡ bit_string w (take i xs)

-- a number on top of the bits held
on-top : (acc have t x : ℕ) → acc < 2 ^ have → bits_of (have + t) (acc + x % 2 ^ t * 2 ^ have) ≡ bits_of have acc ++ bits_of t x
on-top acc have t x h =
    ap (λ (n : ℕ). bits_of (have + t) (n + x % 2 ^ t * 2 ^ have)) (sym (mod-eq_of_lt h)) ∙ bits-cat have t acc (x % 2 ^ t)
    ∙ ap (λ (m : List ℕ). bits_of have acc ++ m) (bits-low t x)

top_lt : (acc have t x : ℕ) → acc < 2 ^ have → acc + x % 2 ^ t * 2 ^ have < 2 ^ (have + t)
top_lt acc have t x h = rw (add_comm acc (x % 2 ^ t * 2 ^ have), pow-add, mul_comm (2 ^ have) (2 ^ t)) (digits_lt (mod-lt x (pow_pos t)) h)

-- as the machine adds it
pub top-exact : (y have t x : ℕ) → have + t ≤ 64 → y ≡ x % 2 ^ t → y * 2 ^ have % 2 ^ 64 ≡ x % 2 ^ t * 2 ^ have
top-exact y have t x h e = rw e (shl_exact t have 64 (mod-lt x (pow_pos t)) (omega arith))

pub top-fits : (acc y have t x : ℕ) → acc < 2 ^ have → have + t ≤ 64 → y ≡ x % 2 ^ t → acc + y * 2 ^ have % 2 ^ 64 < 2 ^ 64
top-fits acc y have t x h k e = omega (arith, top-exact y have t x k e, top_lt acc have t x h, pow_mono {i = have + t} {j = 64} k)

module _ (w : ℕ) (xs l : List ℕ) where
  pub pack-start : Packed w xs l l 0 0 0 0
  unfolding bit_string bits_of
  pack-start = record { done = []; long = omega arith; low = omega arith; stored_is = refl; all-is = refl }

  module _ (out : List ℕ) (i j acc have : ℕ) (s : Packed w xs l out i j acc have) where
    pub place : i ≤ length xs → j * 8 + have ≡ i * w
    place h =
        let e = length_fields w (take i xs) ∙ ap (λ (n : ℕ). n * w) (length-take-le i xs h) in
        omega (arith, ap length s.all-is, length-append s.done (bits_of have acc), s.long, length-bits have acc)

    pub word_room : (n : ℕ) → i < length xs → length xs * w ≡ n * 8 → 64 ≤ have + w → j + 8 ≤ n
    word_room n h e k = omega (arith, place (omega arith), inside i (length xs) w h)

    pub last-place : (n : ℕ) → i ≤ length xs → length xs ≤ i → length xs * w ≡ n * 8 → j * 8 + have ≡ n * 8
    last-place n h g e = let d : i ≡ length xs = omega arith in place h ∙ ap (λ (m : ℕ). m * w) d ∙ e

    more : i < length xs → s.done ++ (bits_of have acc ++ bits_of w (get_or xs i 0)) ≡ bit_string w (take (i + 1) xs)
    more h =
        sym (append_assoc s.done (bits_of have acc) (bits_of w (get_or xs i 0))) ∙ ap (λ (m : List ℕ). m ++ bits_of w (get_or xs i 0)) s.all-is
        ∙ sym (fields-more w xs i h)

    module _ (x : ℕ) (h : i < length xs) (is : x ≡ get_or xs i 0 % 2 ^ w) where
      -- held: the word has room for w bits more
      pub keep : have + w < 64 → Packed w xs l out (i + 1) j (acc + x * 2 ^ have % 2 ^ 64) (have + w)
      keep k =
          let v = get_or xs i 0 in
          let e : acc + x * 2 ^ have % 2 ^ 64 ≡ acc + v % 2 ^ w * 2 ^ have = ap (λ (n : ℕ). acc + n) (top-exact x have w v (omega arith) is) in
          record {
            done = s.done;
            long = s.long;
            low = rw e (top_lt acc have w v s.low);
            stored_is = s.stored_is;
            all-is = ap (λ (n : ℕ). s.done ++ bits_of (have + w) n) e ∙ ap (λ (m : List ℕ). s.done ++ m) (on-top acc have w v s.low) ∙ more h;
          }

      -- stored: t bits fill the word, and the others are held
      module _ (t y : ℕ) (t-is : t ≡ 64 - have) (k : 64 ≤ have + w) (f : have < 64) (low-is : y ≡ x % 2 ^ t) where
        whole : have + t ≡ 64
        whole = omega arith

        word : ℕ
        word = acc + y * 2 ^ have % 2 ^ 64

        word-is : bits_of 64 word ≡ bits_of have acc ++ bits_of t x
        unfolding word
        word-is =
            ap (λ (n : ℕ). bits_of 64 (acc + n)) (top-exact y have t x (omega arith) low-is)
            ∙ ap (λ (n : ℕ). bits_of n (acc + x % 2 ^ t * 2 ^ have)) (sym whole) ∙ on-top acc have t x s.low

        number : bits_of w (get_or xs i 0) ≡ bits_of t x ++ bits_of (w - t) (x / 2 ^ t)
        number =
            let e : t + (w - t) ≡ w = omega arith in
            sym (bits-low w (get_or xs i 0)) ∙ ap (bits_of w) (sym is) ∙ ap (λ (n : ℕ). bits_of n x) (sym e) ∙ bits-append t (w - t) x

        pub store : (out' : List ℕ) → j + 8 ≤ length out → out' ≡ pasted (byte_of (acc + y * 2 ^ have % 2 ^ 64)) out j 8
            → Packed w xs l out' (i + 1) (j + 8) (x / 2 ^ t) (w - t)
        unfolding word
        store out' r e =
            let d = s.done in
            let b = bits_of 64 word in
            let e₀ : 0 + length d ≡ j * 8 = omega (arith, s.long) in
            let e₁ : (w - t) + t ≡ w = omega arith in
            let v : x < 2 ^ (w - t + t) = rw (e₁, is) (mod-lt (get_or xs i 0) (pow_pos w)) in
            record {
              done = d ++ b;
              long = length-append d b ∙ omega (arith, s.long, length-bits 64 word);
              low = shr_lt (w - t) t v;
              stored_is =
                  ap (bit_string 8) e ∙ stored out j word r ∙ ap (λ (m : List ℕ). sets m (j * 8) b) s.stored_is
                  ∙ sym (sets-append (bit_string 8 l) 0 d b ∙ ap (λ (n : ℕ). sets (sets (bit_string 8 l) 0 d) n b) e₀);
              all-is =
                  append_assoc d b (bits_of (w - t) (x / 2 ^ t))
                  ∙ ap (λ (m : List ℕ). d ++ m) (ap (λ (m : List ℕ). m ++ bits_of (w - t) (x / 2 ^ t)) word-is
                  ∙ append_assoc (bits_of have acc) (bits_of t x) (bits_of (w - t) (x / 2 ^ t)) ∙ ap (λ (m : List ℕ). bits_of have acc ++ m) (sym number))
                  ∙ more h;
            }

    -- the last bytes
    pub finish : (out' : List ℕ) → length xs ≤ i → length out' ≡ length l → length xs * w ≡ length l * 8 → ((k : ℕ) → get_or out' k 0 < 2 ^ 8)
        → bit_string 8 out' ≡ sets (bit_string 8 out) (j * 8) (bits_of have acc) → out' ≡ repack w 8 (length l) xs
    finish out' h k n byte e =
        let d = s.done in
        let e₀ : 0 + length d ≡ j * 8 = omega (arith, s.long) in
        let a : bit_string 8 out' ≡ sets (bit_string 8 l) 0 (bit_string w xs) =
        e ∙ ap (λ (m : List ℕ). sets m (j * 8) (bits_of have acc)) s.stored_is
        ∙ sym (ap (λ (m : List ℕ). sets (bit_string 8 l) 0 m) (ap (bit_string w) (sym (take_all i xs h)) ∙ sym s.all-is)
        ∙ sets-append (bit_string 8 l) 0 d (bits_of have acc) ∙ ap (λ (m : ℕ). sets (sets (bit_string 8 l) 0 d) m (bits_of have acc)) e₀) in
        packed w xs out' l byte k (omega arith) a ∙ ap (λ (m : ℕ). repack w 8 m xs) k
