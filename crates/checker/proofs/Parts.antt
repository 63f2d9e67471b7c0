-- Parts of an input that may be short: up to a place or to the end, whichever is first.
use mathlib.Core.Path.{◌≡◌, sym, ap, ◌∙◌}
use mathlib.Core.List.{List}
use Prim.Native.Nat.{ℕ, min, ◌-◌, ◌≤◌, ◌<◌}
use native.Mathlib.Decide.{dec_lt}
use native.Mathlib.Omega.{arith}
use lib.ListN.{length, take, drop, length-drop, drop_of_length-le}
use lib.Seq.{take_all}

pub front : (s : List ℕ) (a : ℕ) → take (min a (length s)) s ≡ take a s
front s a = go (dec_lt (length s) a)
  where
    go : Dec (length s < a) → take (min a (length s)) s ≡ take a s
    go (yes l) = take_all (min a (length s)) s (omega arith) ∙ sym (take_all a s (omega arith))
    go (no l) = let e : min a (length s) ≡ a = omega arith in ap (λ (n : ℕ). take n s) e

behind : (s : List ℕ) (a : ℕ) → drop (min a (length s)) s ≡ drop a s
behind s a = go (dec_lt (length s) a)
  where
    go : Dec (length s < a) → drop (min a (length s)) s ≡ drop a s
    go (yes l) =
        let x : length s ≤ min a (length s) = omega arith in
        let y : length s ≤ a = omega arith in
        drop_of_length-le s x ∙ sym (drop_of_length-le s y)
    go (no l) = let e : min a (length s) ≡ a = omega arith in ap (λ (n : ℕ). drop n s) e

module _ (s : List ℕ) (k : ℕ) where
  pub first : (a : ℕ) → k ≡ min a (length s) → take (k - 0) (drop 0 s) ≡ take a s
  first a e = let z : k - 0 ≡ min a (length s) = omega arith in ap (λ (n : ℕ). take n s) z ∙ front s a

  pub last-part : (a : ℕ) → k ≡ min a (length s) → take (length s - k) (drop k s) ≡ drop a s
  last-part a e = take_all (length s - k) (drop k s) (omega (arith, length-drop k s)) ∙ ap (λ (n : ℕ). drop n s) e ∙ behind s a

  pub middle : (m a b : ℕ) → a ≤ b → k ≡ min a (length s) → m ≡ min b (length s) → take (m - k) (drop k s) ≡ take (b - a) (drop a s)
  middle m a b h e f =
      let l = length-drop a s in
      let z : m - k ≡ min (b - a) (length (drop a s)) = omega (arith, l) in
      ap (take (m - k)) (ap (λ (n : ℕ). drop n s) e ∙ behind s a) ∙ ap (λ (n : ℕ). take n (drop a s)) z ∙ front (drop a s) (b - a)
