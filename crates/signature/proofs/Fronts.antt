-- The first n words of a local array: written there as a part, and read back.
use mathlib.Core.Path.{◌≡◌, sym, ap, ◌∙◌}
use mathlib.Core.List.{List, ◌++◌}
use Prim.Native.Nat.{ℕ, ◌+◌, ◌-◌, ◌*◌, ◌/◌, ◌≤◌, ◌<◌}
use native.Mathlib.Omega.{arith}
use lib.ListN.{length, take, drop, replicate, length-replicate}
use lib.Seq.{take_at, length-take-le}
use borrow.Rule.Slice.PartMut.{mid_of, post_of, put_mid, same_len_mid, mid_len}
use Rattle.hash.specs.declared.params.Params.{Params}
use Rattle.hash.specs.Shake.{absorbed, stream, shake256}
use Rattle.hash.proofs.Table.{length-table}
use Rattle.hash.specs.Lists.{zeros}
use Rattle.ring.specs.Words.{Below}
use Rattle.ring.proofs.Sums.{below-take, below-zeros}
use Rattle.sharing.specs.Region.{span}
use Rattle.sharing.proofs.Regions.{length-span}
use Rattle.signature.specs.Bits.{repack}
use Rattle.signature.specs.Keys.{vk_vector}
use Rattle.signature.specs.Digest.{key_hash, bound_to}
use Rattle.signature.proofs.Packing.{length-repack}

-- a part of an array that was just made
pub front_long : {A : Type 0} (x : A) (n m : ℕ) → n ≤ m → length (take (n - 0) (replicate m x)) ≡ n
front_long x n m h = let z : n - 0 ≡ n = omega arith in length-take-le (n - 0) (replicate m x) (omega (arith, length-replicate m x)) ∙ z

pub front_low : (m : ℕ) → 0 < m → (n k : ℕ) → Below m (take (n - 0) (zeros k))
front_low m pos n k = below-take m (n - 0) (zeros k) (below-zeros m pos k)

-- a front that was written
module _ {A : Type 0} (n : ℕ) (xs ys : List A) (h : n ≤ length xs) (e : length ys ≡ n) where
  zero-off : n - 0 ≡ n
  zero-off = omega arith

  pub front-in : n ≤ length (put_mid 0 (n - 0) xs ys)
  front-in =
      let l : length (put_mid 0 (n - 0) xs ys) ≡ length xs = same_len_mid 0 (n - 0) xs ys (e ∙ sym zero-off ∙ sym (mid_len 0 n xs h)) in
      rw l h

  pub front-is : take (n - 0) (put_mid 0 (n - 0) xs ys) ≡ ys
  front-is = take_at ys (post_of 0 (n - 0) xs) (n - 0) (e ∙ sym zero-off)

-- .. by a copy of n words from `at` on
module _ (n at : ℕ) (xs s : List ℕ) (h : n ≤ length xs) (g : at + n ≤ length s) where
  pub copied-from : take (at + n - at) (drop at s) ≡ span s at n
  copied-from = let k : at + n - at ≡ n = omega arith in ap (λ (m : ℕ). take m (drop at s)) k

  pub copied-long : length (take (at + n - at) (drop at s)) ≡ n
  copied-long = ap (λ (l : List ℕ). length l) copied-from ∙ length-span s at n g

  pub copied-room : length (mid_of 0 (n - 0) xs) ≡ length (take (at + n - at) (drop at s))
  copied-room = let z : n - 0 ≡ n = omega arith in mid_len 0 n xs h ∙ z ∙ sym copied-long

-- .. by unpacking
module _ (w n : ℕ) (xs ys bs : List ℕ) (h : n ≤ length xs) (e : ys ≡ repack 8 w (length (mid_of 0 (n - 0) xs)) bs) where
  unpacked : ys ≡ repack 8 w n bs
  unpacked = let z : n - 0 ≡ n = omega arith in e ∙ ap (λ (k : ℕ). repack 8 w k bs) (mid_len 0 n xs h ∙ z)

  long : length ys ≡ n
  long = ap (λ (l : List ℕ). length l) unpacked ∙ length-repack 8 w n bs

  pub unpacked-in : n ≤ length (put_mid 0 (n - 0) xs ys)
  unpacked-in = front-in n xs ys h long

  pub unpacked-is : take (n - 0) (put_mid 0 (n - 0) xs ys) ≡ repack 8 w n bs
  unpacked-is = front-is n xs ys h long ∙ unpacked

-- .. of t, from a public key's bytes, into an array of 4608 words
module _ (p : Params) (key ys : List ℕ) (h : p.k ≤ 9)
    (e : ys ≡ repack 8 7 (length {A = ℕ} (mid_of 0 (p.k * 512 - 0) (replicate 4608 0))) (take (p.kappa / 8 + p.k * 448 - p.kappa / 8) (drop (p.kappa / 8) key))) where
  pub vector-in : p.k * 512 ≤ length (put_mid 0 (p.k * 512 - 0) (replicate 4608 0) ys)
  vector-in = unpacked-in 7 (p.k * 512) (replicate 4608 0) ys _ (omega arith) e

  pub vector-is : take (p.k * 512 - 0) (put_mid 0 (p.k * 512 - 0) (replicate 4608 0) ys) ≡ vk_vector p key
  unfolding vk_vector
  vector-is =
      let m : p.kappa / 8 + p.k * 448 - p.kappa / 8 ≡ p.k * 448 = omega arith in
      unpacked-is 7 (p.k * 512) (replicate 4608 0) ys _ (omega arith) e
      ∙ ap (λ (j : ℕ). repack 8 7 (p.k * 512) (take j (drop (p.kappa / 8) key))) m

-- all of t is k polynomials
pub vector-long : (p : Params) (key : List ℕ) → length (vk_vector p key) ≡ p.k * 512
unfolding vk_vector
vector-long p key = length-repack 8 7 (p.k * 512) _

-- .. by a hash
module _ (n : ℕ) (xs ys m : List ℕ) (h : n ≤ length xs) (e : ys ≡ shake256 m (length (mid_of 0 (n - 0) xs))) where
  digest : ys ≡ shake256 m n
  digest = let z : n - 0 ≡ n = omega arith in e ∙ ap (shake256 m) (mid_len 0 n xs h ∙ z)

  digest-long : length ys ≡ n
  digest-long = ap (λ (l : List ℕ). length l) digest ∙ length-table (stream (absorbed m)) n

  pub digest-in : n ≤ length (put_mid 0 (n - 0) xs ys)
  digest-in = front-in n xs ys h digest-long

  pub digest-is : take (n - 0) (put_mid 0 (n - 0) xs ys) ≡ shake256 m n
  digest-is = front-is n xs ys h digest-long ∙ digest

-- .. by mu
module _ (n : ℕ) (xs ys vk msg : List ℕ) (h : n ≤ length xs) (e : ys ≡ bound_to (length (mid_of 0 (n - 0) xs)) (key_hash (length (mid_of 0 (n - 0) xs)) vk) msg) where
  bound : ys ≡ bound_to n (key_hash n vk) msg
  bound = let z : n - 0 ≡ n = omega arith in e ∙ ap (λ (k : ℕ). bound_to k (key_hash k vk) msg) (mid_len 0 n xs h ∙ z)

  bound-long : length ys ≡ n
  unfolding bound_to
  bound-long = ap (λ (l : List ℕ). length l) bound ∙ length-table (stream (absorbed (key_hash n vk ++ msg))) n

  pub bound-in : n ≤ length (put_mid 0 (n - 0) xs ys)
  bound-in = front-in n xs ys h bound-long

  pub bound-is : take (n - 0) (put_mid 0 (n - 0) xs ys) ≡ bound_to n (key_hash n vk) msg
  bound-is = front-is n xs ys h bound-long ∙ bound

-- the front of the array that holds z, transformed, as it was written: ys
module _ (l : ℕ) (h : l ≤ 7) (ys : List ℕ) (e : length ys ≡ length (take (l * 512 - 0) (zeros 3584))) where
  z-front-fits : l * 512 ≤ length (zeros 3584)
  z-front-fits = omega (arith, h, length-replicate {A = ℕ} 3584 0)

  pub z-front-long : length ys ≡ l * 512
  z-front-long = e ∙ front_long 0 (l * 512) 3584 (omega (arith, h))

  pub z-front-in : l * 512 ≤ length (put_mid 0 (l * 512 - 0) (zeros 3584) ys)
  z-front-in = front-in (l * 512) (zeros 3584) ys z-front-fits z-front-long

  pub z-front-is : take (l * 512 - 0) (put_mid 0 (l * 512 - 0) (zeros 3584) ys) ≡ ys
  z-front-is = front-is (l * 512) (zeros 3584) ys z-front-fits z-front-long
