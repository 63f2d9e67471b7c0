-- The recursion of Algorithm 12 on a share count d: d is halved, and a buffer of d shares is cut in two.
use mathlib.Core.Path.{◌≡◌, refl, sym, ap, ◌∙◌}
use mathlib.Core.List.{List, ◌++◌, append-nil}
use Prim.Native.Nat.{ℕ, zero, suc, ◌+◌, ◌-◌, ◌*◌, ◌/◌, ◌^◌, ◌≤◌, ◌<◌}
use native.Mathlib.Omega.{arith}
use lib.Dec.{T, eqb, eqb→eq}
use lib.ListN.{length, take, drop, length-append, length-drop, drop_of_length-le}
use lib.Pow.{pow_pos}
use lib.Seq.{length-take-le, take_at, drop_at}
use Rattle.hash.specs.Params.{order_index, ShareCount}
use Rattle.hash.proofs.Computed.{below, at}
use Rattle.hash.proofs.Rows.{order_le, count-power, count-half}
use Rattle.hash.specs.Lists.{zeros}
use Rattle.sharing.specs.Region.{put}
use Rattle.sharing.specs.Encoding.{Generator, pairs, later, polys, zero_after, zero_encoding}
use Rattle.sharing.proofs.Regions.{put-seam, length-span}

-- ---- half a share count

powers : T (below (λ (k : ℕ). eqb (order_index (2 ^ k)) k) 7)
unfolding below
powers = tt

order-power : (k : ℕ) → k ≤ 6 → order_index (2 ^ k) ≡ k
order-power k h = eqb→eq _ _ (at (λ (k : ℕ). eqb (order_index (2 ^ k)) k) 7 powers k (omega arith))

pub record Half (d : ℕ) : Type 0 where
  pub index : order_index d ≡ suc (order_index (d / 2))
  pub count : ShareCount (d / 2)
  pub power : d / 2 ≡ 2 ^ order_index (d / 2)
  pub twice : d ≡ d / 2 + d / 2
  pub less : d / 2 < d

halved : (d k : ℕ) → (d ≡ 1 → ⊥) → d ≡ 2 ^ k → (j : ℕ) × (k ≡ suc j) × (d / 2 ≡ 2 ^ j) × (d ≡ d / 2 + d / 2) × (d / 2 < d)
halved d zero n e = absurd (n e)
halved d (suc j) n e =
    let p : 2 ^ suc j ≡ 2 * 2 ^ j = omega arith in
    let o = pow_pos j in
    (j, refl, omega arith, omega arith, omega arith)

pub half : (d : ℕ) → ShareCount d → (d ≡ 1 → ⊥) → Half d
half d c n =
    let h = halved d (order_index d) n (count-power d c) in
    let o : order_index (d / 2) ≡ h.0 = ap order_index h.2 ∙ order-power h.0 (omega (arith, order_le d, h.1)) in
    record { index = h.1 ∙ ap suc (sym o); count = count-half d c n; power = h.2 ∙ ap (λ (k : ℕ). 2 ^ k) (sym o); twice = h.3; less = h.4 }

-- ---- the two halves of a buffer s of d shares, lent as s[..m] and then s[m..], m being d / 2 * 512

module _ (d : ℕ) (hf : Half d) (s : List ℕ) (len : length s ≡ d * 512) where
  pub len-left : length (take (d / 2 * 512) s) ≡ d / 2 * 512
  len-left = let t = hf.twice in length-take-le (d / 2 * 512) s (omega arith)

  module _ (l : List ℕ) (ll : length l ≡ d / 2 * 512) where
    pub len-rest : length (l ++ drop (d / 2 * 512) s) - d / 2 * 512 ≡ d / 2 * 512
    len-rest = let t = hf.twice in rw (length-append, length-drop) (omega arith)

    pub len-right : length (take (length (l ++ drop (d / 2 * 512) s) - d / 2 * 512) (drop (d / 2 * 512) (l ++ drop (d / 2 * 512) s))) ≡ d / 2 * 512
    len-right =
        let t = hf.twice in
        rw len-rest
        (length-span (l ++ drop (d / 2 * 512) s) (d / 2 * 512) (d / 2 * 512) (rw (length-append, length-drop) (omega arith)))

    pub joined : (r : List ℕ) → put (l ++ drop (d / 2 * 512) s) (d / 2 * 512) (length (l ++ drop (d / 2 * 512) s) - d / 2 * 512) r ≡ l ++ r
    joined r =
        let t = hf.twice in
        rw len-rest
        (put-seam l (drop (d / 2 * 512) s) (d / 2 * 512) (d / 2 * 512) r ll
        ∙ ap (λ (z : List ℕ). l ++ (r ++ z)) (drop_of_length-le (drop (d / 2 * 512) s) {i = d / 2 * 512} (rw length-drop (omega arith)))
        ∙ ap (λ (z : List ℕ). l ++ z) (append-nil r))

-- ---- the encoding of d shares

module _ (G : Generator) (d : ℕ) where
  -- of one share
  pub zero_one : (g : G.State) → d ≡ 1 → (zeros 512 ≡ zero_encoding G (order_index d) g) × (g ≡ zero_after G (order_index d) g)
  unfolding zero_encoding zero_after
  zero_one g e =
      (ap (λ (n : ℕ). zero_encoding G (order_index n) g) (sym e), ap (λ (n : ℕ). zero_after G (order_index n) g) (sym e))

  -- of 2 ^ suc k, from what the halves l and r and the pairs give; x, y, z are the generators after each
  more : (n k : ℕ) (g x y z : G.State) (l r u : List ℕ) → n ≡ 2 ^ k → length l ≡ n * 512
      → (l ≡ zero_encoding G k g) × (x ≡ zero_after G k g) → (r ≡ zero_encoding G k x) × (y ≡ zero_after G k x)
      → (u ≡ pairs (take (n * 512) (l ++ r)) (drop (n * 512) (l ++ r)) (polys G n y)) × (z ≡ later G n y)
      → (u ≡ zero_encoding G (suc k) g) × (z ≡ zero_after G (suc k) g)
  unfolding zero_encoding zero_after
  more n k g x y z l r u e ll a b c =
      let t : take (n * 512) (l ++ r) ≡ l = take_at l r (n * 512) ll in
      let v : drop (n * 512) (l ++ r) ≡ r = drop_at l r (n * 512) ll in
      (cc (t, v, e, a.0, a.1, b.0, b.1, c.0), cc (e, a.1, b.1, c.1))

  -- of d that is not 1
  pub zero_more : (g x y z : G.State) (l r u : List ℕ) → Half d → length l ≡ d / 2 * 512
      → (l ≡ zero_encoding G (order_index (d / 2)) g) × (x ≡ zero_after G (order_index (d / 2)) g)
      → (r ≡ zero_encoding G (order_index (d / 2)) x) × (y ≡ zero_after G (order_index (d / 2)) x)
      → (u ≡ pairs (take (d / 2 * 512) (l ++ r)) (drop (d / 2 * 512) (l ++ r)) (polys G (d / 2) y)) × (z ≡ later G (d / 2) y)
      → (u ≡ zero_encoding G (order_index d) g) × (z ≡ zero_after G (order_index d) g)
  zero_more g x y z l r u hf ll a b c =
      let m = more (d / 2) (order_index (d / 2)) g x y z l r u hf.power ll a b c in
      (m.0 ∙ ap (λ (k : ℕ). zero_encoding G k g) (sym hf.index), m.1 ∙ ap (λ (k : ℕ). zero_after G k g) (sym hf.index))
