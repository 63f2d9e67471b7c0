-- The last lines of Algorithm 12: the pairs of two halves, and the loop that masks them, a polynomial at a time: added on the left,
-- subtracted on the right. Where fewer words are there than a half has, the rest of it is as it was.
use mathlib.Core.Path.{◌≡◌, sym, ap, ◌∙◌}
use mathlib.Core.List.{List, [], ◌++◌, append-nil}
use Prim.Native.Nat.{ℕ, ◌+◌, ◌*◌, ◌≤◌, ◌<◌}
use native.Mathlib.Omega.{arith}
use lib.ListN.{length, take, drop, length-append, length-drop, take-append-drop}
use lib.Seq.{length-take-le, drop_at}
use Rattle.ring.specs.Words.{q, addq, subq, zip_to, add_w, sub_w, Below, Words}
use Rattle.ring.proofs.Sums.{addq-lt, subq-lt, below-take, below-drop, below-append, below-zip, zip-none, length-zip, zip-append}
use Rattle.sharing.specs.Region.{span, put}
use Rattle.sharing.specs.Encoding.{Generator, pairs, later, polys}
use Rattle.sharing.proofs.Regions.{span_left, span_right, put-left, put_right, put-seam}
use Rattle.sharing.proofs.Totals.{polys-words, polys-none, polys-more}

-- ---- a list added or subtracted block by block

module _ (f : ℕ → ℕ → ℕ) where
  module _ (xs m : List ℕ) (n : ℕ) (hm : length m ≡ n) (h : n ≤ length xs) where
    same : length (take n xs) ≡ length m
    same = length-take-le n xs h ∙ sym hm

    zip_more : (y : List ℕ) → zip_to f xs (m ++ y) ≡ zip_to f (take n xs) m ++ zip_to f (drop n xs) y
    zip_more y =
        ap (λ (t : List ℕ). zip_to f t (m ++ y)) (sym (take-append-drop n xs)) ∙ zip-append f (take n xs) (drop n xs) m y same

    zip-front : zip_to f xs m ≡ zip_to f (take n xs) m ++ drop n xs
    zip-front =
        ap (zip_to f xs) (sym (append-nil m)) ∙ zip_more [] ∙ ap (λ (t : List ℕ). zip_to f (take n xs) m ++ t) (zip-none f (drop n xs))

  -- a block of k words more
  pub zip-put : (xs m y : List ℕ) (n k : ℕ) → length m ≡ n → length y ≡ k → n + k ≤ length xs
      → put (zip_to f xs m) n k (zip_to f (span (zip_to f xs m) n k) y) ≡ zip_to f xs (m ++ y)
  zip-put xs m y n k hm hy h =
      let A = zip_to f (take n xs) m in
      let W = drop n xs in
      let a : length A ≡ n = length-zip f (take n xs) m ∙ length-take-le n xs (omega arith) in
      let w : k ≤ length W = rw length-drop (omega arith) in
      ap (λ (t : List ℕ). put t n k (zip_to f (span t n k) y)) (zip-front xs m n hm (omega arith))
      ∙ ap (λ (t : List ℕ). put (A ++ W) n k (zip_to f (take k t) y)) (drop_at A W n a)
      ∙ put-seam A W n k (zip_to f (take k W) y) a
      ∙ ap (λ (t : List ℕ). A ++ t) (sym (zip-front W y k hy w))
      ∙ sym (zip_more xs m n hm (omega arith) y)

-- ---- pairs

pub pairs-none : (l r : List ℕ) → pairs l r [] ≡ l ++ r
unfolding pairs
pairs-none l r = rw (zip-none addq l, zip-none subq r)

pub length_pairs : (l r m : List ℕ) → length (pairs l r m) ≡ length l + length r
unfolding pairs
length_pairs l r m =
    let a = length-zip addq l m in
    let b = length-zip subq r m in
    length-append (add_w l m) (sub_w r m) ∙ omega arith

pub below-pairs : (l r m : List ℕ) → Below q l → Below q r → Below q (pairs l r m)
unfolding pairs
below-pairs l r m h g =
    below-append q (add_w l m) (sub_w r m) (below-zip q addq addq-lt l m h) (below-zip q subq subq-lt r m g)

-- a turn: the block at n is added on the left, then subtracted on the right
pub pairs-left : (l r m y : List ℕ) (n k : ℕ) → length m ≡ n → length y ≡ k → n + k ≤ length l
    → put (pairs l r m) n k (add_w (span (pairs l r m) n k) y) ≡ add_w l (m ++ y) ++ sub_w r m
unfolding pairs
pairs-left l r m y n k hm hy h =
    let z = length-zip addq l m in
    let e : span (add_w l m ++ sub_w r m) n k ≡ span (add_w l m) n k = span_left (add_w l m) (sub_w r m) n k (omega arith) in
    rw e
    (put-left (add_w l m) (sub_w r m) n k (add_w (span (add_w l m) n k) y) (omega arith)
    ∙ ap (λ (t : List ℕ). t ++ sub_w r m) (zip-put addq l m y n k hm hy h))

pub pairs-right : (l r m y : List ℕ) (a n k : ℕ) → length l ≡ a → length m ≡ n → length y ≡ k → n + k ≤ length r
    → put (add_w l (m ++ y) ++ sub_w r m) (a + n) k (sub_w (span (add_w l (m ++ y) ++ sub_w r m) (a + n) k) y) ≡ pairs l r (m ++ y)
unfolding pairs
pairs-right l r m y a n k hl hm hy h =
    let z : length (add_w l (m ++ y)) ≡ a = length-zip addq l (m ++ y) ∙ hl in
    let e : span (add_w l (m ++ y) ++ sub_w r m) (a + n) k ≡ span (sub_w r m) n k = span_right (add_w l (m ++ y)) (sub_w r m) a n k z in
    rw e
    (put_right (add_w l (m ++ y)) (sub_w r m) a n k (sub_w (span (sub_w r m) n k) y) z
    ∙ ap (λ (t : List ℕ). add_w l (m ++ y) ++ t) (zip-put subq r m y n k hm hy h))

-- ---- the loop over h pairs of polynomials: s₀ is the buffer where it begins, x the generator there

abbrev pub masked : (G : Generator) → List ℕ → ℕ → G.State → ℕ → List ℕ
masked G s₀ h x j = pairs (take (h * 512) s₀) (drop (h * 512) s₀) (polys G j x)

module _ (G : Generator) (words : (g : G.State) → Words 512 (G.poly g)) (s₀ : List ℕ) (h : ℕ) (x : G.State)
    (ws : Words (h * 512 + h * 512) s₀) where
  len-left : length (take (h * 512) s₀) ≡ h * 512
  len-left = let n = ws.long in length-take-le (h * 512) s₀ (omega arith)

  len-right : length (drop (h * 512) s₀) ≡ h * 512
  len-right = let n = ws.long in length-drop (h * 512) s₀ ∙ omega arith

  low-left : Below q (take (h * 512) s₀)
  low-left = below-take q (h * 512) s₀ ws.low

  low-right : Below q (drop (h * 512) s₀)
  low-right = below-drop q (h * 512) s₀ ws.low

  pub masked-start : s₀ ≡ masked G s₀ h x 0
  masked-start =
      sym
      (ap (pairs (take (h * 512) s₀) (drop (h * 512) s₀)) (polys-none G x) ∙ pairs-none (take (h * 512) s₀) (drop (h * 512) s₀)
      ∙ take-append-drop (h * 512) s₀)

  pub pairs-words : (j : ℕ) → Words (h * 512 + h * 512) (masked G s₀ h x j)
  pairs-words j =
      let a = len-left in
      let b = len-right in
      record {
        long = length_pairs (take (h * 512) s₀) (drop (h * 512) s₀) (polys G j x) ∙ omega arith;
        low = below-pairs (take (h * 512) s₀) (drop (h * 512) s₀) (polys G j x) low-left low-right;
      }

  -- s at the turn, p the polynomial drawn, t and u the buffer after the sum and the difference
  module _ (j : ℕ) (lt : j < h) (s p t : List ℕ) (es : s ≡ masked G s₀ h x j) (ep : p ≡ G.poly (later G j x))
      (et : t ≡ put s (j * 512) 512 (add_w (span s (j * 512) 512) p)) where
    len-p : length p ≡ 512
    len-p = ap length ep ∙ (words (later G j x)).long

    mid : t ≡ add_w (take (h * 512) s₀) (polys G j x ++ p) ++ sub_w (drop (h * 512) s₀) (polys G j x)
    mid =
        let a = len-left in
        et ∙ ap (λ (l : List ℕ). put l (j * 512) 512 (add_w (span l (j * 512) 512) p)) es
        ∙ pairs-left (take (h * 512) s₀) (drop (h * 512) s₀) (polys G j x) p (j * 512) 512 (polys-words G words j x).long len-p (omega arith)

    pub masked-mid : Words (h * 512 + h * 512) t
    masked-mid =
        let L = add_w (take (h * 512) s₀) (polys G j x ++ p) in
        let R = sub_w (drop (h * 512) s₀) (polys G j x) in
        let a : length L ≡ h * 512 = length-zip addq (take (h * 512) s₀) (polys G j x ++ p) ∙ len-left in
        let b : length R ≡ h * 512 = length-zip subq (drop (h * 512) s₀) (polys G j x) ∙ len-right in
        record {
          long = ap length mid ∙ length-append L R ∙ omega arith;
          low = rw mid
              (below-append q L R (below-zip q addq addq-lt (take (h * 512) s₀) (polys G j x ++ p) low-left)
              (below-zip q subq subq-lt (drop (h * 512) s₀) (polys G j x) low-right));
        }

    pub masked-turn : (u : List ℕ) → u ≡ put t (h * 512 + j * 512) 512 (sub_w (span t (h * 512 + j * 512) 512) p) → u ≡ masked G s₀ h x (j + 1)
    masked-turn u eu =
        let b = len-right in
        let L = take (h * 512) s₀ in
        let R = drop (h * 512) s₀ in
        eu ∙ ap (λ (l : List ℕ). put l (h * 512 + j * 512) 512 (sub_w (span l (h * 512 + j * 512) 512) p)) mid
        ∙ pairs-right L R (polys G j x) p (h * 512) (j * 512) 512 len-left (polys-words G words j x).long len-p (omega arith)
        ∙ ap (λ (m : List ℕ). pairs L R (polys G j x ++ m)) ep
        ∙ ap (pairs L R) (sym (polys-more G j x))
