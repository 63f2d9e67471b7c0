-- What the masked steps do to the sums of the shares: a map that keeps sums, done at each share, is done to the sum; a zero encoding has
-- the sum 0, so that refreshing changes no sum; repeated noise adds its total.
use mathlib.Core.Path.{◌≡◌, refl, sym, ap, ◌∙◌, subst}
use mathlib.Core.List.{List, [], ◌++◌}
use Prim.Native.Nat.{ℕ, zero, suc, ◌+◌, ◌*◌, ◌^◌, ◌<◌}
use native.Mathlib.Nat.{add-zero, add-suc}
use native.Mathlib.Numerals.{add-one}
use native.Mathlib.Omega.{arith}
use Rattle.hash.specs.Params.{order_index}
use Rattle.ring.specs.Words.{add_w, sub_w, Words, Linear}
use Rattle.ring.proofs.Sums.{linear-zero, add-zero-right, add-zero-left, words-zeros, residues-append, words-add, words-sub, add_comm, add_assoc, add-sub}
use Rattle.hash.specs.Lists.{zeros}
use Rattle.sharing.specs.Blocks.{block, build, sum_of, total, totals, each}
use Rattle.sharing.specs.Encoding.{Generator, pairs, later, polys, zero_after, zero_encoding, skip, zero_at, add_rep, add_noise, zero_vector, refreshed}
use Rattle.sharing.proofs.Lists.{block_words, build-ext, words-build, block-build}
use Rattle.sharing.proofs.Decode.{words-sum, linear-sum, linear-then, linear-build, block-linear, total-words, total-linear, total-build, total-append, totals-build}

-- ---- a map that keeps sums, at each share

pub each-linear : (d : ℕ) {F : List ℕ → List ℕ} → Linear 512 512 F → Linear (d * 512) (d * 512) (each d F)
unfolding each
each-linear d {F} L =
    linear-build d (λ (j : ℕ) (xs : List ℕ). F (block 512 j xs)) (λ (j : ℕ) (l : j < d). linear-then (block-linear d j l) L)

pub each-words : (d : ℕ) {F : List ℕ → List ℕ} → Linear 512 512 F → (xs : List ℕ) → Words (d * 512) xs → Words (d * 512) (each d F xs)
each-words d L xs h = (each-linear d L).words xs h

pub each-total : (d : ℕ) {F : List ℕ → List ℕ} → Linear 512 512 F → (xs : List ℕ) → Words (d * 512) xs → total d (each d F xs) ≡ F (total d xs)
unfolding each total
each-total d {F} L xs h =
    let b : (j : ℕ) → j < d → Words 512 (block 512 j xs) = λ (j : ℕ) (l : j < d). block_words d j xs h l in
    total-build d (λ (j : ℕ). F (block 512 j xs)) (λ (j : ℕ) (l : j < d). (L.words (block 512 j xs) (b j l)).long)
    ∙ sym (linear-sum L d (λ (j : ℕ). block 512 j xs) b)

-- ---- the generator, polynomial by polynomial and zero encoding by zero encoding

module _ (G : Generator) where
  pub later-none : (g : G.State) → later G 0 g ≡ g
  unfolding later
  later-none g = refl

  pub later_more : (n : ℕ) (g : G.State) → later G (n + 1) g ≡ G.next (later G n g)
  unfolding later
  later_more n g = ap (λ (k : ℕ). later G k g) (add-one n)

  pub later-add : (n m : ℕ) (g : G.State) → later G m (later G n g) ≡ later G (n + m) g
  unfolding later
  later-add n zero g = ap (λ (k : ℕ). later G k g) (sym (add-zero n))
  later-add n (suc m) g = ap G.next (later-add n m g) ∙ ap (λ (k : ℕ). later G k g) (sym (add-suc n m))

  pub polys-none : (g : G.State) → polys G 0 g ≡ []
  unfolding polys build
  polys-none g = refl

  pub polys-more : (n : ℕ) (g : G.State) → polys G (n + 1) g ≡ polys G n g ++ G.poly (later G n g)
  unfolding polys build
  polys-more n g = ap (λ (k : ℕ). build k (λ (j : ℕ). G.poly (later G j g))) (add-one n)

  module _ (d : ℕ) where
    pub skip-none : (g : G.State) → skip G d 0 g ≡ g
    unfolding skip
    skip-none g = refl

    -- the state after n and then m zero encodings
    pub skip-add : (n m : ℕ) (g : G.State) → skip G d m (skip G d n g) ≡ skip G d (n + m) g
    unfolding skip
    skip-add n zero g = ap (λ (k : ℕ). skip G d k g) (sym (add-zero n))
    skip-add n (suc m) g = ap (zero_after G (order_index d)) (skip-add n m g) ∙ ap (λ (k : ℕ). skip G d k g) (sym (add-suc n m))

    -- a turn of a loop
    pub skip-next : (i : ℕ) (g x y : G.State) → x ≡ skip G d i g → y ≡ skip G d 1 x → y ≡ skip G d (i + 1) g
    skip-next i g x y e f = f ∙ ap (skip G d 1) e ∙ skip-add i 1 g

    -- zero encodings from a later state
    pub zero-later : (n m : ℕ) (g : G.State) → zero_at G d m (skip G d n g) ≡ zero_at G d (n + m) g
    unfolding zero_at
    zero-later n m g = ap (zero_encoding G (order_index d)) (skip-add n m g)

    pub zero-here : (i : ℕ) (g x : G.State) → x ≡ skip G d i g → zero_at G d 0 x ≡ zero_at G d i g
    zero-here i g x e = ap (zero_at G d 0) e ∙ zero-later i 0 g ∙ ap (λ (n : ℕ). zero_at G d n g) (add-zero i)

    -- number 0 is Algorithm 12 from here
    pub zero-first : (g : G.State) → zero_at G d 0 g ≡ zero_encoding G (order_index d) g
    unfolding zero_at skip
    zero-first g = refl

    pub skip_first : (g : G.State) → skip G d 1 g ≡ zero_after G (order_index d) g
    unfolding skip
    skip_first g = refl

module _ (G : Generator) (low : (g : G.State) → Words 512 (G.poly g)) where
  pub polys-words : (n : ℕ) (g : G.State) → Words (n * 512) (polys G n g)
  unfolding polys
  polys-words n g = words-build n (λ (j : ℕ). G.poly (later G j g)) (λ (j : ℕ) (l : j < n). low (later G j g))

  -- ---- zero encodings

  pub zero-words : (h : ℕ) (g : G.State) → Words (2 ^ h * 512) (zero_encoding G h g)
  unfolding zero_encoding pairs
  zero-words zero g = words-zeros 512
  zero-words (suc h) g =
      let x = zero_encoding G h g in
      let y = zero_encoding G h (zero_after G h g) in
      let m = polys G (2 ^ h) (zero_after G h (zero_after G h g)) in
      let w : Words (2 ^ h * 512 + 2 ^ h * 512) (add_w x m ++ sub_w y m) =
      residues-append (add_w x m) (sub_w y m) (words-add x m (zero-words h g)) (words-sub y m (zero-words h (zero_after G h g))) in
      record { long = w.long ∙ omega arith; low = w.low }

  -- x + m and y - m together are x + y
  pub zero-total : (h : ℕ) (g : G.State) → total (2 ^ h) (zero_encoding G h g) ≡ zeros 512
  unfolding zero_encoding pairs
  zero-total zero g = linear-zero (total-linear 1)
  zero-total (suc h) g =
      let x = zero_encoding G h g in
      let y = zero_encoding G h (zero_after G h g) in
      let m = polys G (2 ^ h) (zero_after G h (zero_after G h g)) in
      let wx : Words (2 ^ h * 512) x = zero-words h g in
      let wy : Words (2 ^ h * 512) y = zero-words h (zero_after G h g) in
      let wm : Words (2 ^ h * 512) m = polys-words (2 ^ h) (zero_after G h (zero_after G h g)) in
      let wl : Words (2 ^ h * 512) (add_w x m) = words-add x m wx in
      let wr : Words (2 ^ h * 512) (sub_w y m) = words-sub y m wy in
      let tm : Words 512 (total (2 ^ h) m) = total-words (2 ^ h) m in
      let tr : Words 512 (total (2 ^ h) (sub_w y m)) = total-words (2 ^ h) (sub_w y m) in
      let p : 2 ^ suc h ≡ 2 ^ h + 2 ^ h = omega arith in
      let e1 : total (2 ^ h + 2 ^ h) (add_w x m ++ sub_w y m) ≡ add_w (total (2 ^ h) (add_w x m)) (total (2 ^ h) (sub_w y m)) =
      total-append (2 ^ h) (2 ^ h) (add_w x m) (sub_w y m) wl wr in
      let e2 : total (2 ^ h) (add_w x m) ≡ add_w (total (2 ^ h) x) (total (2 ^ h) m) = (total-linear (2 ^ h)).adds x m wx wm in
      let e3 : total (2 ^ h) x ≡ zeros 512 = zero-total h g in
      let e4 : add_w (zeros 512) (total (2 ^ h) m) ≡ total (2 ^ h) m = add-zero-left (total (2 ^ h) m) tm in
      let e5 : add_w (total (2 ^ h) m) (total (2 ^ h) (sub_w y m)) ≡ add_w (total (2 ^ h) (sub_w y m)) (total (2 ^ h) m) =
      add_comm (total (2 ^ h) m) (total (2 ^ h) (sub_w y m)) tm tr in
      let e6 : total (2 ^ h) (add_w (sub_w y m) m) ≡ add_w (total (2 ^ h) (sub_w y m)) (total (2 ^ h) m) =
      (total-linear (2 ^ h)).adds (sub_w y m) m wr wm in
      let e7 : add_w (sub_w y m) m ≡ y = add-sub y m wy wm in
      let e8 : total (2 ^ h) y ≡ zeros 512 = zero-total h (zero_after G h g) in
      ap (λ (n : ℕ). total n (add_w x m ++ sub_w y m)) p ∙ cc

  module _ (d : ℕ) (power : d ≡ 2 ^ order_index d) where
    pub zero_at-words : (n : ℕ) (g : G.State) → Words (d * 512) (zero_at G d n g)
    unfolding zero_at
    zero_at-words n g =
        subst (λ (m : ℕ). Words (m * 512) (zero_encoding G (order_index d) (skip G d n g))) (sym power)
        (zero-words (order_index d) (skip G d n g))

    pub zero_at-total : (n : ℕ) (g : G.State) → total d (zero_at G d n g) ≡ zeros 512
    unfolding zero_at
    zero_at-total n g =
        ap (λ (m : ℕ). total m (zero_encoding G (order_index d) (skip G d n g))) power ∙ zero-total (order_index d) (skip G d n g)

    -- refreshing keeps the sum
    pub refresh-total : (n : ℕ) (g : G.State) (xs : List ℕ) → Words (d * 512) xs → total d (add_w xs (zero_at G d n g)) ≡ total d xs
    refresh-total n g xs h =
        (total-linear d).adds xs (zero_at G d n g) h (zero_at-words n g)
        ∙ ap (λ (t : List ℕ). add_w (total d xs) t) (zero_at-total n g)
        ∙ add-zero-right (total d xs) (total-words d xs)

    -- ---- repeated noise

    pub rep-words : (g : G.State) (r : ℕ) (f : ℕ → List ℕ) (xs : List ℕ) → Words (d * 512) xs → Words (d * 512) (add_rep G d g r f xs)
    unfolding add_rep
    rep-words g zero f xs h = h
    rep-words g (suc t) f xs h =
        words-add (add_w (add_rep G d g t f xs) (f t)) (zero_at G d t g) (words-add (add_rep G d g t f xs) (f t) (rep-words g t f xs h))

    -- AddRepNoise adds the total
    pub rep-total : (g : G.State) (r : ℕ) (f : ℕ → List ℕ) (xs : List ℕ) → Words (d * 512) xs → ((t : ℕ) → t < r → Words (d * 512) (f t))
        → total d (add_rep G d g r f xs) ≡ add_w (total d xs) (sum_of 512 r (λ (t : ℕ). total d (f t)))
    unfolding add_rep sum_of
    rep-total g zero f xs h k = sym (add-zero-right (total d xs) (total-words d xs))
    rep-total g (suc t) f xs h k =
        let x = add_rep G d g t f xs in
        let s = sum_of 512 t (λ (t : ℕ). total d (f t)) in
        let wx : Words (d * 512) x = rep-words g t f xs h in
        let wf : Words (d * 512) (f t) = k t (omega arith) in
        refresh-total t g (add_w x (f t)) (words-add x (f t) wx)
        ∙ (total-linear d).adds x (f t) wx wf
        ∙ ap (λ (y : List ℕ). add_w y (total d (f t))) (rep-total g t f xs h (λ (i : ℕ) (l : i < t). k i (omega arith)))
        ∙ add_assoc (total d xs) s (total d (f t)) (total-words d xs) (words-sum 512 t (λ (t : ℕ). total d (f t))) (total-words d (f t))

    -- ---- vectors of m sharings

    module _ (m : ℕ) (xs : List ℕ) (wx : Words (m * (d * 512)) xs) (g : G.State) where
      part : (i : ℕ) → i < m → Words (d * 512) (block (d * 512) i xs)
      part i l = block_words m i xs wx l

      renewed : (i : ℕ) → i < m → Words (d * 512) (add_w (block (d * 512) i xs) (zero_at G d i g))
      renewed i l = words-add (block (d * 512) i xs) (zero_at G d i g) (part i l)

      pub refreshed-words : Words (m * (d * 512)) (refreshed G d g m xs)
      unfolding refreshed
      refreshed-words = words-build m (λ (i : ℕ). add_w (block (d * 512) i xs) (zero_at G d i g)) renewed

      -- refreshing keeps the sums
      pub refreshed-totals : totals m d (refreshed G d g m xs) ≡ totals m d xs
      unfolding refreshed totals
      refreshed-totals =
          totals-build m d (λ (i : ℕ). add_w (block (d * 512) i xs) (zero_at G d i g)) (λ (i : ℕ) (l : i < m). (renewed i l).long)
          ∙ build-ext m (λ (i : ℕ). total d (add_w (block (d * 512) i xs) (zero_at G d i g))) (λ (i : ℕ). total d (block (d * 512) i xs))
          (λ (i : ℕ) (l : i < m). refresh-total i g (block (d * 512) i xs) (part i l))

      module _ (r : ℕ) (f : ℕ → ℕ → List ℕ) where
        noised : (i : ℕ) → i < m → Words (d * 512) (add_rep G d (skip G d (i * r) g) r (f i) (block (d * 512) i xs))
        noised i l = rep-words (skip G d (i * r) g) r (f i) (block (d * 512) i xs) (part i l)

        pub noise-words : Words (m * (d * 512)) (add_noise G d g m r f xs)
        unfolding add_noise
        noise-words = words-build m (λ (i : ℕ). add_rep G d (skip G d (i * r) g) r (f i) (block (d * 512) i xs)) noised

        -- noise adds its totals
        pub noise-totals : ((i t : ℕ) → i < m → t < r → Words (d * 512) (f i t))
            → totals m d (add_noise G d g m r f xs)
            ≡ build m (λ (i : ℕ). add_w (total d (block (d * 512) i xs)) (sum_of 512 r (λ (t : ℕ). total d (f i t))))
        unfolding add_noise
        noise-totals k =
            totals-build m d (λ (i : ℕ). add_rep G d (skip G d (i * r) g) r (f i) (block (d * 512) i xs)) (λ (i : ℕ) (l : i < m). (noised i l).long)
            ∙ build-ext m (λ (i : ℕ). total d (add_rep G d (skip G d (i * r) g) r (f i) (block (d * 512) i xs)))
            (λ (i : ℕ). add_w (total d (block (d * 512) i xs)) (sum_of 512 r (λ (t : ℕ). total d (f i t))))
            (λ (i : ℕ) (l : i < m).
            rep-total (skip G d (i * r) g) r (f i) (block (d * 512) i xs) (part i l) (λ (t : ℕ) (h : t < r). k i t l h))

    module _ (g : G.State) (m : ℕ) where
      pub zero_vector-words : Words (m * (d * 512)) (zero_vector G d g m)
      unfolding zero_vector
      zero_vector-words = words-build m (λ (i : ℕ). zero_at G d i g) (λ (i : ℕ) (l : i < m). zero_at-words i g)

      pub zero_vector-block : (i : ℕ) → i < m → block (d * 512) i (zero_vector G d g m) ≡ zero_at G d i g
      unfolding zero_vector
      zero_vector-block i l = block-build (d * 512) m i (λ (i : ℕ). zero_at G d i g) (λ (j : ℕ) (h : j < m). (zero_at-words j g).long) l
