-- A block of the transform, in place: both halves one after the other, by a function that calls itself or on eight entries; and the last block, of four.
use mathlib.Core.Path.{◌≡◌, refl, ap, sym, ◌∙◌, subst}
use mathlib.Core.List.{List, [], ◌∷◌, ◌++◌, append-nil}
use Prim.Native.Nat.{ℕ, suc, ◌+◌, ◌*◌, ◌-◌, ◌/◌, ◌%◌, ◌^◌, ◌<◌, ◌≤◌}
use native.Mathlib.Nat.{mul-le-mul_left}
use native.Mathlib.Omega.{arith}
use lib.Pow.{pow_pos}
use lib.Dec.{lit≤}
use lib.ListN.{length, take, drop, get_or, set, length-append, length-drop, drop_of_length-le}
use lib.Seq.{take_at, drop_at, length-take-le, take_all}
use borrow.Rule.Slice.PartMut.{put_mid, same_len_mid}
use Rattle.ring.specs.declared.prime.Prime.{Prime}
use Rattle.ring.specs.Words.{Below, Residues}
use Rattle.ring.specs.Poly.{map_n, map2}
use Rattle.ring.specs.Residue.{prime, zeta, over512, up, down, join, part, halves, fwd, bwd, scale, mods, back_one}
use Rattle.ring.specs.Loose.{LooseList, CooleyTukey, GentlemanSande, Stepped, forth_range, Block}
use Rattle.ring.proofs.Sums.{below_at, below_wider, below-take, below-drop, below-append}
use Rattle.ring.proofs.Places.{length-map2, length-mods, residues-mods, mods-append, mods-mods, mods-take, mods-drop}
use Rattle.ring.proofs.Inverse.{pow-two}
use Rattle.ring.proofs.Tables.{prime-pos}
use Rattle.ring.proofs.LevelRanges.{wider}

-- ---- `&mut a[..h]`, which leaves X ++ drop h S, and then `&mut a[h..]`

abbrev pub second : ℕ → List ℕ → List ℕ
second h L = take (length L - h) (drop h L)

abbrev pub laid : ℕ → List ℕ → List ℕ → List ℕ
laid h L Y = put_mid h (length L - h) L Y

module _ (h : ℕ) (S X : List ℕ) (es : length S ≡ 2 * h) (ex : length X ≡ h) where
  both_long : length (X ++ drop h S) ≡ 2 * h
  both_long = simp (length-append, length-drop) (omega arith)

  past_first : drop h (X ++ drop h S) ≡ drop h S
  past_first = drop_at X (drop h S) h ex

  enough : length (drop h S) ≤ length (X ++ drop h S) - h
  enough = simp length-drop (omega (arith, both_long))

  second_is : second h (X ++ drop h S) ≡ drop h S
  second_is =
      ap (λ (t : List ℕ). take (length (X ++ drop h S) - h) t) past_first ∙ take_all (length (X ++ drop h S) - h) (drop h S) enough

  laid-is : (Y : List ℕ) → laid h (X ++ drop h S) Y ≡ X ++ Y
  laid-is Y =
      let none : drop (length (X ++ drop h S) - h) (drop h (X ++ drop h S)) ≡ [] =
      ap (λ (t : List ℕ). drop (length (X ++ drop h S) - h) t) past_first ∙ drop_of_length-le (drop h S) enough in
      cc (take_at X (drop h S) h ex, none, append-nil Y)

-- ---- a block above the last, of which h entries are a half

pub record InHalves (m d k h : ℕ) (A : List ℕ) : Type 0 where
  pub block : Block m d k A
  pub above : 0 < d
  pub half : h ≡ 2 ^ (d - 1)

below : (d : ℕ) → 0 < d → d ≡ suc (d - 1)
below d o = omega arith

pow-down : (d : ℕ) → 0 < d → 2 ^ d ≡ 2 * 2 ^ (d - 1)
pow-down d o = ap (λ (x : ℕ). 2 ^ x) (below d o) ∙ pow-two (d - 1)

-- half of its length, and four of eight
pub in_halves : (n : ℕ) {m d k : ℕ} {A : List ℕ} → n < d → Block m d k A → InHalves m d k (length A / 2) A
in_halves n {m} {d} {k} {A} l b =
    let o : 0 < d = omega arith in
    record { block = b; above = o; half = omega (arith, b.long, pow-down d o) }

pub eight-in-halves : {m k : ℕ} {A : List ℕ} → Block m 3 k A → InHalves m 3 k 4 A
eight-in-halves b = record { block = b; above = omega arith; half = refl }

module _ {m d k h : ℕ} {A : List ℕ} (v : InHalves m d k h A) where
  inside : suc k * (2 * 2 ^ (d - 1)) ≤ 1024
  inside = subst (λ (x : ℕ). suc k * x ≤ 1024) (pow-down d v.above) v.block.inside

  pub long-half : length A ≡ 2 * h
  long-half = omega (arith, v.block.long, pow-down d v.above, v.half)

  pub node-lt : k < 512
  node-lt = omega (arith, inside, mul-le-mul_left (suc k) (pow_pos (d - 1)))

  lo : length (take h A) ≡ h
  lo = length-take-le h A (omega (arith, long-half))

  hi : length (drop h A) ≡ h
  hi = length-drop h A ∙ omega (arith, long-half)

  -- the transform: the halves made anew, S, of which the first becomes X
  module _ (S : List ℕ) (ks : length S ≡ length A) where
    long-s : length S ≡ 2 * h
    long-s = ks ∙ long-half

    ls : length (take h S) ≡ h
    ls = length-take-le h S (omega (arith, long-s))

    lt : length (drop h S) ≡ h
    lt = length-drop h S ∙ omega (arith, long-s)

    pub first_block : (n : ℕ) → Below n S → Block n (d - 1) (2 * k) (take h S)
    first_block n low =
        record { long = ls ∙ v.half; inside = omega (arith, inside); low = below-take n h S low }

    last_block : (n : ℕ) → Below n S → Block n (d - 1) (2 * k + 1) (drop h S)
    last_block n low =
        record { long = lt ∙ v.half; inside = omega (arith, inside); low = below-drop n h S low }

    module _ (X : List ℕ) (kept : length X ≡ length (take h S)) where
      lx : length X ≡ h
      lx = kept ∙ ls

      pub after_first : length (X ++ drop h S) ≡ 2 * h
      after_first = both_long h S X long-s lx

      pub second_block : (n : ℕ) → Below n S → Block n (d - 1) (2 * k + 1) (second h (X ++ drop h S))
      second_block n low =
          subst (Block n (d - 1) (2 * k + 1)) (sym (second_is h S X long-s lx)) (last_block n low)

      module _ (Y : List ℕ) where
        -- told by rests: both halves are loose, and so is the whole
        module _ (p w : ℕ) (g : ℕ → ℕ) (s : Stepped p (halves (up p w) (down p w) h) g A S) where
          abbrev ups : List ℕ
          ups = map2 (up p w) (take h (mods p A)) (drop h (mods p A))

          abbrev downs : List ℕ
          downs = map2 (down p w) (take h (mods p A)) (drop h (mods p A))

          lo-rests : length (take h (mods p A)) ≡ h
          lo-rests = length-take-le h (mods p A) (omega (arith, long-half, length-mods p A))

          hi-rests : length (drop h (mods p A)) ≡ h
          hi-rests = length-drop h (mods p A) ∙ omega (arith, long-half, length-mods p A)

          l1 : length ups ≡ h
          l1 =
              length-map2 (up p w) (take h (mods p A)) (drop h (mods p A)) (lo-rests ∙ sym hi-rests)
              ∙ lo-rests

          first-is : mods p (take h S) ≡ ups
          first-is =
              mods-take p h S ∙ ap (λ (t : List ℕ). take h t) s.same
              ∙ take_at ups downs h l1

          last-is : mods p (drop h S) ≡ downs
          last-is =
              mods-drop p h S ∙ ap (λ (t : List ℕ). drop h t) s.same
              ∙ drop_at ups downs h l1

          pub whole-fwd : (n : ℕ) (z : ℕ → ℕ) → w ≡ z k
              → LooseList p n (fwd p z (d - 1) (2 * k) (mods p (take h S))) X
              → LooseList p n (fwd p z (d - 1) (2 * k + 1) (mods p (second h (X ++ drop h S)))) Y
              → LooseList p n (fwd p z d k (mods p A)) (laid h (X ++ drop h S) Y)
          unfolding fwd
          whole-fwd n z ew hx hy =
              let is = laid-is h S X long-s lx Y in
              record {
                low = subst (Below (n * p)) (sym is) (below-append (n * p) X Y hx.low hy.low);
                same =
                    ap (mods p) is ∙ mods-append p X Y
                    ∙ cc (below d v.above, ew, hx.same, hy.same, v.half, first-is, last-is, second_is h S X long-s lx);
              }

  -- the inverse: the halves first, X and Y
  pub first_part : Block m (d - 1) (2 * k + 1) (take h A)
  first_part =
      record { long = lo ∙ v.half; inside = omega (arith, inside); low = below-take m h A v.block.low }

  last-part : Block m (d - 1) (2 * k) (drop h A)
  last-part =
      record { long = hi ∙ v.half; inside = omega (arith, inside); low = below-drop m h A v.block.low }

  module _ (X : List ℕ) (kept : length X ≡ length (take h A)) where
    lp : length X ≡ h
    lp = kept ∙ lo

    pub after-part : length (X ++ drop h A) ≡ 2 * h
    after-part = both_long h A X long-half lp

    pub second-part : Block m (d - 1) (2 * k) (second h (X ++ drop h A))
    second-part = subst (Block m (d - 1) (2 * k)) (sym (second_is h A X long-half lp)) last-part

    module _ (Y : List ℕ) (kepty : length Y ≡ length (second h (X ++ drop h A))) where
      pub laid-long : length (laid h (X ++ drop h A) Y) ≡ 2 * h
      laid-long =
          same_len_mid h (length (X ++ drop h A) - h) (X ++ drop h A) Y kepty
          ∙ after-part

      module _ (p n : ℕ) (z : ℕ → ℕ) (hx : LooseList p n (bwd p z (d - 1) (2 * k + 1) (mods p (take h A))) X)
          (hy : LooseList p n (bwd p z (d - 1) (2 * k) (mods p (second h (X ++ drop h A)))) Y) where
        pub laid-low : Below (n * p) (laid h (X ++ drop h A) Y)
        laid-low =
            subst (Below (n * p)) (sym (laid-is h A X long-half lp Y)) (below-append (n * p) X Y hx.low hy.low)

        laid-rests : mods p (laid h (X ++ drop h A) Y) ≡ mods p X ++ mods p Y
        laid-rests = ap (mods p) (laid-is h A X long-half lp Y) ∙ mods-append p X Y

        first-rests : mods p X ≡ bwd p z (d - 1) (2 * k + 1) (take h (mods p A))
        first-rests = hx.same ∙ ap (bwd p z (d - 1) (2 * k + 1)) (mods-take p h A)

        second-rests : mods p Y ≡ bwd p z (d - 1) (2 * k) (drop h (mods p A))
        second-rests =
            hy.same ∙ ap (λ (t : List ℕ). bwd p z (d - 1) (2 * k) (mods p t)) (second_is h A X long-half lp)
            ∙ ap (bwd p z (d - 1) (2 * k)) (mods-drop p h A)

        pub whole-bwd : (n' w : ℕ) → w ≡ z k → (S : List ℕ)
            → LooseList p n' (halves (join p) (part p w) h (mods p (laid h (X ++ drop h A) Y))) S
            → LooseList p n' (bwd p z d k (mods p A)) S
        unfolding bwd
        whole-bwd n' w ew S o =
            let lx : length (mods p X) ≡ h = length-mods p X ∙ lp in
            record {
              low = o.low;
              same =
                  o.same ∙ ap (halves (join p) (part p w) h) laid-rests
                  ∙ cc (
                    below d v.above,
                    ew,
                    first-rests,
                    second-rests,
                    v.half,
                    take_at (mods p X) (mods p Y) h lx,
                    drop_at (mods p X) (mods p Y) h lx,
                  );
            }

-- ---- the last two levels: a block of four
four : (A : List ℕ) → length A ≡ 4 → A ≡ get_or A 0 0 ∷ get_or A 1 0 ∷ get_or A 2 0 ∷ get_or A 3 0 ∷ []
four [] e = absurd (omega arith)
four (a ∷ []) e = absurd (omega arith)
four (a ∷ b ∷ []) e = absurd (omega arith)
four (a ∷ b ∷ c ∷ []) e = absurd (omega arith)
four (a ∷ b ∷ c ∷ d ∷ []) e = refl
four (a ∷ b ∷ c ∷ d ∷ x ∷ A) e = absurd (omega arith)

-- .. and its four entries set anew
abbrev pub set4 : List ℕ → ℕ → ℕ → ℕ → ℕ → List ℕ
set4 A a b c d = set (set (set (set A 0 a) 1 b) 2 c) 3 d

set-four : (A : List ℕ) → length A ≡ 4 → (a b c d : ℕ) → set4 A a b c d ≡ a ∷ b ∷ c ∷ d ∷ []
set-four A e a b c d = ap (λ (t : List ℕ). set4 t a b c d) (four A e)

module _ (p : ℕ) (z : ℕ → ℕ) (k : ℕ) (A : List ℕ) (e : length A ≡ 4) where
  fwd-four : (a b c d : ℕ) → fwd p z 2 k (a ∷ b ∷ c ∷ d ∷ [])
      ≡ up p (z (2 * k)) (up p (z k) a c) (up p (z k) b d) ∷ down p (z (2 * k)) (up p (z k) a c) (up p (z k) b d)
      ∷ up p (z (2 * k + 1)) (down p (z k) a c) (down p (z k) b d) ∷ down p (z (2 * k + 1)) (down p (z k) a c) (down p (z k) b d) ∷ []
  unfolding fwd
  fwd-four a b c d = refl

  bwd-four : (a b c d : ℕ) → bwd p z 2 k (a ∷ b ∷ c ∷ d ∷ [])
      ≡ join p (join p a b) (join p c d) ∷ join p (part p (z (2 * k + 1)) a b) (part p (z (2 * k)) c d)
      ∷ part p (z k) (join p a b) (join p c d) ∷ part p (z k) (part p (z (2 * k + 1)) a b) (part p (z (2 * k)) c d) ∷ []
  unfolding bwd
  bwd-four a b c d = refl

  rests-four : mods p A ≡ get_or A 0 0 % p ∷ get_or A 1 0 % p ∷ get_or A 2 0 % p ∷ get_or A 3 0 % p ∷ []
  unfolding map_n
  rests-four = ap (mods p) (four A e)

  four_low : (m a b c d : ℕ) → a < m → b < m → c < m → d < m → Below m (set4 A a b c d)
  four_low m a b c d ha hb hc hd = subst (Below m) (sym (set-four A e a b c d)) (ha, (hb, (hc, (hd, tt))))

  module _ (w u v : ℕ) (ew : w ≡ z k) (x0 x1 x2 x3 y0 y1 y2 y3 : ℕ) where
    pub last-four : u ≡ z (2 * k) → v ≡ z (2 * k + 1)
        → CooleyTukey p w (get_or A 0 0) (get_or A 2 0) x0 x2 → CooleyTukey p w (get_or A 1 0) (get_or A 3 0) x1 x3
        → CooleyTukey p u x0 x1 y0 y1 → CooleyTukey p v x2 x3 y2 y3
        → (n : ℕ) → get_or A 0 0 < n * p → LooseList p (n + 4) (fwd p z 2 k (mods p A)) (set4 A y0 y1 y2 y3)
    unfolding map_n
    last-four eu ev r s t o n l =
        record {
          low =
              four_low ((n + 4) * p) y0 y1 y2 y3 (omega (arith, l, r.sum_low, t.sum_low)) (omega (arith, l, r.sum_low, t.diff-low))
              (omega (arith, l, r.diff-low, o.sum_low)) (omega (arith, l, r.diff-low, o.diff-low));
          same =
              ap (mods p) (set-four A e y0 y1 y2 y3)
              ∙ cc (
                ew,
                eu,
                ev,
                r.sum_is,
                r.diff_is,
                s.sum_is,
                s.diff_is,
                t.sum_is,
                t.diff_is,
                o.sum_is,
                o.diff_is,
                fwd-four (get_or A 0 0 % p) (get_or A 1 0 % p) (get_or A 2 0 % p) (get_or A 3 0 % p),
              )
              ∙ ap (fwd p z 2 k) (sym rests-four);
        }

    pub first-four : u ≡ z (2 * k + 1) → v ≡ z (2 * k)
        → GentlemanSande p u (get_or A 0 0) (get_or A 1 0) x0 x1 → GentlemanSande p v (get_or A 2 0) (get_or A 3 0) x2 x3
        → GentlemanSande p w x0 x2 y0 y2 → GentlemanSande p w x1 x3 y1 y3
        → 0 < p → Below p A → LooseList p 4 (bwd p z 2 k (mods p A)) (set4 A y0 y1 y2 y3)
    unfolding map_n
    first-four eu ev r s t o pos h =
        let low = below_at p pos A h in
        record {
          low =
              four_low (4 * p) y0 y1 y2 y3 (omega (arith, low 0, low 1, low 2, low 3, r.sum_low, s.sum_low, t.sum_low))
              (omega (arith, r.diff-low, s.diff-low, o.sum_low)) (omega (arith, t.diff-low)) (omega (arith, o.diff-low));
          same =
              ap (mods p) (set-four A e y0 y1 y2 y3)
              ∙ cc (
                ew,
                eu,
                ev,
                r.sum_is,
                r.diff_is,
                s.sum_is,
                s.diff_is,
                t.sum_is,
                t.diff_is,
                o.sum_is,
                o.diff_is,
                bwd-four (get_or A 0 0 % p) (get_or A 1 0 % p) (get_or A 2 0 % p) (get_or A 3 0 % p),
              )
              ∙ ap (bwd p z 2 k) (sym rests-four);
        }

-- ---- the whole, from rests of a list of 512 below two primes

module _ (s : Prime) (A X : List ℕ) (h : LooseList (prime s) 2 (mods (prime s) A) X) where
  pub top-block : length X ≡ 512 → Block (forth_range 9 * prime s) 9 1 X
  top-block e = record { long = e; inside = lit≤ tt; low = h.low }

  pub top-fwd : (Y : List ℕ) → LooseList (prime s) (forth_range 0) (fwd (prime s) (zeta s) 9 1 (mods (prime s) X)) Y
      → LooseList (prime s) 32 (fwd (prime s) (zeta s) 9 1 (mods (prime s) A)) Y
  top-fwd Y g =
      record {
        low = wider (prime s) (forth_range 0) 32 (lit≤ tt) Y g.low;
        same = g.same ∙ ap (fwd (prime s) (zeta s) 9 1) h.same;
      }

-- .. and from the least ones

module _ (s : Prime) (A X : List ℕ) (e : length A ≡ 512) (e_x : X ≡ mods (prime s) A) where
  are-residues : Residues (prime s) 512 X
  are-residues = subst (Residues (prime s) 512) (sym e_x) (residues-mods (prime-pos s) A e)

  again : mods (prime s) X ≡ mods (prime s) A
  again = ap (mods (prime s)) e_x ∙ mods-mods (prime s) A

  pub low-block : Block (prime s) 9 1 X
  low-block = record { long = are-residues.long; inside = lit≤ tt; low = are-residues.low }

  -- the least residues, as the transform takes them
  pub least-loose : LooseList (prime s) 2 (mods (prime s) A) X
  least-loose = record { low = below_wider (prime s) (2 * prime s) (omega arith) X are-residues.low; same = again }

  pub top-bwd : (Y : List ℕ) (n : ℕ) → LooseList (prime s) n (bwd (prime s) (zeta s) 9 1 (mods (prime s) X)) Y
      → (v : ℕ) → v ≡ over512 s → (W : List ℕ) → LooseList (prime s) 2 (scale (prime s) v (mods (prime s) Y)) W
      → LooseList (prime s) 32 (back_one s (mods (prime s) A)) W
  unfolding back_one
  top-bwd Y n h v ev W g =
      record {
        low = wider (prime s) 2 32 (lit≤ tt) W g.low;
        same = cc (g.same, ev, h.same, again);
      }
