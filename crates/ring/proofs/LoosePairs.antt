-- Loops in place over loose residues, told by the rests of the entries and by a bound of them: over two halves side by side, and over one list.
use mathlib.Core.Path.{◌≡◌, refl, ap, sym, ◌∙◌, subst}
use mathlib.Core.List.{List, [], ◌∷◌}
use Prim.Native.Nat.{ℕ, ◌+◌, ◌*◌, ◌%◌, ◌<◌, ◌≤◌}
use native.Mathlib.Numerals.{add-one}
use native.Mathlib.Omega.{arith}
use lib.ListN.{length, take, get_or, set, length-set}
use lib.Seq.{get_or-set_other, take-suc-set, take_all}
use Rattle.ring.specs.Words.{Below}
use Rattle.ring.specs.Residue.{halves, mods, scale}
use Rattle.ring.specs.Loose.{Loose, LooseList, Stepped}
use Rattle.ring.proofs.Cong.{times-rest}
use Rattle.ring.proofs.Sums.{below_at, below_set, below_wider, below-append}
use Rattle.ring.proofs.Places.{length-mods, mods-set, mods-at}
use Rattle.ring.proofs.Pairs.{Paired, paired-start, paired-more, paired-end, Each, each_more, each-end, map2-map_n}

-- ---- two halves: the rests are made by h1 and h2, and a bound m, p at the least, becomes g m

pub record LoosePaired (p : ℕ) (g : ℕ → ℕ) (h1 h2 : ℕ → ℕ → ℕ) (n : ℕ) (A : List ℕ) (i : ℕ) (a : List ℕ) : Type 0 where
  pub long : length a ≡ 2 * n
  pub rests : Paired h1 h2 n (mods p A) i (mods p a)
  pub ahead : (j : ℕ) → i ≤ j → j < n → (get_or a j 0 ≡ get_or A j 0) × (get_or a (n + j) 0 ≡ get_or A (n + j) 0)
  pub low : (m : ℕ) → p ≤ m → Below m A → Below (g m) a

module _ (p : ℕ) (g : ℕ → ℕ) (h1 h2 : ℕ → ℕ → ℕ) (n : ℕ) (A : List ℕ) (e : length A ≡ 2 * n) where
  pub loose-paired-start : ((m : ℕ) → m ≤ g m) → LoosePaired p g h1 h2 n A 0 A
  loose-paired-start l =
      record {
        long = e;
        rests = paired-start h1 h2 n (mods p A) (length-mods p A ∙ e);
        ahead = λ j h k. (refl, refl);
        low = λ m h k. below_wider m (g m) (l m) A k;
      }

  module _ (pos : 0 < p) (i : ℕ) (a : List ℕ) (s : LoosePaired p g h1 h2 n A i a) (l : i < n) where
    -- the two entries met are still the first ones
    pub loose-paired-lo : (m : ℕ) → 0 < m → Below m A → get_or a i 0 < m
    loose-paired-lo m o h = subst (λ (x : ℕ). x < m) (sym (s.ahead i (omega arith) l).0) (below_at m o A h i)

    pub loose-paired-hi : (m : ℕ) → 0 < m → Below m A → get_or a (n + i) 0 < m
    loose-paired-hi m o h = subst (λ (x : ℕ). x < m) (sym (s.ahead i (omega arith) l).1) (below_at m o A h (n + i))

    module _ (v w : ℕ) where
      set-ahead : (j : ℕ) → i + 1 ≤ j → j < n
          → (get_or (set (set a i v) (n + i) w) j 0 ≡ get_or A j 0) × (get_or (set (set a i v) (n + i) w) (n + j) 0 ≡ get_or A (n + j) 0)
      set-ahead j h k = (
        get_or-set_other (set a i v) (n + i) j w 0 (λ q. omega (arith, q, h, k)) ∙ get_or-set_other a i j v 0 (λ q. omega (arith, q, h))
            ∙ (s.ahead j (omega arith) k).0,
        get_or-set_other (set a i v) (n + i) (n + j) w 0 (λ q. omega (arith, q, h, k)) ∙ get_or-set_other a i (n + j) v 0 (λ q. omega (arith, q, h, l))
            ∙ (s.ahead j (omega arith) k).1,
      )

      set-rests : mods p (set (set a i v) (n + i) w) ≡ set (set (mods p a) i (v % p)) (n + i) (w % p)
      set-rests = mods-set p (set a i v) (n + i) w ∙ ap (λ (t : List ℕ). set t (n + i) (w % p)) (mods-set p a i v)

      pub loose-paired-more : v % p ≡ h1 (get_or a i 0 % p) (get_or a (n + i) 0 % p) → w % p ≡ h2 (get_or a i 0 % p) (get_or a (n + i) 0 % p)
          → ((m : ℕ) → p ≤ m → get_or a i 0 < m → get_or a (n + i) 0 < m → (v < g m) × (w < g m))
          → LoosePaired p g h1 h2 n A (i + 1) (set (set a i v) (n + i) w)
      loose-paired-more ev ew r =
          record {
            long = simp length-set s.long;
            rests =
                subst (Paired h1 h2 n (mods p A) (i + 1)) (sym set-rests)
                (paired-more h1 h2 n (mods p A) (length-mods p A ∙ e) i (mods p a) s.rests l (v % p) (w % p)
                (cc (ev, mods-at p pos a i, mods-at p pos a (n + i))) (cc (ew, mods-at p pos a i, mods-at p pos a (n + i))));
            ahead = set-ahead;
            low = λ m h k.
                let o : 0 < m = omega (arith, h, pos) in
                let f : (v < g m) × (w < g m) = r m h (loose-paired-lo m o k) (loose-paired-hi m o k) in
                below_set (g m) (set a i v) (n + i) w (below_set (g m) a i v (s.low m h k) f.0) f.1;
          }

  pub loose-paired-end : (i : ℕ) (a : List ℕ) → LoosePaired p g h1 h2 n A i a → n ≤ i → Stepped p (halves h1 h2 n) g A a
  loose-paired-end i a s l =
      record { same = paired-end h1 h2 n (mods p A) (length-mods p A ∙ e) i (mods p a) s.rests l; low = s.low }

-- ---- one list: the rests times f, below n primes where it is done

pub record LooseEach (p f n : ℕ) (A : List ℕ) (i : ℕ) (a : List ℕ) : Type 0 where
  pub upto : i ≤ length A
  pub long : length a ≡ length A
  pub rests : Each (λ (x : ℕ) (y : ℕ). (f * x) % p) (mods p A) (mods p A) i (mods p a)
  pub ahead : (j : ℕ) → i ≤ j → get_or a j 0 ≡ get_or A j 0
  pub front : Below (n * p) (take i a)

module _ (p f n : ℕ) (A : List ℕ) where
  module _ (pos : 0 < p) (i : ℕ) (a : List ℕ) (s : LooseEach p f n A i a) where
    pub loose-each-low : (m : ℕ) → 0 < m → Below m A → get_or a i 0 < m
    loose-each-low m o h = subst (λ (x : ℕ). x < m) (sym (s.ahead i (omega arith))) (below_at m o A h i)

    pub loose-each-more : (v : ℕ) → i < length a → Loose p n ((f * get_or a i 0) % p) v → LooseEach p f n A (i + 1) (set a i v)
    loose-each-more v l h =
        record {
          upto = omega (arith, l, s.long);
          long = simp length-set s.long;
          rests =
              subst (Each (λ (x : ℕ) (y : ℕ). (f * x) % p) (mods p A) (mods p A) (i + 1)) (sym (mods-set p a i v))
              (each_more _ (mods p A) (mods p A) i (mods p a) s.rests (v % p) (omega (arith, l, length-mods p a)) refl
              (h.same ∙ times-rest p f (get_or a i 0) ∙ ap (λ (x : ℕ). (f * x) % p) (sym (mods-at p pos a i))));
          ahead = λ j g. get_or-set_other a i j v 0 (λ q. omega (arith, q, g)) ∙ s.ahead j (omega arith);
          front =
              subst (Below (n * p)) (sym (ap (λ (t : ℕ). take t (set a i v)) (add-one i) ∙ take-suc-set a i v l))
              (below-append (n * p) (take i a) (v ∷ []) s.front (h.low, tt));
        }

    pub loose-each-end : length a ≤ i → LooseList p n (scale p f (mods p A)) a
    loose-each-end l =
        record {
          low = subst (Below (n * p)) (take_all i a l) s.front;
          same =
              each-end _ (mods p A) (mods p A) i (mods p a) s.rests (omega (arith, l, length-mods p a)) refl ∙ map2-map_n (λ (x : ℕ). (f * x) % p) (mods p A);
        }
