-- The laws of SampleQ (000, Algorithm 5): draws kept of a stream in stretches, one after another, and over refills of a buffer; the polynomial
-- that they make, and the answers of both samplers.
use mathlib.Core.Path.{◌≡◌, refl, sym, ap, ◌∙◌}
use mathlib.Core.List.{List, [], ◌∷◌, ◌++◌, append-nil, append_assoc}
use mathlib.Core.Option.{some, none}
use Prim.Native.Nat.{ℕ, zero, suc, min, ◌+◌, ◌-◌, ◌*◌, ◌/◌, ◌%◌, ◌^◌, ◌≤◌, ◌<◌}
use native.Mathlib.Nat.{add-zero, add-suc}
use native.Mathlib.Numerals.{add-one}
use native.Mathlib.Decide.{dec_lt}
use native.Mathlib.Omega.{arith}
use borrow.Author.Tests.{lt-ltb, le-ltb, le-leb, lt-leb, eq-eqb, ne_eqb}
use lib.Dec.{ltb, leb}
use lib.ListN.{length, get_or, take, drop, set, length-append, length-set, length-take}
use lib.Seq.{take_at, take_all, take-set-le, take-suc-set, length-take-le, take-append-le, get_or-drop}
use Rattle.std.specs.Prelude.{Ok, Err}
use Rattle.hash.specs.Lists.{table, zeros, pick}
use Rattle.hash.specs.Refusal.{unless}
use Rattle.hash.specs.declared.refusal.Refusal.{Refusal}
use Rattle.hash.specs.Endian.{le}
use Rattle.hash.specs.Keccak.{State, keccak_f}
use Rattle.hash.specs.Shake.{absorbed, after, stream, shake256}
use Rattle.hash.proofs.Table.{length-table, get_d-table}
use Rattle.hash.proofs.Output.{after_next, after-add, stream-after}
use Rattle.hash.proofs.Word.{le_same}
use Rattle.ring.specs.Words.{q, Below, Words}
use Rattle.ring.specs.Checks.{filled}
use Rattle.ring.specs.Uniform.{draw, keep, kept, draws, uniform, sample_q, sampled_of}
use Rattle.ring.specs.UniformSteps.{poly_of, Gathered}
use Rattle.ring.proofs.Sums.{below-append, below-take, words-zeros}

-- a draw by its seven bytes
pub draw-by : (s : List ℕ) (n : ℕ) (f : ℕ → ℕ) → ((j : ℕ) → j < 7 → get_or s (7 * n + j) 0 ≡ f j) → draw s n ≡ le f 7 % 2 ^ 49
unfolding draw
draw-by s n f h = ap (λ (d : ℕ). d % 2 ^ 49) (le_same (λ (j : ℕ). get_or s (7 * n + j) 0) f 7 h)

-- ---- stretches of a stream

-- t holds the bytes of s from draw n on, for m draws: the first n + m draws of s are its first n and m of t
pub kept_more : (s t : List ℕ) (n m : ℕ) → ((j : ℕ) → j < 7 * m → get_or t j 0 ≡ get_or s (7 * n + j) 0) → kept s (n + m) ≡ kept s n ++ kept t m
unfolding kept draw
kept_more s t n zero h = rw (add-zero, append-nil)
kept_more s t n (suc m) h =
    let e : kept s (n + m) ≡ kept s n ++ kept t m = kept_more s t n m (λ j l. h j (omega arith)) in
    let d : le (λ (j : ℕ). get_or s (7 * (n + m) + j) 0) 7 ≡ le (λ (j : ℕ). get_or t (7 * m + j) 0) 7 =
    le_same (λ (j : ℕ). get_or s (7 * (n + m) + j) 0) (λ (j : ℕ). get_or t (7 * m + j) 0) 7 (λ j l.
    let z : 7 * (n + m) + j ≡ 7 * n + (7 * m + j) = omega arith in
    ap (λ (i : ℕ). get_or s i 0) z ∙ sym (h (7 * m + j) (omega arith))) in
    rw (add-suc, kept, e, d, append_assoc)

pub kept-stretch : (s : List ℕ) (n m : ℕ) → kept s (n + m) ≡ kept s n ++ kept (drop (7 * n) s) m
kept-stretch s n m = kept_more s (drop (7 * n) s) n m (λ j l. get_or-drop (7 * n) s j 0)

-- ---- one draw after another

-- p and the draws kept of the first i stand at the front of a, and fill it up to the place at
pub record Front (s p : List ℕ) (i : ℕ) (a : List ℕ) (at : ℕ) : Type 0 where
  pub long : length a ≡ 512
  pub room : at ≤ 512
  pub count : length (p ++ kept s i) ≡ at
  pub front : take at a ≡ p ++ kept s i

pub front-none : (s a : List ℕ) (k : ℕ) → length a ≡ 512 → k ≤ 512 → Front s (take k a) 0 a k
unfolding kept
front-none s a k l h =
    record { long = l; room = h; count = rw append-nil (length-take-le k a (omega arith)); front = rw append-nil }

module _ (s p a : List ℕ) (i at d : ℕ) (v : Front s p i a at) (x : d ≡ draw s i) where
  pub front_kept : (at ≡ 512 → ⊥) → d < q → Front s p (i + 1) (set a at d) (at + 1)
  unfolding kept
  front_kept h l =
      let z : p ++ kept s (i + 1) ≡ (p ++ kept s i) ++ (d ∷ []) = rw (add-one, kept, ← x, lt-ltb d q l, append_assoc) in
      let r : at < length a = omega (arith, v.long, v.room) in
      record {
        long = length-set a at d ∙ v.long;
        room = omega (arith, v.room);
        count = rw (z, length-append, v.count);
        front = rw (z, add-one, take-suc-set, v.front);
      }

  pub front-left : q ≤ d → Front s p (i + 1) a at
  unfolding kept
  front-left l =
      let z : p ++ kept s (i + 1) ≡ p ++ kept s i = rw (add-one, kept, ← x, le-ltb d q l, append-nil) in
      record { long = v.long; room = v.room; count = rw z v.count; front = rw z v.front }

  -- .. or stands behind those that are kept, where the next one goes
  pub front-over : q ≤ d → Front s p (i + 1) (set a at d) at
  front-over l =
      let w = front-left l in
      record { long = length-set a at d ∙ v.long; room = w.room; count = w.count; front = take-set-le at a at d (omega arith) ∙ w.front }

-- a is full, or every draw is read
module _ (s a₀ a : List ℕ) (k i at : ℕ) (v : Front s (take k a₀) i a at) where
  pub front-full : (n : ℕ) → i ≤ n → at ≡ 512 → Gathered s n a₀ k a at
  front-full n h e =
      let w : i + (n - i) ≡ n = omega arith in
      let g : take 512 (take k a₀ ++ kept s n) ≡ take k a₀ ++ kept s i =
      ap (λ (m : ℕ). take 512 (take k a₀ ++ kept s m)) (sym w)
      ∙ rw (kept-stretch s i (n - i), ← append_assoc (take k a₀) (kept s i) (kept (drop (7 * i) s) (n - i)))
      (take_at (take k a₀ ++ kept s i) (kept (drop (7 * i) s) (n - i)) 512 (v.count ∙ e)) in
      record { long = v.long; count = rw g (sym v.count); front = rw g v.front }

  pub front_read : Gathered s i a₀ k a at
  front_read =
      let g : take 512 (take k a₀ ++ kept s i) ≡ take k a₀ ++ kept s i = take_all 512 (take k a₀ ++ kept s i) (omega (arith, v.count, v.room)) in
      record { long = v.long; count = rw g (sym v.count); front = rw g v.front }

-- ---- refills

pub gathered_none : (s a : List ℕ) → length a ≡ 512 → Gathered s 0 [] 0 a 0
unfolding kept
gathered_none s a l = record { long = l; count = refl; front = refl }

pub gathered-room : (s a₀ a : List ℕ) (n k r : ℕ) → Gathered s n a₀ k a r → r ≤ 512
gathered-room s a₀ a n k r v = omega (arith, v.count, length-take 512 (take k a₀ ++ kept s n))

-- the first n draws of s are gathered and do not fill; b holds the bytes of the m draws behind them
pub gathered-more : (s b a a' : List ℕ) (n m k r : ℕ) → ((j : ℕ) → j < 7 * m → get_or b j 0 ≡ get_or s (7 * n + j) 0) → k < 512
    → Gathered s n [] 0 a k → Gathered b m a k a' r → Gathered s (n + m) [] 0 a' r
gathered-more s b a a' n m k r h g v w =
    let z : take 512 (kept s n) ≡ kept s n = take_all 512 (kept s n) (omega (arith, v.count, length-take 512 (kept s n))) in
    let x : take 512 (take k a ++ kept b m) ≡ take 512 (kept s (n + m)) =
    ap (λ (l : List ℕ). take 512 (l ++ kept b m)) (v.front ∙ z) ∙ ap (take 512) (sym (kept_more s b n m h)) in
    record { long = w.long; count = w.count ∙ ap length x; front = w.front ∙ x }

-- refill i of six is the seven blocks that A gives; the last refill reads 97 draws
module _ (S A : State) (i l : ℕ) (e : A ≡ after (7 * i) S) (z : l ≡ 952) where
  pub refilled : (b a a' : List ℕ) (m k r : ℕ) → b ≡ table (stream A) l → i < 6 → m ≡ min 136 (777 - 136 * i) → k < 512
      → Gathered (table (stream S) 5439) (min 777 (136 * i)) [] 0 a k → Gathered b m a k a' r
      → Gathered (table (stream S) 5439) (min 777 (136 * (i + 1))) [] 0 a' r
  refilled b a a' m k r f h o g v w =
      let n = min 777 (136 * i) in
      let x : n + m ≡ min 777 (136 * (i + 1)) = omega arith in
      let y : (j : ℕ) → j < 7 * m → get_or b j 0 ≡ get_or (table (stream S) 5439) (7 * n + j) 0 =
      λ j u.
      let t : 136 * (7 * i) + j ≡ 7 * n + j = omega arith in
      ap (λ (d : List ℕ). get_or d j 0) f
      ∙ get_d-table (stream A) l j (omega arith)
      ∙ ap (λ (B : State). stream B j) e
      ∙ stream-after S (7 * i) j
      ∙ ap (stream S) t
      ∙ sym (get_d-table (stream S) 5439 (7 * n + j) (omega arith)) in
      rw x at (gathered-more (table (stream S) 5439) b a a' n m k r y g v w)

  pub refill-next : (B C : State) → B ≡ after ((l - 1) / 136) A → C ≡ keccak_f B → C ≡ after (7 * (i + 1)) S
  refill-next B C f g =
      let t : (l - 1) / 136 ≡ 6 = omega arith in
      let u : 7 + 7 * i ≡ 7 * (i + 1) = omega arith in
      let d : B ≡ after 6 (after (7 * i) S) = f ∙ rw (t, e) in
      g ∙ ap keccak_f d ∙ sym (after_next 6 (after (7 * i) S)) ∙ after-add 7 (7 * i) S ∙ ap (λ (x : ℕ). after x S) u

-- ---- the polynomial

module _ (s a₀ a : List ℕ) (n r : ℕ) (v : Gathered s n a₀ 0 a r) where
  -- 512 draws are kept
  pub fills : n ≤ draws (length s) → r ≡ 512 → uniform s ≡ some a
  unfolding uniform
  fills h e =
      let N = draws (length s) in
      let w : n + (N - n) ≡ N = omega arith in
      let l : 512 ≤ length (kept s n) = omega (arith, v.count, length-take 512 (kept s n)) in
      let x : kept s N ≡ kept s n ++ kept (drop (7 * n) s) (N - n) = rw w at (kept-stretch s n (N - n)) in
      let y : 512 ≤ length (kept s N) = rw (x, length-append) (omega arith) in
      let z : take 512 (kept s N) ≡ a =
      ap (take 512) x
      ∙ take-append-le 512 (kept s n) (kept (drop (7 * n) s) (N - n)) l
      ∙ sym v.front
      ∙ take_all r a (omega (arith, v.long)) in
      rw (le-leb _ _ y, z)

  -- .. or all draws are read, and fewer are kept
  pub unfilled : n ≡ draws (length s) → (r ≡ 512 → ⊥) → uniform s ≡ none
  unfolding uniform
  unfilled h e =
      let l : length (kept s n) < 512 = omega (arith, v.count, length-take 512 (kept s n)) in
      let m : length (kept s (draws (length s))) < 512 = rw h at l in
      rw (lt-leb _ _ m)

pub uniform-few : (s : List ℕ) → length (kept s (draws (length s))) < 512 → uniform s ≡ none
unfolding uniform
uniform-few s h = rw (lt-leb _ _ h)

-- over lent bytes: checks 8 and 10
module _ (s out : List ℕ) where
  pub refused : (length out ≡ 512 → ⊥) → (8, out) ≡ sampled_of s out
  unfolding sampled_of
  refused h = rw (ne_eqb _ _ h)

  pub answered-none : length out ≡ 512 → uniform s ≡ none → (10, out) ≡ sampled_of s out
  unfolding sampled_of filled
  answered-none h e = rw (eq-eqb _ _ h, e)

  pub answered-some : (f : List ℕ) → length out ≡ 512 → uniform s ≡ some f → (0, f) ≡ sampled_of s out
  unfolding sampled_of filled
  answered-some f h e = rw (eq-eqb _ _ h, e)

-- ---- its words

kept_low : (s : List ℕ) (n : ℕ) → Below q (kept s n)
unfolding kept
kept_low s zero = tt
kept_low s (suc n) = below-append q (kept s n) (keep (ltb (draw s n) q) (draw s n)) (kept_low s n) (one (draw s n) (dec_lt (draw s n) q))
  where
    one : (d : ℕ) → Dec (d < q) → Below q (keep (ltb d q) d)
    one d (yes l) = rw (lt-ltb d q l) (l, tt)
    one d (no l) = rw (le-ltb d q (omega arith)) tt

words-picked : (x f : List ℕ) → Below q x → pick (leb 512 (length x)) (some (take 512 x)) none ≡ some f → Words 512 f
words-picked x f h e = go (dec_lt (length x) 512)
  where
    go : Dec (length x < 512) → Words 512 f
    go (yes l) =
        let n : none ≡ some f = rw (lt-leb _ _ l) at e in
        let z : ◌≡◌ {A = ℕ} 0 1 = cc in
        absurd (omega arith)
    go (no l) =
        let m : 512 ≤ length x = omega arith in
        let n : some (take 512 x) ≡ some f = rw (le-leb _ _ m) at e in
        let z : take 512 x ≡ f = cc in
        rw (← z) (record { long = length-take-le 512 x m; low = below-take q 512 x h })

pub uniform-words : (s f : List ℕ) → uniform s ≡ some f → Words 512 f
unfolding uniform
uniform-words s f e = words-picked (kept s (draws (length s))) f (kept_low s (draws (length s))) e

pub sample_q-words : (hdr seed f : List ℕ) → sample_q hdr seed ≡ some f → Words 512 f
unfolding sample_q
sample_q-words hdr seed f e = uniform-words (shake256 (hdr ++ seed) 5439) f e

-- ---- Algorithm 5 over its stream

module _ (hdr seed a : List ℕ) (S : State) (n r : ℕ) (e : S ≡ absorbed (hdr ++ seed)) (v : Gathered (table (stream S) 5439) n [] 0 a r) where
  pub held-some : n ≤ 777 → r ≡ 512
      → (Ok tt ≡ unless Refusal.UniformNotFilled (filled (sample_q hdr seed))) × (a ≡ poly_of (sample_q hdr seed)) × Words 512 a
  unfolding sample_q filled poly_of
  held-some h g =
      let d : n ≤ draws (length (table (stream S) 5439)) = rw length-table h in
      let f : sample_q hdr seed ≡ some a = rw (← e) (fills (table (stream S) 5439) [] a n r v d g) in
      (rw f refl, rw f refl, sample_q-words hdr seed a f)

  pub held_none : (z : List ℕ) → z ≡ zeros 512 → n ≡ 777 → (r ≡ 512 → ⊥)
      → (Err Refusal.UniformNotFilled ≡ unless Refusal.UniformNotFilled (filled (sample_q hdr seed))) × (z ≡ poly_of (sample_q hdr seed)) × Words 512 z
  unfolding sample_q filled poly_of
  held_none z w h g =
      let d : n ≡ draws (length (table (stream S) 5439)) = rw length-table h in
      let f : sample_q hdr seed ≡ none = rw (← e) (unfilled (table (stream S) 5439) [] a n r v d g) in
      (rw f refl, rw f w, rw w (words-zeros 512))
