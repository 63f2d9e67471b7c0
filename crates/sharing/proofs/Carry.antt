-- The mask generator carried on: draws one after another are those of the bytes ahead, its polynomials are filled by them, and from the start
-- they are those of the seed's stream.
use mathlib.Core.Path.{◌≡◌, refl, sym, ap, ◌∙◌}
use mathlib.Core.Bool.{Bool, true, false}
use mathlib.Core.List.{List, []}
use mathlib.Core.Option.{Option, some, none}
use Prim.Native.Nat.{ℕ, zero, suc, min, ◌+◌, ◌-◌, ◌*◌, ◌/◌, ◌%◌, ◌^◌, ◌≤◌, ◌<◌}
use native.Mathlib.Nat.{zero-add, add-zero, add-suc}
use native.Mathlib.Numerals.{add-one}
use native.Mathlib.Omega.{arith}
use borrow.Author.Tests.{le-leb, lt-leb}
use lib.ListN.{length, get_or, length-append}
use Rattle.hash.specs.Lists.{table, zeros, pick}
use Rattle.hash.specs.Params.{order_index}
use Rattle.hash.specs.Keccak.{State}
use Rattle.hash.specs.Shake.{after, absorbed, stream}
use Rattle.hash.proofs.Paste.{table_same}
use Rattle.hash.proofs.Table.{length-table, get_d-table}
use Rattle.hash.proofs.Output.{after_none, after_next, after-add, stream-after}
use Rattle.hash.proofs.Flat.{unflat-flat, unflat-permuted, unflat-absorbed}
use Rattle.ring.specs.Words.{Words}
use Rattle.ring.specs.Checks.{filled, held_or}
use Rattle.ring.specs.Uniform.{draw, kept, draws, uniform}
use Rattle.ring.proofs.Checks.{absurd-bool}
use Rattle.ring.proofs.Draws.{draw-by, kept-stretch, Front, front_read, fills, unfilled, uniform-few, uniform-words}
use Rattle.ring.proofs.Filled.{some-filled, none_filled}
use Rattle.ring.proofs.Sums.{words-zeros}
use Rattle.sharing.specs.declared.masks.MaskGen.{MaskGen}
use Rattle.sharing.specs.Encoding.{later, zero_after, skip}
use Rattle.sharing.specs.Masks.{state_of, place_in, held_at, bytes_ahead, mask_draw, mask_moved, flagged, used, mask_poly, mask_next, mask_start, masks}
use Rattle.sharing.proofs.Totals.{later-add}

-- the state of a generator that was moved
whole : (k n : ℕ) (g : MaskGen) (b : Bool) → state_of (held_at (after k (state_of g)) n b) ≡ after k (state_of g)
whole zero n g b = rw after_none (unflat-flat (λ (x : ℕ) (y : ℕ). get_or g.lanes (5 * y + x) 0))
whole (suc k) n g b = rw after_next (unflat-permuted (after k (state_of g)))

-- ---- n draws on

module _ (n : ℕ) (g : MaskGen) where
  stream-on : (j : ℕ) → stream (state_of (mask_moved n g)) (place_in (mask_moved n g) + j) ≡ stream (state_of g) (place_in g + (7 * n + j))
  unfolding mask_moved
  stream-on j =
      let a = place_in g + 7 * n in
      let e : 136 * (a / 136) + (min (a % 136) 135 + j) ≡ place_in g + (7 * n + j) = omega arith in
      ap (λ (S : State). stream S (min (a % 136) 135 + j)) (whole (a / 136) (a % 136) g g.ok)
      ∙ stream-after (state_of g) (a / 136) (min (a % 136) 135 + j)
      ∙ ap (stream (state_of g)) e

  moved-add : (m : ℕ) → mask_moved m (mask_moved n g) ≡ mask_moved (n + m) g
  unfolding mask_moved
  moved-add m =
      let a = place_in g + 7 * n in
      let d : (min (a % 136) 135 + 7 * m) / 136 + a / 136 ≡ (place_in g + 7 * (n + m)) / 136 = omega arith in
      let e : (min (a % 136) 135 + 7 * m) % 136 ≡ (place_in g + 7 * (n + m)) % 136 = omega arith in
      rw (whole (a / 136) (a % 136) g g.ok, after-add, d, e)

  moved_ok : (mask_moved n g).ok ≡ g.ok
  unfolding mask_moved
  moved_ok = refl

  -- the next draw is draw number n of the bytes ahead
  byte-on : (j : ℕ) → 7 * n + j < 5439 → get_or (bytes_ahead (mask_moved n g)) j 0 ≡ get_or (bytes_ahead g) (7 * n + j) 0
  unfolding bytes_ahead
  byte-on j h =
      get_d-table (λ (j : ℕ). stream (state_of (mask_moved n g)) (place_in (mask_moved n g) + j)) 5439 j (omega arith)
      ∙ stream-on j
      ∙ sym (get_d-table (λ (j : ℕ). stream (state_of g) (place_in g + j)) 5439 (7 * n + j) h)

  draw-on : n < 777 → mask_draw (mask_moved n g) ≡ draw (bytes_ahead g) n
  unfolding mask_draw
  draw-on h =
      let f : ℕ → ℕ = λ (j : ℕ). get_or (bytes_ahead g) (7 * n + j) 0 in
      draw-by (bytes_ahead (mask_moved n g)) 0 f (λ j l. ap (λ (i : ℕ). get_or (bytes_ahead (mask_moved n g)) i 0) (zero-add j) ∙ byte-on j (omega arith))
      ∙ sym (draw-by (bytes_ahead g) n f (λ j l. refl))

-- the place brought below 136
pub moved_none : (g h : MaskGen) → h ≡ mask_moved 0 g → h ≡ mask_moved 0 h
moved_none g h e = e ∙ sym (ap (mask_moved 0) e ∙ moved-add 0 g 0)

ahead-same : (g : MaskGen) → bytes_ahead (mask_moved 0 g) ≡ bytes_ahead g
unfolding bytes_ahead
ahead-same g =
    table_same (λ (j : ℕ). stream (state_of (mask_moved 0 g)) (place_in (mask_moved 0 g) + j)) (λ (j : ℕ). stream (state_of g) (place_in g + j)) 5439
    (λ j h. stream-on 0 g j ∙ ap (λ (i : ℕ). stream (state_of g) (place_in g + i)) (zero-add j))

all-ahead : (g : MaskGen) → draws (length (bytes_ahead g)) ≡ 777
unfolding bytes_ahead
all-ahead g = rw length-table

-- ---- the draws used

pub used-none : (s : List ℕ) → used s 0 ≡ 0
unfolding used
used-none s = refl

-- one more, where those before do not fill
used-more : (s : List ℕ) (i : ℕ) → length (kept s i) < 512 → used s (i + 1) ≡ i + 1
unfolding used
used-more s i h = rw (add-one, used, lt-leb _ _ h)

-- none behind the draw that fills
used-stays : (s : List ℕ) (i m : ℕ) → 512 ≤ length (kept s i) → used s (i + m) ≡ used s i
unfolding used
used-stays s i zero h = ap (used s) (add-zero i)
used-stays s i (suc m) h =
    let l : 512 ≤ length (kept s (i + m)) = rw (kept-stretch s i m, length-append) (omega arith) in
    ap (used s) (add-suc i m) ∙ rw (used, le-leb _ _ l) (used-stays s i m h)

-- one draw more
pub draw-more : (h₀ h h' : MaskGen) (w : ℕ) (p : List ℕ) (i k : ℕ) → h ≡ mask_moved i h₀ → w ≡ mask_draw h → h' ≡ mask_moved 1 h → i < 777
    → Front (bytes_ahead h₀) [] i p k → k < 512
    → (w ≡ draw (bytes_ahead h₀) i) × (h' ≡ mask_moved (i + 1) h₀) × (used (bytes_ahead h₀) (i + 1) ≡ i + 1)
draw-more h₀ h h' w p i k e d n l v o = (
  d ∙ ap mask_draw e ∙ draw-on i h₀ l,
  n ∙ ap (mask_moved 1) e ∙ moved-add i h₀ 1,
  used-more (bytes_ahead h₀) i (omega (arith, v.count)),
)

-- ---- a polynomial filled by draws

-- the flag decides
pub dry-poly : (g : MaskGen) → g.ok ≡ false → (zeros 512 ≡ mask_poly g) × (g ≡ mask_next g)
unfolding mask_poly mask_next
dry-poly g e = rw e (refl, refl)

module _ (g : MaskGen) (o : g.ok ≡ true) (f : Option (List ℕ)) (e : uniform (bytes_ahead g) ≡ f) (n : ℕ) (u : used (bytes_ahead g) 777 ≡ n) where
  ok-poly : held_or f (zeros 512) ≡ mask_poly g
  unfolding mask_poly
  ok-poly = rw (← e) (ap (λ (b : Bool). pick b (held_or (uniform (bytes_ahead g)) (zeros 512)) (zeros 512)) (sym o))

  ok-next : flagged (filled f) (mask_moved n g) ≡ mask_next g
  unfolding mask_next
  ok-next = rw (← e, ← u) (ap (λ (b : Bool). pick b (flagged (filled (uniform (bytes_ahead g))) (mask_moved (used (bytes_ahead g) 777) g)) g) (sym o))

-- a generator under its own flag
flagged-same : (b : Bool) (g : MaskGen) → g.ok ≡ b → g ≡ flagged b g
flagged-same b g e = λ j. record { lanes = g.lanes; at = g.at; ok = e j }

-- where the next is ok too, it is some draws on
next-moved : (g : MaskGen) → g.ok ≡ true → (mask_next g).ok ≡ true → mask_next g ≡ mask_moved (used (bytes_ahead g) 777) g
next-moved g o h =
    let n = used (bytes_ahead g) 777 in
    let f = uniform (bytes_ahead g) in
    let e : flagged (filled f) (mask_moved n g) ≡ mask_next g = ok-next g o f refl n refl in
    let b : filled f ≡ true = ap (λ (x : MaskGen). x.ok) e ∙ h in
    sym (flagged-same (filled f) (mask_moved n g) (moved_ok n g ∙ o ∙ sym b) ∙ e)

-- g is ok, h₀ is g with its place below 136; i draws are made, and those kept stand at the front of p
module _ (g h₀ : MaskGen) (o : g.ok ≡ true) (e : h₀ ≡ mask_moved 0 g) (p : List ℕ) (i k : ℕ) (u : used (bytes_ahead h₀) i ≡ i) (v : Front (bytes_ahead h₀) [] i p k) where
  ahead-there : bytes_ahead h₀ ≡ bytes_ahead g
  ahead-there = ap bytes_ahead e ∙ ahead-same g

  moved-there : mask_moved i h₀ ≡ mask_moved i g
  moved-there = ap (mask_moved i) e ∙ moved-add 0 g i ∙ ap (λ (n : ℕ). mask_moved n g) (zero-add i)

  pub filled-poly : i ≤ 777 → k ≡ 512 → (p ≡ mask_poly g) × (mask_moved i h₀ ≡ mask_next g)
  filled-poly h l =
      let f : uniform (bytes_ahead g) ≡ some p = rw ahead-there at (fills (bytes_ahead h₀) [] p i k (front_read (bytes_ahead h₀) [] p 0 i k v) (rw (all-ahead h₀) h) l) in
      let w : i + (777 - i) ≡ 777 = omega arith in
      let n : used (bytes_ahead g) 777 ≡ i =
      ap (λ (s : List ℕ). used s 777) (sym ahead-there)
      ∙ ap (used (bytes_ahead h₀)) (sym w)
      ∙ used-stays (bytes_ahead h₀) i (777 - i) (omega (arith, v.count))
      ∙ u in
      let t = flagged-same (filled (some p)) (mask_moved i g) (moved_ok i g ∙ o ∙ sym (some-filled (some p) p refl)) in
      (ok-poly g o (some p) f i n, moved-there ∙ t ∙ ok-next g o (some p) f i n)

  pub unfilled-poly : i ≡ 777 → k < 512 → (zeros 512 ≡ mask_poly g) × (flagged false (mask_moved i h₀) ≡ mask_next g)
  unfilled-poly h l =
      let f : uniform (bytes_ahead g) ≡ none = rw ahead-there at (unfilled (bytes_ahead h₀) [] p i k (front_read (bytes_ahead h₀) [] p 0 i k v) (h ∙ sym (all-ahead h₀)) (omega arith)) in
      let n : used (bytes_ahead g) 777 ≡ i = ap (λ (s : List ℕ). used s 777) (sym ahead-there) ∙ ap (used (bytes_ahead h₀)) (sym h) ∙ u in
      let t : flagged false (mask_moved i g) ≡ flagged (filled {A = ℕ} none) (mask_moved i g) = ap (λ (b : Bool). flagged b (mask_moved i g)) (sym (none_filled {A = ℕ} none refl)) in
      (ok-poly g o none f i n, ap (flagged false) moved-there ∙ t ∙ ok-next g o none f i n)

-- ---- words below q

low_held : (s : List ℕ) (f : Option (List ℕ)) → uniform s ≡ f → Words 512 (held_or f (zeros 512))
low_held s none e = words-zeros 512
low_held s (some f) e = uniform-words s f e

low-picked : (b : Bool) (x y : List ℕ) → Words 512 x → Words 512 y → Words 512 (pick b x y)
low-picked true x y u v = u
low-picked false x y u v = v

pub mask_low : (g : MaskGen) → Words 512 (mask_poly g)
unfolding mask_poly
mask_low g = low-picked g.ok (held_or (uniform (bytes_ahead g)) (zeros 512)) (zeros 512) (low_held (bytes_ahead g) (uniform (bytes_ahead g)) refl) (words-zeros 512)

-- ---- a dry generator stays dry: one that is ok was ok before

sticky : (b : Bool) (x g : MaskGen) → g.ok ≡ b → (pick b x g).ok ≡ true → b ≡ true
sticky true x g e h = refl
sticky false x g e h = sym e ∙ h

next-ok : (g : MaskGen) → (mask_next g).ok ≡ true → g.ok ≡ true
unfolding mask_next
next-ok g h = sticky g.ok (flagged (filled (uniform (bytes_ahead g))) (mask_moved (used (bytes_ahead g) 777) g)) g refl h

pub later-ok : (n : ℕ) (g : MaskGen) → (later masks n g).ok ≡ true → g.ok ≡ true
unfolding later
later-ok zero g h = h
later-ok (suc n) g h = later-ok n g (next-ok (later masks n g) h)

pub zero_after-ok : (h : ℕ) (g : MaskGen) → (zero_after masks h g).ok ≡ true → g.ok ≡ true
unfolding zero_after
zero_after-ok zero g e = e
zero_after-ok (suc h) g e = zero_after-ok h g (zero_after-ok h (zero_after masks h g) (later-ok (2 ^ h) (zero_after masks h (zero_after masks h g)) e))

pub skip-ok : (d n : ℕ) (g : MaskGen) → (skip masks d n g).ok ≡ true → g.ok ≡ true
unfolding skip
skip-ok d zero g e = e
skip-ok d (suc n) g e = skip-ok d n g (zero_after-ok (order_index d) (skip masks d n g) e)

-- one share takes no masks; the generator of a seed is ok
pub skip-one : (n : ℕ) (g : MaskGen) → skip masks 1 n g ≡ g
unfolding skip zero_after
skip-one zero g = refl
skip-one (suc n) g = skip-one n g

pub start-ok : (seed : List ℕ) → (mask_start seed).ok ≡ true
unfolding mask_start
start-ok seed = refl

-- .. and none behind a dry one is
later-dry : (n m : ℕ) (g : MaskGen) → (later masks n g).ok ≡ false → (later masks (n + m) g).ok ≡ false
later-dry n m g h = go (later masks (n + m) g).ok refl
  where
    go : (b : Bool) → (later masks (n + m) g).ok ≡ b → (later masks (n + m) g).ok ≡ false
    go true e = absurd-bool (sym (later-ok m (later masks n g) (ap (λ (x : MaskGen). x.ok) (later-add masks n m g) ∙ e)) ∙ h)
    go false e = e

-- ---- zero encodings by polynomials: how many one of 2 ^ h shares takes
unfoldable pub polys_in : ℕ → ℕ
polys_in zero = 0
polys_in (suc h) = polys_in h + polys_in h + 2 ^ h

zero_after-later : (h : ℕ) (g : MaskGen) → zero_after masks h g ≡ later masks (polys_in h) g
unfolding zero_after polys_in later
zero_after-later zero g = refl
zero_after-later (suc h) g =
    ap (λ (x : MaskGen). later masks (2 ^ h) (zero_after masks h x)) (zero_after-later h g)
    ∙ ap (later masks (2 ^ h)) (zero_after-later h (later masks (polys_in h) g) ∙ later-add masks (polys_in h) (polys_in h) g)
    ∙ later-add masks (polys_in h + polys_in h) (2 ^ h) g

pub skip-later : (d n : ℕ) (g : MaskGen) → skip masks d n g ≡ later masks (n * polys_in (order_index d)) g
unfolding skip later
skip-later d zero g = let e : 0 ≡ 0 * polys_in (order_index d) = omega arith in ap (λ (m : ℕ). later masks m g) e
skip-later d (suc n) g =
    let k = polys_in (order_index d) in
    let e : n * k + k ≡ suc n * k = omega arith in
    ap (zero_after masks (order_index d)) (skip-later d n g)
    ∙ zero_after-later (order_index d) (later masks (n * k) g)
    ∙ later-add masks (n * k) k g
    ∙ ap (λ (m : ℕ). later masks m g) e

-- fewer than 512 of the next 777 draws are kept: the generator runs dry
pub few-dry : (g : MaskGen) → length (kept (bytes_ahead g) 777) < 512 → (mask_next g).ok ≡ false
few-dry g h = go g.ok refl
  where
    go : (b : Bool) → g.ok ≡ b → (mask_next g).ok ≡ false
    go true o =
        let f : uniform (bytes_ahead g) ≡ none = uniform-few (bytes_ahead g) (rw (all-ahead g) h) in
        ap (λ (x : MaskGen). x.ok) (sym (ok-next g o none f (used (bytes_ahead g) 777) refl)) ∙ none_filled {A = ℕ} none refl
    go false o = ap (λ (x : MaskGen). x.ok) (sym (dry-poly g o).1) ∙ o

-- ---- from the start of a seed's stream (01: masking generator)

module _ (seed : List ℕ) where
  -- the bytes of 777 draws of the stream, from draw n on; and how many draws the first n polynomials use
  unfoldable pub bytes_from : ℕ → List ℕ
  bytes_from n = table (λ (j : ℕ). stream (absorbed seed) (7 * n + j)) 5439

  unfoldable pub draws_before : ℕ → ℕ
  draws_before zero = 0
  draws_before (suc n) = draws_before n + used (bytes_from (draws_before n)) 777

  start-state : state_of (mask_start seed) ≡ absorbed seed
  unfolding mask_start
  start-state = unflat-absorbed seed

  start-place : mask_start seed ≡ mask_moved 0 (mask_start seed)
  unfolding mask_moved mask_start
  start-place = sym (ap (λ (S : State). held_at S 0 true) (after_none (state_of (mask_start seed)) ∙ start-state))

  ahead-moved : (n : ℕ) → bytes_ahead (mask_moved n (mask_start seed)) ≡ bytes_from n
  unfolding bytes_ahead bytes_from mask_start
  ahead-moved n =
      table_same (λ (j : ℕ). stream (state_of (mask_moved n (mask_start seed))) (place_in (mask_moved n (mask_start seed)) + j)) (λ (j : ℕ). stream (absorbed seed) (7 * n + j)) 5439
      (λ j h. stream-on n (mask_start seed) j ∙ ap (λ (S : State). stream S (0 + (7 * n + j))) start-state ∙ ap (stream (absorbed seed)) (zero-add (7 * n + j)))

  -- polynomial number n begins behind the draws that those before it use
  moved_by : (n : ℕ) → (later masks n (mask_start seed)).ok ≡ true → later masks n (mask_start seed) ≡ mask_moved (draws_before n) (mask_start seed)
  unfolding later draws_before
  moved_by zero h = start-place
  moved_by (suc n) h =
      let x = later masks n (mask_start seed) in
      let o : x.ok ≡ true = next-ok x h in
      let e : x ≡ mask_moved (draws_before n) (mask_start seed) = moved_by n o in
      let a : bytes_ahead x ≡ bytes_from (draws_before n) = ap bytes_ahead e ∙ ahead-moved (draws_before n) in
      next-moved x o h
      ∙ ap (λ (s : List ℕ). mask_moved (used s 777) x) a
      ∙ ap (mask_moved (used (bytes_from (draws_before n)) 777)) e
      ∙ moved-add (draws_before n) (mask_start seed) (used (bytes_from (draws_before n)) 777)

  -- .. and is that of the 777 draws there: filled, or the generator is dry
  pub mask-poly : (n : ℕ) → (later masks n (mask_start seed)).ok ≡ true
      → (mask_poly (later masks n (mask_start seed)) ≡ held_or (uniform (bytes_from (draws_before n))) (zeros 512))
      × ((later masks (suc n) (mask_start seed)).ok ≡ filled (uniform (bytes_from (draws_before n))))
  unfolding later
  mask-poly n h =
      let x = later masks n (mask_start seed) in
      let a : bytes_ahead x ≡ bytes_from (draws_before n) = ap bytes_ahead (moved_by n h) ∙ ahead-moved (draws_before n) in
      let u = ap uniform a in
      (sym (ok-poly x h (uniform (bytes_from (draws_before n))) u (used (bytes_ahead x) 777) refl), ap (λ (g : MaskGen). g.ok) (sym (ok-next x h (uniform (bytes_from (draws_before n))) u (used (bytes_ahead x) 777) refl)))

  all_from : (n : ℕ) → draws (length (bytes_from n)) ≡ 777
  unfolding bytes_from
  all_from n = rw length-table

  -- polynomial n is not filled: the generator is dry behind it
  pub seed-dry : (n m : ℕ) → n < m → length (kept (bytes_from (draws_before n)) 777) < 512 → (later masks m (mask_start seed)).ok ≡ false
  seed-dry n m l h =
      let e : suc n + (m - suc n) ≡ m = omega arith in
      ap (λ (k : ℕ). (later masks k (mask_start seed)).ok) (sym e) ∙ later-dry (suc n) (m - suc n) (mask_start seed) (next-dry (later masks n (mask_start seed)).ok refl)
    where
      next-dry : (b : Bool) → (later masks n (mask_start seed)).ok ≡ b → (later masks (suc n) (mask_start seed)).ok ≡ false
      next-dry true o =
          let f : uniform (bytes_from (draws_before n)) ≡ none = uniform-few (bytes_from (draws_before n)) (rw (all_from (draws_before n)) h) in
          (mask-poly n o).1 ∙ none_filled (uniform (bytes_from (draws_before n))) f
      next-dry false o = ap (λ (k : ℕ). (later masks k (mask_start seed)).ok) (sym (add-one n)) ∙ later-dry n 1 (mask_start seed) o
