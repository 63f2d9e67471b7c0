-- The turns of the loops over shares, repetitions and sharings in one buffer: what a step at one of them writes makes the growing region of
-- `Wrote` one block longer. s₀ is the buffer where the loop begins, s before the turn, t behind it; X is the region at the start.
use mathlib.Core.Path.{◌≡◌, refl, sym, ap, ◌∙◌}
use mathlib.Core.List.{List}
use Prim.Native.Nat.{ℕ, ◌+◌, ◌*◌, ◌≤◌, ◌<◌}
use native.Mathlib.Numerals.{add-one}
use native.Mathlib.Omega.{arith}
use lib.ListN.{length}
use Rattle.ring.specs.Words.{q, add_w, Below, Words}
use Rattle.ring.proofs.Sums.{words-add}
use Rattle.sharing.specs.Blocks.{block, build, total, totals}
use Rattle.sharing.specs.Region.{span, put, Wrote}
use Rattle.sharing.specs.Encoding.{Generator, skip, zero_at, add_rep, add_noise, zero_vector, refreshed}
use Rattle.sharing.proofs.Lists.{inside, add-blocks}
use Rattle.sharing.proofs.Totals.{skip-add, zero-here}
use Rattle.sharing.proofs.Regions.{span-words, block-span, wrote-put, wrote_value, wrote-wide, wrote-over, wrote-scratch, wrote-turn, wrote-end}

-- block i of the region is still the old one, in a loop that has reached it, and in one that writes behind it
module _ (n w m at i : ℕ) (s₀ s : List ℕ) (l : i < m) where
  pub block-rest : (X : List ℕ) → n ≤ at → Wrote n at (i * w) X s₀ s → span s (at + i * w) w ≡ block w i (span s₀ at (m * w))
  block-rest X h u = u.behind (at + i * w) w (omega arith) (omega arith) ∙ sym (block-span w m i s₀ at l)

  pub source : (to k : ℕ) (X : List ℕ) → n ≤ at → at + m * w ≤ to → Wrote n to k X s₀ s → span s (at + i * w) w ≡ block w i (span s₀ at (m * w))
  source to k X h g u =
      let o : i * w + w ≤ m * w = inside i m w l in
      u.front (at + i * w) w (omega arith) (omega arith) ∙ sym (block-span w m i s₀ at l)

-- ---- F at each block in place

pub map-turn : (F : List ℕ → List ℕ) (n w m at i : ℕ) (s₀ s t : List ℕ) → n ≤ at → i < m
    → Wrote n at (i * w) (build i (λ (j : ℕ). F (block w j (span s₀ at (m * w))))) s₀ s
    → Wrote n (at + i * w) w (F (span s (at + i * w) w)) s t
    → Wrote n at ((i + 1) * w) (build (i + 1) (λ (j : ℕ). F (block w j (span s₀ at (m * w))))) s₀ t
map-turn F n w m at i s₀ s t h l u v =
    let f : ℕ → List ℕ = λ (j : ℕ). F (block w j (span s₀ at (m * w))) in
    wrote-turn w i f h u (wrote_value (ap F (block-rest n w m at i s₀ s l (build i f) h u)) v)

-- ---- the sums of m sharings at `at`, written behind them

pub decode-turn : (n d m at to i : ℕ) (s₀ s t : List ℕ) → n ≤ at → at + m * (d * 512) ≤ to → i < m
    → Wrote n to (i * 512) (build i (λ (j : ℕ). total d (block (d * 512) j (span s₀ at (m * (d * 512)))))) s₀ s
    → Wrote n (to + i * 512) 512 (total d (span s (at + i * (d * 512)) (d * 512))) s t
    → Wrote n to ((i + 1) * 512) (build (i + 1) (λ (j : ℕ). total d (block (d * 512) j (span s₀ at (m * (d * 512)))))) s₀ t
decode-turn n d m at to i s₀ s t h g l u v =
    let f : ℕ → List ℕ = λ (j : ℕ). total d (block (d * 512) j (span s₀ at (m * (d * 512)))) in
    wrote-turn 512 i f (omega arith) u
    (wrote_value (ap (total d) (source n (d * 512) m at i s₀ s l to (i * 512) (build i f) h g u)) v)

pub decode-end : (n d m at to i : ℕ) (s₀ s : List ℕ) → i ≡ m
    → Wrote n to (i * 512) (build i (λ (j : ℕ). total d (block (d * 512) j (span s₀ at (m * (d * 512)))))) s₀ s
    → Wrote n to (m * 512) (totals m d (span s₀ at (m * (d * 512)))) s₀ s
unfolding totals
decode-end n d m at to i s₀ s e u = wrote-end 512 (λ (j : ℕ). total d (block (d * 512) j (span s₀ at (m * (d * 512))))) e u

-- ---- the sharing in the scratch added to the one at `at`, share by share

abbrev pub scratched : ℕ → ℕ → List ℕ → ℕ → List ℕ
scratched d at s₀ j = add_w (block 512 j (span s₀ at (d * 512))) (block 512 j (span s₀ 0 (d * 512)))

module _ (d at : ℕ) (s₀ : List ℕ) (h : d * 512 ≤ at) (g : at + d * 512 ≤ length s₀) where
  pub scratch-turn : (j : ℕ) (s t p : List ℕ) → j < d → Wrote 0 at (j * 512) (build j (scratched d at s₀)) s₀ s
      → p ≡ span s (j * 512) 512 → t ≡ put s (at + j * 512) 512 (add_w (span s (at + j * 512) 512) p)
      → Wrote 0 at ((j + 1) * 512) (build (j + 1) (scratched d at s₀)) s₀ t
  scratch-turn j s t p l u e v =
      let n : length s ≡ length s₀ = u.long in
      let a : span s (at + j * 512) 512 ≡ block 512 j (span s₀ at (d * 512)) =
      block-rest 0 512 d at j s₀ s l (build j (scratched d at s₀)) (omega arith) u in
      let b : span s (0 + j * 512) 512 ≡ block 512 j (span s₀ 0 (d * 512)) =
      source 0 512 d 0 j s₀ s l at (j * 512) (build j (scratched d at s₀)) (omega arith) (omega arith) u in
      let z : 0 + j * 512 ≡ j * 512 = omega arith in
      let x : add_w (span s (at + j * 512) 512) p ≡ scratched d at s₀ j = cc (a, b, z, e) in
      let w : Words 512 (add_w (span s (at + j * 512) 512) p) =
      words-add (span s (at + j * 512) 512) p (span-words s (at + j * 512) 512 (omega arith) u.low) in
      wrote-turn 512 j (scratched d at s₀) (omega arith) u
      (wrote_value x (wrote-put (at + j * 512) 512 (add_w (span s (at + j * 512) 512) p) s t (omega arith) w.long u.low w.low v))

  pub scratch-end : (j : ℕ) (s : List ℕ) → j ≡ d → Below q s₀ → Wrote 0 at (j * 512) (build j (scratched d at s₀)) s₀ s
      → Wrote 0 at (d * 512) (add_w (span s₀ at (d * 512)) (span s₀ 0 (d * 512))) s₀ s
  scratch-end j s e b u =
      wrote_value (add-blocks 512 d (span s₀ at (d * 512)) (span s₀ 0 (d * 512)) (span-words s₀ at (d * 512) g b).long)
      (wrote-end 512 (scratched d at s₀) e u)

-- a refresh: the zero encoding Z into the scratch, then added
pub refresh-made : (d at : ℕ) (Z s₀ s₁ s₂ : List ℕ) → d * 512 ≤ at → Wrote 0 0 (d * 512) Z s₀ s₁
    → Wrote 0 at (d * 512) (add_w (span s₁ at (d * 512)) (span s₁ 0 (d * 512))) s₁ s₂
    → Wrote (d * 512) at (d * 512) (add_w (span s₀ at (d * 512)) Z) s₀ s₂
refresh-made d at Z s₀ s₁ s₂ h v w =
    let a : span s₁ at (d * 512) ≡ span s₀ at (d * 512) = v.behind at (d * 512) (omega arith) (omega arith) in
    let b : span s₁ 0 (d * 512) ≡ Z = v.new in
    let e : add_w (span s₁ at (d * 512)) (span s₁ 0 (d * 512)) ≡ add_w (span s₀ at (d * 512)) Z = cc (a, b) in
    wrote-scratch (omega arith) (omega arith) v (wrote-wide (omega arith) (wrote_value e w))

-- .. which stays in the scratch
pub refresh-kept : (d at : ℕ) (Z Y s₀ s₁ s₂ : List ℕ) → d * 512 ≤ at → Wrote 0 0 (d * 512) Z s₀ s₁ → Wrote 0 at (d * 512) Y s₁ s₂
    → span s₂ 0 (d * 512) ≡ Z
refresh-kept d at Z Y s₀ s₁ s₂ h v w = w.front 0 (d * 512) (omega arith) (omega arith) ∙ v.new

-- ---- steps with zero encodings: g is the generator where the loop begins, x before the turn

module _ (G : Generator) (d : ℕ) where
  abbrev pub encoded : G.State → ℕ → List ℕ
  encoded g i = zero_at G d i g

  abbrev pub renewed : G.State → List ℕ → ℕ → List ℕ
  renewed g X i = add_w (block (d * 512) i X) (zero_at G d i g)

  abbrev pub noised : G.State → ℕ → (ℕ → ℕ → List ℕ) → List ℕ → ℕ → List ℕ
  noised g r f X i = add_rep G d (skip G d (i * r) g) r (f i) (block (d * 512) i X)

  -- noise at m sharings is the list of its blocks
  pub noise-built : (g : G.State) (m r : ℕ) (f : ℕ → ℕ → List ℕ) (X : List ℕ) → add_noise G d g m r f X ≡ build m (noised g r f X)
  unfolding add_noise
  noise-built g m r f X = refl

  -- the repetitions at one sharing
  pub rep-start : (g : G.State) (n at : ℕ) (f : ℕ → List ℕ) (s₀ : List ℕ) → Below q s₀
      → Wrote n at (d * 512) (add_rep G d g 0 f (span s₀ at (d * 512))) s₀ s₀
  unfolding add_rep
  rep-start g n at f s₀ h = record { new = refl; front = λ b j l m. refl; behind = λ b j l m. refl; long = refl; low = h }

  pub rep_turn : (g x : G.State) (n at i : ℕ) (f : ℕ → List ℕ) (s₀ s t t' : List ℕ) → x ≡ skip G d i g
      → Wrote n at (d * 512) (add_rep G d g i f (span s₀ at (d * 512))) s₀ s
      → Wrote n at (d * 512) (add_w (span s at (d * 512)) (f i)) s t
      → Wrote n at (d * 512) (add_w (span t at (d * 512)) (zero_at G d 0 x)) t t'
      → Wrote n at (d * 512) (add_rep G d g (i + 1) f (span s₀ at (d * 512))) s₀ t'
  unfolding add_rep
  rep_turn g x n at i f s₀ s t t' e u v w =
      let X = span s₀ at (d * 512) in
      let a : span t at (d * 512) ≡ add_w (span s at (d * 512)) (f i) = v.new in
      let b : span s at (d * 512) ≡ add_rep G d g i f X = u.new in
      let z : zero_at G d 0 x ≡ zero_at G d i g = zero-here G d i g x e in
      let r : add_rep G d g (i + 1) f X ≡ add_w (add_w (add_rep G d g i f X) (f i)) (zero_at G d i g) =
      ap (λ (k : ℕ). add_rep G d g k f X) (add-one i) in
      wrote-over u (wrote-over v (wrote_value (cc (a, b, z, r)) w))

  -- r zero encodings a turn
  pub skip-turn : (i r : ℕ) (g x y : G.State) → x ≡ skip G d (i * r) g → y ≡ skip G d r x → y ≡ skip G d ((i + 1) * r) g
  skip-turn i r g x y e f =
      let n : i * r + r ≡ (i + 1) * r = omega arith in
      f ∙ ap (skip G d r) e ∙ skip-add G d (i * r) r g ∙ ap (λ (k : ℕ). skip G d k g) n

  -- over m sharings
  module _ (n m at i : ℕ) (g x : G.State) (s₀ s : List ℕ) (h : n ≤ at) where
    pub encode-turn : (t : List ℕ) → x ≡ skip G d i g → Wrote n at (i * (d * 512)) (build i (encoded g)) s₀ s
        → Wrote n (at + i * (d * 512)) (d * 512) (zero_at G d 0 x) s t
        → Wrote n at ((i + 1) * (d * 512)) (build (i + 1) (encoded g)) s₀ t
    encode-turn t e u v = wrote-turn (d * 512) i (encoded g) h u (wrote_value (zero-here G d i g x e) v)

    pub refresh-turn : (t : List ℕ) → i < m → x ≡ skip G d i g
        → Wrote n at (i * (d * 512)) (build i (renewed g (span s₀ at (m * (d * 512))))) s₀ s
        → Wrote n (at + i * (d * 512)) (d * 512) (add_w (span s (at + i * (d * 512)) (d * 512)) (zero_at G d 0 x)) s t
        → Wrote n at ((i + 1) * (d * 512)) (build (i + 1) (renewed g (span s₀ at (m * (d * 512))))) s₀ t
    refresh-turn t l e u v =
        let X = span s₀ at (m * (d * 512)) in
        let a : zero_at G d 0 x ≡ zero_at G d i g = zero-here G d i g x e in
        let b : span s (at + i * (d * 512)) (d * 512) ≡ block (d * 512) i X = block-rest n (d * 512) m at i s₀ s l (build i (renewed g X)) h u in
        wrote-turn (d * 512) i (renewed g X) h u (wrote_value (cc (a, b)) v)

    pub noise-turn : (r : ℕ) (f : ℕ → ℕ → List ℕ) (t : List ℕ) → i < m → x ≡ skip G d (i * r) g
        → Wrote n at (i * (d * 512)) (build i (noised g r f (span s₀ at (m * (d * 512))))) s₀ s
        → Wrote n (at + i * (d * 512)) (d * 512) (add_rep G d x r (f i) (span s (at + i * (d * 512)) (d * 512))) s t
        → Wrote n at ((i + 1) * (d * 512)) (build (i + 1) (noised g r f (span s₀ at (m * (d * 512))))) s₀ t
    noise-turn r f t l e u v =
        let X = span s₀ at (m * (d * 512)) in
        let b : span s (at + i * (d * 512)) (d * 512) ≡ block (d * 512) i X = block-rest n (d * 512) m at i s₀ s l (build i (noised g r f X)) h u in
        wrote-turn (d * 512) i (noised g r f X) h u (wrote_value (cc (e, b)) v)

    -- the loop is over
    module _ (e : i ≡ m) where
      pub encode-end : Wrote n at (i * (d * 512)) (build i (encoded g)) s₀ s → Wrote n at (m * (d * 512)) (zero_vector G d g m) s₀ s
      unfolding zero_vector
      encode-end u = wrote-end (d * 512) (encoded g) e u

      pub refresh-end : Wrote n at (i * (d * 512)) (build i (renewed g (span s₀ at (m * (d * 512))))) s₀ s
          → Wrote n at (m * (d * 512)) (refreshed G d g m (span s₀ at (m * (d * 512)))) s₀ s
      unfolding refreshed
      refresh-end u = wrote-end (d * 512) (renewed g (span s₀ at (m * (d * 512)))) e u

      pub noise-end : (r : ℕ) (f : ℕ → ℕ → List ℕ) → Wrote n at (i * (d * 512)) (build i (noised g r f (span s₀ at (m * (d * 512))))) s₀ s
          → Wrote n at (m * (d * 512)) (add_noise G d g m r f (span s₀ at (m * (d * 512)))) s₀ s
      unfolding add_noise
      noise-end r f u = wrote-end (d * 512) (noised g r f (span s₀ at (m * (d * 512)))) e u
