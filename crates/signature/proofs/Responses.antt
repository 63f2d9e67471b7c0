-- Lines 12 to 16 of signing (000, Algorithm 2) on the work buffer: the loops, and the steps joined. s₀ is the buffer where a loop begins, s
-- before a turn, t behind it.
use mathlib.Core.Path.{◌≡◌, sym, ap, subst, ◌∙◌}
use mathlib.Core.List.{List}
use Prim.Native.Nat.{ℕ, ◌+◌, ◌*◌, ◌≤◌, ◌<◌}
use native.Mathlib.Omega.{arith}
use Rattle.ring.specs.Words.{add_w, Words}
use Rattle.ring.specs.Transform.{ntt, intt, pointwise, mul}
use Rattle.ring.proofs.Theorems.{ntt-words, intt-words, intt-ntt, mul_words, times-back}
use Rattle.sharing.specs.Blocks.{block, build, totals, each}
use Rattle.sharing.specs.Region.{span, Wrote}
use Rattle.sharing.specs.Encoding.{skip, refreshed}
use Rattle.sharing.specs.Masks.{masks}
use Rattle.sharing.specs.declared.masks.MaskGen.{MaskGen}
use Rattle.sharing.proofs.Lists.{block_words, block-build, build-ext, build-add, blocks-all}
use Rattle.sharing.proofs.Built.{each-is}
use Rattle.sharing.proofs.Regions.{wrote_value, wrote-turn}
use Rattle.sharing.proofs.Turns.{block-rest, source}
use Rattle.signature.specs.AttemptSteps.{response_share, response_at, Renewed, Responded}
use Rattle.signature.specs.Layout.{at_s, at_r, at_t, at_x}
use Rattle.signature.specs.MaskedSteps.{transformed, untransformed}
use Rattle.signature.specs.Sign.{masked_response}

-- ---- line 14

-- share by share
module _ (c : List ℕ) (d a b : ℕ) (s₀ : List ℕ) (h : a + d * 512 ≤ b) where
  pub answer-turn : (j : ℕ) (s t p : List ℕ) → j < d
      → Wrote 0 b (j * 512) (build j (response_share c (span s₀ a (d * 512)) (span s₀ b (d * 512)))) s₀ s
      → p ≡ add_w (intt (pointwise c (span s (a + j * 512) 512))) (span s (b + j * 512) 512)
      → Wrote 0 (b + j * 512) 512 p s t
      → Wrote 0 b ((j + 1) * 512) (build (j + 1) (response_share c (span s₀ a (d * 512)) (span s₀ b (d * 512)))) s₀ t
  answer-turn j s t p l u e v =
      let f = response_share c (span s₀ a (d * 512)) (span s₀ b (d * 512)) in
      let x : span s (a + j * 512) 512 ≡ block 512 j (span s₀ a (d * 512)) = source 0 512 d a j s₀ s l b (j * 512) (build j f) (omega arith) h u in
      let y : span s (b + j * 512) 512 ≡ block 512 j (span s₀ b (d * 512)) = block-rest 0 512 d b j s₀ s l (build j f) (omega arith) u in
      wrote-turn 512 j f (omega arith) u (wrote_value (cc (e, x, y)) v)

-- polynomial by polynomial
module _ (c : List ℕ) (l d a b : ℕ) (s₀ : List ℕ) (h : a + l * (d * 512) ≤ b) where
  pub answers-turn : (i : ℕ) (s t : List ℕ) → i < l
      → Wrote 0 b (i * (d * 512)) (build i (response_at d c (span s₀ a (l * (d * 512))) (span s₀ b (l * (d * 512))))) s₀ s
      → Wrote 0 (b + i * (d * 512)) (d * 512) (build d (response_share c (span s (a + i * (d * 512)) (d * 512)) (span s (b + i * (d * 512)) (d * 512)))) s t
      → Wrote 0 b ((i + 1) * (d * 512)) (build (i + 1) (response_at d c (span s₀ a (l * (d * 512))) (span s₀ b (l * (d * 512))))) s₀ t
  answers-turn i s t g u v =
      let f = response_at d c (span s₀ a (l * (d * 512))) (span s₀ b (l * (d * 512))) in
      let x : span s (a + i * (d * 512)) (d * 512) ≡ block (d * 512) i (span s₀ a (l * (d * 512))) =
      source 0 (d * 512) l a i s₀ s g b (i * (d * 512)) (build i f) (omega arith) h u in
      let y : span s (b + i * (d * 512)) (d * 512) ≡ block (d * 512) i (span s₀ b (l * (d * 512))) =
      block-rest 0 (d * 512) l b i s₀ s g (build i f) (omega arith) u in
      wrote-turn (d * 512) i f (omega arith) u (wrote_value (ap (λ (X : List ℕ). build d (response_share c X (span s (b + i * (d * 512)) (d * 512)))) x
      ∙ ap (λ (Y : List ℕ). build d (response_share c (block (d * 512) i (span s₀ a (l * (d * 512)))) Y)) y) v)

-- by the transform it is c s + r
module _ (c : List ℕ) (wc : Words 512 c) (d : ℕ) where
  share-is : (X Y : List ℕ) → Words (d * 512) X → Words (d * 512) Y
      → build d (response_share (ntt c) X Y) ≡ add_w (each d (λ (x : List ℕ). mul c (intt x)) X) Y
  share-is X Y w_x w_y =
      let F : ℕ → List ℕ = λ (j : ℕ). mul c (intt (block 512 j X)) in
      let wx : (j : ℕ) → j < d → Words 512 (block 512 j X) = λ (j : ℕ) (h : j < d). block_words d j X w_x h in
      build-ext d (response_share (ntt c) X Y) (λ (j : ℕ). add_w (F j) (block 512 j Y))
      (λ (j : ℕ) (h : j < d). ap (λ (x : List ℕ). add_w x (block 512 j Y)) (times-back c (block 512 j X) wc (wx j h)))
      ∙ build-add 512 d F (λ (j : ℕ). block 512 j Y)
      (λ (j : ℕ) (h : j < d). (mul_words c (intt (block 512 j X)) (intt-words (block 512 j X) (wx j h)).long).long)
      (λ (j : ℕ) (h : j < d). (block_words d j Y w_y h).long)
      ∙ ap (add_w (build d F)) (blocks-all 512 d Y w_y.long)
      ∙ ap (λ (x : List ℕ). add_w x Y) (sym (each-is d (λ (x : List ℕ). mul c (intt x)) X))

  pub response-is : (l : ℕ) (X Y : List ℕ) → Words (l * (d * 512)) X → Words (l * (d * 512)) Y
      → build l (response_at d (ntt c) X Y) ≡ masked_response d l c X Y
  unfolding masked_response
  response-is l X Y w_x w_y =
      build-ext l (response_at d (ntt c) X Y) (λ (i : ℕ). add_w (each d (λ (x : List ℕ). mul c (intt x)) (block (d * 512) i X)) (block (d * 512) i Y))
      (λ (i : ℕ) (h : i < l). share-is (block (d * 512) i X) (block (d * 512) i Y) (block_words l i X w_x h) (block_words l i Y w_y h))

-- ---- lines 12 and 13

-- the transform turned back
pub back-there : (n : ℕ) (xs : List ℕ) → Words (n * 512) xs → untransformed n (transformed n xs) ≡ xs
unfolding transformed untransformed
back-there n xs w =
    let f : ℕ → List ℕ = λ (i : ℕ). ntt (block 512 i xs) in
    build-ext n (λ (i : ℕ). intt (block 512 i (build n f))) (λ (i : ℕ). block 512 i xs)
    (λ (i : ℕ) (h : i < n).
    ap intt (block-build 512 n i f (λ (j : ℕ) (k : j < n). (ntt-words (block 512 j xs)).long) h) ∙ intt-ntt (block 512 i xs) (block_words n i xs w h))
    ∙ blocks-all 512 n xs w.long

pub renew-made : (l d a b : ℕ) (g x y : MaskGen) (s₀ s₁ s₂ s₃ : List ℕ) → d * 512 ≤ a → a + l * (d * 512) ≤ b → x ≡ skip masks d l g → y ≡ skip masks d l x
    → Wrote (d * 512) a (l * (d * 512)) (refreshed masks d g l (span s₀ a (l * (d * 512)))) s₀ s₁
    → Wrote 0 b (l * d * 512) (untransformed (l * d) (span s₁ b (l * d * 512))) s₁ s₂
    → Wrote (d * 512) b (l * (d * 512)) (refreshed masks d x l (span s₂ b (l * (d * 512)))) s₂ s₃
    → Renewed l d a b g y s₀ s₃
renew-made l d a b g x y s₀ s₁ s₂ s₃ h k e f u v w =
    let L = l * (d * 512) in
    let n : l * d * 512 ≡ l * (d * 512) = omega arith in
    let t : Wrote 0 b (l * (d * 512)) (untransformed (l * d) (span s₁ b (l * (d * 512)))) s₁ s₂ =
    subst (λ (m : ℕ). Wrote 0 b m (untransformed (l * d) (span s₁ b m)) s₁ s₂) n v in
    record {
      key = w.front a L h k ∙ t.front a L (omega arith) k ∙ u.new;
      noise =
          w.new ∙ ap (λ (o : MaskGen). refreshed masks d o l (span s₂ b (l * (d * 512)))) e
          ∙ ap (refreshed masks d (skip masks d l g) l) (t.new ∙ ap (untransformed (l * d)) (u.behind b L (omega arith) k));
      next = f ∙ ap (skip masks d l) e;
      front = λ (o m : ℕ) (i : d * 512 ≤ o) (j : o + m ≤ a).
          w.front o m i (omega arith) ∙ t.front o m (omega arith) (omega arith) ∙ u.front o m i j;
      behind = λ (o m : ℕ) (i : b + l * (d * 512) ≤ o).
          w.behind o m (omega arith) i ∙ t.behind o m (omega arith) i ∙ u.behind o m (omega arith) (omega arith);
      long = w.long ∙ t.long ∙ u.long;
      low = w.low;
    }

-- ---- lines 12 to 16

pub respond-made : (k l d : ℕ) (c : List ℕ) (g x y : MaskGen) (s₀ s₁ s₂ s₃ s₄ : List ℕ) → y ≡ skip masks d l x
    → Renewed l d (at_s d) (at_r l d) g x s₀ s₁
    → Wrote 0 (at_r l d) (l * (d * 512)) (masked_response d l c (span s₁ (at_s d) (l * (d * 512))) (span s₁ (at_r l d) (l * (d * 512)))) s₁ s₂
    → Wrote (d * 512) (at_r l d) (l * (d * 512)) (refreshed masks d x l (span s₂ (at_r l d) (l * (d * 512)))) s₂ s₃
    → Wrote 0 (at_x k l d) (l * 512) (totals l d (span s₃ (at_r l d) (l * (d * 512)))) s₃ s₄
    → Responded k l d c g y s₀ s₄
respond-made k l d c g x y s₀ s₁ s₂ s₃ s₄ e n u v w =
    let L = l * (d * 512) in
    let S = span s₀ (at_s d) (l * (d * 512)) in
    let m : l * d * 512 ≡ l * (d * 512) = omega arith in
    record {
      key =
          w.front (at_s d) L (omega arith) (omega arith) ∙ v.front (at_s d) L (omega arith) (omega arith)
          ∙ u.front (at_s d) L (omega arith) (omega arith) ∙ n.key;
      shares = λ (r : List ℕ) (wr : Words (l * (d * 512)) r) (f : span s₀ (at_r l d) (l * (d * 512)) ≡ transformed (l * d) r).
          let b : untransformed (l * d) (span s₀ (at_r l d) (l * (d * 512))) ≡ r =
          ap (untransformed (l * d)) f ∙ back-there (l * d) r (subst (λ (o : ℕ). Words o r) (sym m) wr) in
          w.front (at_r l d) L (omega arith) (omega arith) ∙ v.new
          ∙ ap (λ (o : MaskGen). refreshed masks d o l (span s₂ (at_r l d) (l * (d * 512)))) n.next
          ∙ ap (refreshed masks d (skip masks d l (skip masks d l g)) l) (u.new
          ∙ ap (λ (X : List ℕ). masked_response d l c X (span s₁ (at_r l d) (l * (d * 512)))) n.key
          ∙ ap (masked_response d l c (refreshed masks d g l S)) (n.noise ∙ ap (refreshed masks d (skip masks d l g) l) b));
      next = e ∙ ap (skip masks d l) n.next;
      response = w.new ∙ ap (totals l d) (sym (w.front (at_r l d) L (omega arith) (omega arith)));
      row =
          w.front (d * 512) (d * 512) (omega arith) (omega arith) ∙ v.front (d * 512) (d * 512) (omega arith) (omega arith)
          ∙ u.front (d * 512) (d * 512) (omega arith) (omega arith) ∙ n.front (d * 512) (d * 512) (omega arith) (omega arith);
      commitment =
          w.front (at_t l d) (k * 512) (omega arith) (omega arith) ∙ v.behind (at_t l d) (k * 512) (omega arith) (omega arith)
          ∙ u.behind (at_t l d) (k * 512) (omega arith) (omega arith) ∙ n.behind (at_t l d) (k * 512) (omega arith);
      long = w.long ∙ v.long ∙ u.long ∙ n.long;
      low = w.low;
    }
