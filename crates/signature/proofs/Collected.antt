-- MaskCompress (000, Algorithm 14): the turns of its loops.
use mathlib.Core.Path.{◌≡◌, refl, sym, ap, ◌∙◌}
use mathlib.Core.List.{List, [], ◌∷◌}
use mathlib.Core.Option.{Option, some, none}
use Prim.Native.Nat.{ℕ, zero, suc, ◌+◌, ◌-◌, ◌*◌, ◌≤◌, ◌<◌}
use native.Mathlib.Decide.{dec_lt}
use native.Mathlib.Omega.{arith}
use Rattle.hash.specs.declared.params.Edition.{Edition}
use Rattle.ring.specs.Words.{add_w, sub_w}
use Rattle.ring.specs.UniformSteps.{poly_of, option_of}
use Rattle.std.specs.Prelude.{Some, None}
use Rattle.ring.proofs.Filled.{held-is, held-there, held-missing}
use Rattle.sharing.specs.Blocks.{block, build}
use Rattle.sharing.specs.Region.{span, Wrote}
use Rattle.sharing.proofs.Regions.{block-span, wrote_value, wrote-turn, wrote-end}
use Rattle.sharing.proofs.Turns.{source}
use Rattle.signature.specs.Compress.{share_header, exchanged, seeded_share_of, collected_of, collected_at, compressed_of}
use Rattle.signature.proofs.Entries.{all-some}

-- ---- the headers

pub header-printed : (e : Edition) (i j : ℕ) → e ≡ Edition.Printed → (75 ∷ i ∷ j ∷ 0 ∷ 0 ∷ 0 ∷ 0 ∷ 0 ∷ []) ≡ share_header e i j
header-printed e i j h = ap (λ (x : Edition). share_header x i j) (sym h)

pub header-kat : (e : Edition) (i j : ℕ) → e ≡ Edition.Kat → (75 ∷ j ∷ i ∷ 0 ∷ 0 ∷ 0 ∷ 0 ∷ 0 ∷ []) ≡ share_header e i j
header-kat e i j h = ap (λ (x : Edition). share_header x i j) (sym h)

-- ---- one polynomial

exchanged-none : (s : List ℕ) (o : Option (List ℕ)) → exchanged s o none ≡ none
exchanged-none s none = refl
exchanged-none s (some x) = refl

module _ (e : Edition) (n : ℕ) (seeds : List ℕ) (j : ℕ) where
  next : (m : ℕ) (X x r : List ℕ) → collected_of e n seeds X j m ≡ some x → seeded_share_of e n seeds j (suc m) ≡ some r
      → collected_of e n seeds X j (suc m) ≡ some (add_w (sub_w x r) (block 512 (suc m) X))
  unfolding collected_of
  next m X x r h g =
      ap (λ (o : Option (List ℕ)). exchanged (block 512 (suc m) X) o (seeded_share_of e n seeds j (suc m))) h
      ∙ ap (exchanged (block 512 (suc m) X) (some x)) g

  lost : (k i : ℕ) (X : List ℕ) → 1 ≤ i → i ≤ k → seeded_share_of e n seeds j i ≡ none → collected_of e n seeds X j k ≡ none
  unfolding collected_of
  lost zero i X a b g = absurd (omega arith)
  lost (suc k) i X a b g = go (dec_lt i (suc k)) (λ (l : i < suc k). lost k i X a (omega arith) g)
    where
      B : List ℕ
      B = block 512 (suc k) X

      go : Dec (i < suc k) → (i < suc k → collected_of e n seeds X j k ≡ none) → exchanged B (collected_of e n seeds X j k) (seeded_share_of e n seeds j (suc k)) ≡ none
      go (yes l) r = ap (λ (o : Option (List ℕ)). exchanged B o (seeded_share_of e n seeds j (suc k))) (r l)
      go (no l) r =
          let s : suc k ≡ i = omega arith in
          ap (λ (m : ℕ). exchanged B (collected_of e n seeds X j k) (seeded_share_of e n seeds j m)) s
          ∙ ap (exchanged B (collected_of e n seeds X j k)) g ∙ exchanged-none B (collected_of e n seeds X j k)

  module _ (s : List ℕ) (at d : ℕ) where
    pub collect-start : (x : List ℕ) → 1 ≤ d → x ≡ span s at 512 → collected_of e n seeds (span s at (d * 512)) j 0 ≡ some x
    unfolding collected_of
    collect-start x h g =
        let z : at + 0 * 512 ≡ at = omega arith in
        ap some (block-span 512 d 0 s at h ∙ ap (λ (a : ℕ). span s a 512) z ∙ sym g)

    module _ (i : ℕ) (a : 1 ≤ i) (b : i < d) where
      pub collect-turn : (x y z : List ℕ) → seeded_share_of e n seeds j i ≡ some y → collected_of e n seeds (span s at (d * 512)) j (i - 1) ≡ some x
          → z ≡ add_w (sub_w x y) (span s (at + i * 512) 512) → collected_of e n seeds (span s at (d * 512)) j (i + 1 - 1) ≡ some z
      collect-turn x y z g u v =
          let X = span s at (d * 512) in
          let p : suc (i - 1) ≡ i = omega arith in
          let k : i + 1 - 1 ≡ suc (i - 1) = omega arith in
          ap (collected_of e n seeds X j) k ∙ next (i - 1) X x y u (ap (seeded_share_of e n seeds j) p ∙ g)
          ∙ ap (λ (w : List ℕ). some (add_w (sub_w x y) w)) (ap (λ (m : ℕ). block 512 m X) p ∙ block-span 512 d i s at b) ∙ ap some (sym v)

      pub collect-stop : seeded_share_of e n seeds j i ≡ none → None ≡ option_of (collected_of e n seeds (span s at (d * 512)) j (d - 1))
      collect-stop g = held-missing _ (lost (d - 1) i (span s at (d * 512)) a (omega arith) g)

    pub collect-end : (i : ℕ) (x : List ℕ) → i ≡ d → collected_of e n seeds (span s at (d * 512)) j (i - 1) ≡ some x
        → Some x ≡ option_of (collected_of e n seeds (span s at (d * 512)) j (d - 1))
    collect-end i x p h = held-there _ x (ap (λ (m : ℕ). collected_of e n seeds (span s at (d * 512)) j (m - 1)) (sym p) ∙ h)

-- ---- l polynomials

-- the full share of polynomial j, zero where it is not there
abbrev pub full_at : Edition → ℕ → List ℕ → ℕ → List ℕ → ℕ → List ℕ
full_at e n seeds d X j = (poly_of (collected_at e n seeds d X j))

module _ (e : Edition) (n : ℕ) (seeds : List ℕ) (at to l d : ℕ) (s₀ : List ℕ) (h : at + l * (d * 512) ≤ to) where
  module _ (j : ℕ) (s : List ℕ) (b : j < l) (u : Wrote 0 to (j * 512) (build j (full_at e n seeds d (span s₀ at (l * (d * 512))))) s₀ s) where
    -- polynomial j is still what it was
    pub full-here : collected_of e n seeds (span s (at + j * (d * 512)) (d * 512)) j (d - 1) ≡ collected_at e n seeds d (span s₀ at (l * (d * 512))) j
    full-here =
        ap (λ (X : List ℕ). collected_of e n seeds X j (d - 1))
        (source 0 (d * 512) l at j s₀ s b to (j * 512) (build j (full_at e n seeds d (span s₀ at (l * (d * 512))))) (omega arith) h u)

    pub full-turn : (y t : List ℕ) → collected_at e n seeds d (span s₀ at (l * (d * 512))) j ≡ some y → Wrote 0 (to + j * 512) 512 y s t
        → Wrote 0 to ((j + 1) * 512) (build (j + 1) (full_at e n seeds d (span s₀ at (l * (d * 512))))) s₀ t
    full-turn y t g v =
        wrote-turn 512 j (full_at e n seeds d (span s₀ at (l * (d * 512)))) (omega arith) u (wrote_value (sym (held-is _ y g)) v)

  pub full-end : (j : ℕ) (s X : List ℕ) → j ≡ l → Wrote 0 to (j * 512) (build j (full_at e n seeds d (span s₀ at (l * (d * 512))))) s₀ s
      → compressed_of e n seeds l d (span s₀ at (l * (d * 512))) ≡ some X → Wrote 0 to (l * 512) X s₀ s
  unfolding compressed_of
  full-end j s X p u g =
      let f = full_at e n seeds d (span s₀ at (l * (d * 512))) in
      wrote_value (sym (all-some l (collected_at e n seeds d (span s₀ at (l * (d * 512)))) X g).whole) (wrote-end 512 f p u)
