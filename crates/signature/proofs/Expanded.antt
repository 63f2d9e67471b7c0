-- Expanding (000, Algorithm 15): polynomials that may not fill, one behind the other; parts of a key; the loops over shares.
use mathlib.Core.Path.{◌≡◌, refl, sym, ap, subst, ◌∙◌}
use mathlib.Core.Bool.{Bool, true, false}
use mathlib.Core.List.{List, [], ◌∷◌}
use mathlib.Core.Option.{Option, some}
use Prim.Native.Nat.{ℕ, zero, suc, ◌+◌, ◌-◌, ◌*◌, ◌≤◌, ◌<◌}
use native.Mathlib.Nat.{mul-le-mul, mul-le-mul_right}
use native.Mathlib.Omega.{arith}
use lib.ListN.{length, take, drop, length-drop}
use lib.Seq.{take_all}
use Rattle.hash.specs.declared.params.Params.{Params}
use Rattle.ring.specs.Words.{q, Below}
use Rattle.ring.specs.UniformSteps.{poly_of, option_of}
use Rattle.std.specs.Prelude as code
use Rattle.std.specs.Option.{is_some}
use Rattle.ring.proofs.Filled.{filled-some, some-filled, held-is, held-filled}
use Rattle.hash.specs.Lists.{zeros}
use Rattle.sharing.specs.Blocks.{block, build}
use Rattle.sharing.specs.Region.{span, Wrote}
use Rattle.ring.proofs.Sums.{words-zeros}
use Rattle.sharing.proofs.Lists.{inside, build-ext}
use Rattle.sharing.proofs.Built.{block-is}
use Rattle.sharing.proofs.Regions.{wrote-start, wrote-turn, wrote-end}
use Rattle.signature.specs.Matrix.{build_all, filled}
use Rattle.signature.specs.Bits.{repack}
use Rattle.signature.proofs.Entries.{All, all-some}
use Rattle.signature.proofs.Ranged.{all-there}
use Rattle.signature.proofs.Packing.{length-repack}
use Rattle.signature.proofs.Sizes.{part-all}
use Rattle.signature.specs.Keys.{seed_bytes, full_share, seeded_share, share_at, decompressed, packed, with_digest, expand_of, expanded_of}
use Rattle.signature.specs.ExpandSteps.{part_bytes, expanded_at, expanded_shares}
use Rattle.signature.specs.KeyCalls.{key_leaves}
use Rattle.signature.specs.Outcome.{outcome, first_no, held_or}
use Rattle.signature.specs.Table.{Tabled}

-- ---- the seeds of a key, and the words of an expanded one

pub seed-in : (p : Params) (i : ℕ) → i < p.shares → i * seed_bytes p ≤ (p.shares - 1) * seed_bytes p
seed-in p i l = let h : i ≤ p.shares - 1 = omega arith in mul-le-mul_right (seed_bytes p) h

module _ (p : Params) (h : Tabled p) where
  pub words-few : p.l * (p.shares * 512) ≤ 114688
  words-few = let a : p.shares * 512 ≤ 16384 = omega (arith, h.shares-low) in omega (arith, mul-le-mul h.columns-low a)

  pub share_in : (j i : ℕ) → j < p.l → i < p.shares → j * (p.shares * 512) + i * 512 + 512 ≤ p.l * (p.shares * 512)
  share_in j i k l = omega (arith, inside j p.l (p.shares * 512) k, inside i p.shares 512 l)

-- ---- what fills

module _ (f : ℕ → Option (List ℕ)) (n : ℕ) (h : filled (build_all n f) ≡ true) where
  all_there : All n f (poly_of (build_all n f))
  all_there = all-some n f (poly_of (build_all n f)) (filled-some (build_all n f) h)

  fill-each : (i : ℕ) → i < n → filled (f i) ≡ true
  fill-each i l = some-filled (f i) _ (all_there.here i l)

  built : build_all n f ≡ some (build n (λ (i : ℕ). (poly_of (f i))))
  built = filled-some (build_all n f) h ∙ ap some all_there.whole

module _ (p : Params) (part : List ℕ) where
  first-fills : (j : ℕ) → filled (share_at p part j 0) ≡ true
  unfolding share_at
  first-fills j = some-filled (share_at p part j 0) (block 512 j (full_share p part)) refl

  share-is : (j i : ℕ) → 1 ≤ i → seeded_share p part j i ≡ share_at p part j i
  unfolding share_at
  share-is j zero h = let x : ⊥ = omega arith in absurd x
  share-is j (suc i) h = refl

  full_is : (j : ℕ) → block 512 j (full_share p part) ≡ expanded_at p part j 0
  unfolding share_at
  full_is j = sym (held-is (share_at p part j 0) (block 512 j (full_share p part)) refl)

  pub expanded-all : filled (decompressed p part) ≡ true → decompressed p part ≡ some (expanded_shares p part)
  unfolding decompressed expanded_shares
  expanded-all h =
      let F : ℕ → Option (List ℕ) = λ (j : ℕ). build_all p.shares (share_at p part j) in
      built F p.l h
      ∙ ap some (build-ext p.l (λ (j : ℕ). (poly_of (F j))) (λ (j : ℕ). build p.shares (expanded_at p part j))
      (λ (j : ℕ) (l : j < p.l). held-is (F j) (build p.shares (expanded_at p part j))
      (built (share_at p part j) p.shares (fill-each F p.l h j l))))

  pub share-fills : (j i : ℕ) (r : code.Option (List ℕ)) → 1 ≤ i → r ≡ option_of (seeded_share p part j i) → filled (share_at p part j i) ≡ is_some r
  share-fills j i r h e = sym (ap is_some e ∙ held-filled (seeded_share p part j i) ∙ ap filled (share-is j i h))

  pub shares-there : (j : ℕ) → ((i : ℕ) → 1 ≤ i → i < p.shares → is_some (option_of (seeded_share p part j i)) ≡ true) → filled (build_all p.shares (share_at p part j)) ≡ true
  shares-there j h = all-there p.shares (share_at p part j) go
    where
      go : (k : ℕ) → k < p.shares → filled (share_at p part j k) ≡ true
      go zero l = first-fills j
      go (suc k) l = share-fills j (suc k) (option_of (seeded_share p part j (suc k))) (omega arith) refl ∙ h (suc k) (omega arith) l

  pub share-expands : (j i : ℕ) → (i ≡ 0 → ⊥) → poly_of (seeded_share p part j i) ≡ expanded_at p part j i
  share-expands j i h = ap poly_of (share-is j i (omega arith))

  pub full-expands : (j i : ℕ) (full : List ℕ) → i ≡ 0 → full ≡ full_share p part → span full (j * 512) 512 ≡ expanded_at p part j i
  full-expands j i full z e =
      ap (λ (l : List ℕ). span l (j * 512) 512) e ∙ sym (block-is 512 j (full_share p part)) ∙ full_is j ∙ sym (ap (expanded_at p part j) z)

  pub full-length : length (full_share p part) ≡ p.l * 512
  unfolding full_share
  full-length = length-repack 8 49 (p.l * 512) (drop ((p.shares - 1) * seed_bytes p) part)

  pub full-made : (out out₀ : List ℕ) → length out₀ ≡ p.l * 512
      → out ≡ repack 8 49 (length out₀) (take (length part - (p.shares - 1) * seed_bytes p) (drop ((p.shares - 1) * seed_bytes p) part))
      → out ≡ full_share p part
  unfolding full_share
  full-made out out₀ n e = e ∙ cc (n, part-all ((p.shares - 1) * seed_bytes p) part)

  -- ---- the loop over the polynomials, from words that are zero
  abbrev pub polynomial : ℕ → List ℕ
  polynomial j = build p.shares (expanded_at p part j)

  pub expand-start : (s s₀ : List ℕ) → s ≡ zeros (length s₀) → Wrote 0 0 (0 * (p.shares * 512)) (build 0 polynomial) s s
  expand-start s s₀ e =
      wrote-start (p.shares * 512) polynomial 0 0 s (subst (λ (l : List ℕ). Below q l) (sym e) (words-zeros (length s₀)).low)

  pub expand-turn : (j : ℕ) (s₀ s t : List ℕ) → Wrote 0 0 (j * (p.shares * 512)) (build j polynomial) s₀ s
      → Wrote 0 (j * (p.shares * 512)) (p.shares * 512) (polynomial j) s t
      → Wrote 0 0 ((j + 1) * (p.shares * 512)) (build (j + 1) polynomial) s₀ t
  expand-turn j s₀ s t u w =
      let k : j * (p.shares * 512) ≡ 0 + j * (p.shares * 512) = omega arith in
      wrote-turn (p.shares * 512) j polynomial (omega arith) u
      (subst (λ (a : ℕ). Wrote 0 a (p.shares * 512) (polynomial j) s t) k w)

  pub expand-end : (j : ℕ) (s₀ s : List ℕ) → j ≡ p.l → length s ≡ p.l * (p.shares * 512)
      → Wrote 0 0 (j * (p.shares * 512)) (build j polynomial) s₀ s → s ≡ expanded_shares p part
  unfolding expanded_shares
  expand-end j s₀ s e n u =
      let w = wrote-end (p.shares * 512) polynomial e u in
      sym (take_all (p.l * (p.shares * 512)) s (omega arith)) ∙ w.new

-- ---- the key

module _ (p : Params) (h : Tabled p) (key : List ℕ) (n : length key ≡ p.sk_bytes) where
  pub vk-in : p.vk_bytes ≤ length key
  vk-in = omega (arith, h.sk)

  pub key-part-long : length (take (length key - p.vk_bytes) (drop p.vk_bytes key)) ≡ part_bytes p
  key-part-long =
      ap (λ (l : List ℕ). length l) (part-all p.vk_bytes key) ∙ length-drop p.vk_bytes key ∙ omega (arith, h.sk)

  pub key-part-low : Below q (full_share p (drop p.vk_bytes key)) → Below q (full_share p (take (length key - p.vk_bytes) (drop p.vk_bytes key)))
  key-part-low b = subst (λ (l : List ℕ). Below q (full_share p l)) (sym (part-all p.vk_bytes key)) b

module _ (p : Params) (key bytes words : List ℕ) (r : Bool)
    (e : r ≡ filled (decompressed p (take (length key - p.vk_bytes) (drop p.vk_bytes key)))) where
  fills : r ≡ filled (expand_of p key)
  unfolding expand_of
  fills = e ∙ ap (λ (l : List ℕ). filled (decompressed p l)) (part-all p.vk_bytes key)

  pub key-unfilled : r ≡ false → outcome 10 bytes words ≡ key_leaves (first_no ((10, filled (expand_of p key)) ∷ [])) (expanded_of p key) bytes words
  key-unfilled z = ap (λ (b : Bool). key_leaves (first_no ((10, b) ∷ [])) (expanded_of p key) bytes words) (sym z ∙ fills)

  pub key-expanded : r ≡ true → (b w : List ℕ) → b ≡ with_digest p (packed key)
      → w ≡ expanded_shares p (take (length key - p.vk_bytes) (drop p.vk_bytes key))
      → outcome 0 b w ≡ key_leaves (first_no ((10, filled (expand_of p key)) ∷ [])) (expanded_of p key) bytes words
  unfolding expand_of
  key-expanded z b w eb ew =
      let there : expand_of p key ≡ some (expanded_shares p (drop p.vk_bytes key)) = expanded-all p (drop p.vk_bytes key) (sym fills ∙ z) in
      let fw : w ≡ held_or (expand_of p key) [] =
      ew ∙ ap (expanded_shares p) (part-all p.vk_bytes key) ∙ ap (λ (o : Option (List ℕ)). held_or o []) (sym there) in
      (λ i. outcome 0 (eb i) (fw i)) ∙ ap (λ (t : Bool). key_leaves (first_no ((10, t) ∷ [])) (expanded_of p key) bytes words) (sym z ∙ fills)
