-- Key generation (000, Algorithm 1): the steps on the work buffer, joined.
use mathlib.Core.Path.{◌≡◌, sym, ap, subst, ◌∙◌}
use mathlib.Core.Bool.{Bool, true, false}
use mathlib.Core.List.{List, [], ◌∷◌}
use mathlib.Core.Option.{some}
use Prim.Native.Nat.{ℕ, suc, ◌+◌, ◌-◌, ◌*◌, ◌/◌, ◌^◌, ◌≤◌, ◌<◌}
use native.Mathlib.Omega.{arith}
use lib.ListN.{length, take, drop}
use Rattle.hash.specs.Lists.{zeros}
use Rattle.hash.specs.Params.{order_index}
use Rattle.hash.specs.declared.params.Params.{Params}
use Rattle.hash.proofs.Rows.{count-power}
use Rattle.ring.specs.Words.{q, Below, Words}
use Rattle.ring.specs.Rns.{words_of}
use Rattle.ring.specs.Round.{round_t}
use Rattle.ring.specs.Checks.{held_or}
use Rattle.ring.proofs.Checks.{no-here, left-no}
use Rattle.ring.proofs.Filled.{not_there}
use Rattle.sharing.specs.Blocks.{block, totals}
use Rattle.sharing.specs.Region.{span, Wrote}
use Rattle.sharing.specs.Encoding.{skip, add_noise}
use Rattle.sharing.specs.Masks.{masks, mask_start}
use Rattle.sharing.specs.Noise.{noise_bytes, seed_noise}
use Rattle.sharing.specs.declared.masks.MaskGen.{MaskGen}
use Rattle.sharing.proofs.Regions.{wrote_value, wrote-wide, wrote-over}
use Rattle.signature.specs.Checks.{first_no, both, work_words}
use Rattle.signature.specs.KeygenSteps.{Rounded, Generated, full_share_of, keygen_fills}
use Rattle.signature.specs.Keys.{key_shares, key_vector, key_masks_fill, compressed}
use Rattle.signature.specs.Compress.{compressed_of}
use Rattle.signature.specs.Layout.{at_s, at_t, at_x}
use Rattle.signature.specs.Masked.{Noise, seeded, masked_noise, masked_image}
use Rattle.signature.specs.MaskedSteps.{matrix_in, MatrixHeld, ResiduesHeld, transformed, rows_of, SummedAll}
use Rattle.signature.specs.Matrix.{matrix, matrix_of, filled}
use Rattle.signature.specs.Table.{Tabled}
use Rattle.signature.proofs.Masking.{image-is}
use Rattle.signature.proofs.Product.{transformed-each}
use Rattle.signature.proofs.Sizes.{cleared, room, coins-first, coins-second, matrix-held, part-all}

-- lines 5 to 8: a sum, rounded where it is
pub rounded-made : (p : Params) (to : ℕ) (W s₀ s₁ s₂ : List ℕ) → p.shares * 512 + p.shares * 512 ≤ to
    → SummedAll p.shares p.k (p.shares * 512) to W s₀ s₁ → Wrote 0 to (p.k * 512) (round_t (span s₁ to (p.k * 512))) s₁ s₂
    → Rounded p to W s₀ s₂
rounded-made p to W s₀ s₁ s₂ h u v =
    record {
      row = λ (i : ℕ) (e : p.k ≡ suc i). v.front (p.shares * 512) (p.shares * 512) (omega arith) h ∙ u.shares i e;
      vector = wrote-over u.sums (wrote-wide (omega arith) (wrote_value (ap round_t u.sums.new) v));
    }

-- ---- all of it: s₁ is the buffer behind `masked_noise`, s₂ behind `public_vector`, s₃ behind `compress_vector`

both_right : (a b : Bool) → a ≡ true → both a b ≡ b
both_right a b e = ap (λ (c : Bool). both c b) e

-- what `make_parts` ensures, with the work buffer s₀ before
abbrev pub PartsLeft : Params → List ℕ → ℕ → List ℕ → List ℕ → List ℕ → List ℕ → List ℕ → Type 0
PartsLeft p mask r s₀ s seed coins shares =
    ((r ≡ first_no (keygen_fills p seed coins shares mask)) × (length s ≡ length s₀) × Below q s)
    × ((A x : List ℕ) → matrix p seed ≡ some A → full_share_of p shares coins mask ≡ some x → Generated p coins (mask_start mask) A x s)

-- the noise of key generation, and its seeds behind those of s
abbrev noise_of : Params → List ℕ → Noise
noise_of p coins = seeded p p.ut coins

abbrev rest_of : Params → List ℕ → List ℕ
rest_of p coins = drop (p.l * p.rep * p.shares * (p.kappa / 8)) coins

-- .. as they are lent
abbrev lent_rest : Params → List ℕ → List ℕ
lent_rest p coins = take (length coins - p.l * p.rep * p.shares * (p.kappa / 8)) (rest_of p coins)

-- the shares of all rows of t, of the rest of the noise seeds, the matrix M, the list at s and the generator x behind it
abbrev image_of : Params → List ℕ → MaskGen → List ℕ → List ℕ → List ℕ
image_of p rest x M S =
    add_noise masks p.shares x p.k p.rep (seed_noise p.shares p.rep p.ut (p.kappa / 8) rest) (rows_of p.shares p.k p.l M S)

module _ (p : Params) (power : p.shares ≡ 2 ^ order_index p.shares) (coins shares mask : List ℕ) where
  abbrev g : MaskGen
  g = mask_start mask

  shares-is : transformed (p.l * p.shares) (masked_noise p (noise_of p coins) g).shares ≡ key_shares p coins g
  unfolding key_shares
  shares-is = transformed-each p.l p.shares (masked_noise p (noise_of p coins) g).shares

  rows_are : (M : List ℕ) (x : MaskGen) → MatrixHeld p M → x ≡ (masked_noise p (noise_of p coins) g).next
      → image_of p (rest_of p coins) x M (transformed (p.l * p.shares) (masked_noise p (noise_of p coins) g).shares)
      ≡ (masked_image p (noise_of p coins) g (matrix_in p M)).shares
  unfolding seeded
  rows_are M x h f = image-is p (noise_of p coins) g x power f M h

  -- check 20: the generator behind line 6 tells, whatever the matrix
  key-masks-are : (A : List ℕ) (x y : MaskGen) → x ≡ (masked_noise p (noise_of p coins) g).next → y ≡ skip masks p.shares (p.k * p.rep) x
      → y.ok ≡ key_masks_fill p coins g A
  unfolding key_masks_fill masked_image seeded
  key-masks-are A x y e f = ap (λ (h : MaskGen). h.ok) (f ∙ ap (skip masks p.shares (p.k * p.rep)) e)

  vector-is : (A W : List ℕ) → W ≡ (masked_image p (noise_of p coins) g A).shares → round_t (totals p.k p.shares W) ≡ key_vector p coins g A
  unfolding key_vector
  vector-is A W e = ap (λ (X : List ℕ). round_t (totals p.k p.shares X)) e

  module _ (seed M rest s₀ s₁ s₂ s₃ : List ℕ) (x : MaskGen) (hr : rest ≡ rest_of p coins)
      (u : Wrote (p.shares * 512) (at_s p.shares) (p.l * (p.shares * 512)) (transformed (p.l * p.shares) (masked_noise p (noise_of p coins) g).shares) s₀ s₁)
      (hx : x ≡ (masked_noise p (noise_of p coins) g).next) (held : MatrixHeld p M) (yes : filled (matrix_of p.k p.l seed) ≡ true)
      (is : (A : List ℕ) → matrix_of p.k p.l seed ≡ some A → matrix_in p M ≡ A)
      (v : Rounded p (at_t p.l p.shares) (image_of p rest x M (span s₁ (at_s p.shares) (p.l * (p.shares * 512)))) s₁ s₂)
      (c : Bool)
      (hc : c ≡ filled (compressed_of p.edition (p.kappa / 8) shares p.l p.shares (span s₂ (at_s p.shares) (p.l * (p.shares * 512)))))
      (w : (X : List ℕ) → compressed_of p.edition (p.kappa / 8) shares p.l p.shares (span s₂ (at_s p.shares) (p.l * (p.shares * 512))) ≡ some X
      → Wrote 0 (at_x p.k p.l p.shares) (p.l * 512) X s₂ s₃) where
    shares-there : span s₂ (at_s p.shares) (p.l * (p.shares * 512)) ≡ key_shares p coins g
    shares-there = v.vector.front (at_s p.shares) (p.l * (p.shares * 512)) (omega arith) (omega arith) ∙ u.new ∙ shares-is

    full : compressed_of p.edition (p.kappa / 8) shares p.l p.shares (span s₂ (at_s p.shares) (p.l * (p.shares * 512)))
        ≡ compressed p shares (key_shares p coins g)
    full = ap (compressed_of p.edition (p.kappa / 8) shares p.l p.shares) shares-there

    key-filled : c ≡ both (filled (matrix p seed)) (filled (compressed p shares (key_shares p coins g)))
    key-filled =
        hc ∙ ap filled full ∙ sym (both_right (filled (matrix p seed)) (filled (compressed p shares (key_shares p coins g))) yes)

    key-made : (A X : List ℕ) → matrix p seed ≡ some A → compressed p shares (key_shares p coins g) ≡ some X → Generated p coins g A X s₃
    key-made A X h_a h_x =
        let z = w X (full ∙ h_x) in
        let W : image_of p rest x M (span s₁ (at_s p.shares) (p.l * (p.shares * 512))) ≡ (masked_image p (noise_of p coins) g A).shares =
        ap (image_of p rest x M) u.new
        ∙ ap (λ (t : List ℕ). image_of p t x M (transformed (p.l * p.shares) (masked_noise p (noise_of p coins) g).shares)) hr
        ∙ rows_are M x held hx ∙ ap (λ (B : List ℕ). (masked_image p (noise_of p coins) g B).shares) (is A h_a) in
        record {
          shares = z.front (at_s p.shares) (p.l * (p.shares * 512)) (omega arith) (omega arith) ∙ shares-there;
          row = λ (i : ℕ) (e : p.k ≡ suc i).
              z.front (p.shares * 512) (p.shares * 512) (omega arith) (omega arith) ∙ v.row i e ∙ ap (block (p.shares * 512) i) W;
          vector = z.front (at_t p.l p.shares) (p.k * 512) (omega arith) (omega arith) ∙ v.vector.new ∙ vector-is A _ W;
          full = z.new;
        }

    -- .. and r the status, y being the generator behind `public_vector`
    made-parts : (y : MaskGen) (r : ℕ) → y ≡ skip masks p.shares (p.k * p.rep) x → r ≡ first_no ((10, c) ∷ (20, y.ok) ∷ [])
        → (r ≡ first_no (keygen_fills p seed coins shares mask))
        × ((A X : List ℕ) → matrix p seed ≡ some A → full_share_of p shares coins mask ≡ some X → Generated p coins g A X s₃)
    made-parts y r hy e =
        let full-mask = key-masks-are (held_or (matrix p seed) []) x y hx hy in
        (e ∙ (λ i. first_no ((10, key-filled i) ∷ (20, full-mask i) ∷ [])), key-made)

-- ---- the calls of `make_parts`, one behind the other: s₀ is the work buffer behind `clear`, the others as above; s stands at `at`, t at `to`

module _ (p : Params) (work s₀ : List ℕ) (clear : s₀ ≡ zeros (length work)) where
  -- all words of it are 0
  start : Words (length work) s₀
  start = cleared work s₀ clear

  -- what is left where the matrix does not fill
  pub none_made : (seed coins shares mask : List ℕ) (found : Bool) → found ≡ filled (matrix_of p.k p.l seed) → found ≡ false
      → PartsLeft p mask 10 work s₀ seed coins shares
  none_made seed coins shares mask found e f =
      let no = sym e ∙ f in
      ((no-here 10 _ (left-no _ no), start.long, start.low), λ A X m k. not_there _ A m no)

  module _ (h : Tabled p) (coins : List ℕ) (at to : ℕ) (long : length work ≡ work_words p) (coins-long : length coins ≡ noise_bytes p)
      (at-s : at ≡ at_s p.shares) (at-t : to ≡ at_t p.l p.shares) where
    -- what `masked_noise` requires
    pub noise-asked : ((p.l * p.rep * p.shares * (p.kappa / 8) ≤ length coins) × (p.rep < 256) × (p.l ≤ 256) × (1 ≤ p.ut) × (p.ut ≤ 48))
        × ((p.shares * 512 ≤ at) × (at + p.l * (p.shares * 512) ≤ length s₀) × Below q s₀)
    noise-asked =
        let R = room p h (length work) long in
        ((coins-first p h (length coins) coins-long, omega (arith, h.rep-low), omega (arith, h.columns-low), h.ut-pos, omega (arith, h.ut-low)), (omega arith, omega (arith, R.0, start.long), start.low))

    module _ (g : MaskGen) (M s₁ : List ℕ) (M-long : length M ≡ 32256) (M-low : Below (2 ^ 60) M)
        (u : Wrote (p.shares * 512) at (p.l * (p.shares * 512)) (transformed (p.l * p.shares) (masked_noise p (noise_of p coins) g).shares) s₀ s₁) where
      -- the matrix is in its array
      held_in : ResiduesHeld p M
      held_in = matrix-held p h M M-long M-low

      -- what `public_vector` requires
      pub vector-asked : ((p.k * p.rep * p.shares * (p.kappa / 8) ≤ length (lent_rest p coins)) × ResiduesHeld p M)
          × ((p.shares * 512 + p.shares * 512 ≤ at) × (at + p.l * (p.shares * 512) ≤ to) × (to + p.k * 512 ≤ length s₁) × Below q s₁)
      vector-asked =
          let R = room p h (length work) long in
          ((coins-second p h coins coins-long, held_in), (omega arith, omega arith, omega (arith, R.1, u.long, start.long), u.low))

      module _ (x : MaskGen) (s₂ shares : List ℕ) (from : ℕ) (at_x : from ≡ at_x p.k p.l p.shares)
          (v : Rounded p to (image_of p (lent_rest p coins) x (words_of M) (span s₁ at (p.l * (p.shares * 512)))) s₁ s₂) where
        -- the work buffer is as long as before
        still-long : length s₂ ≡ length work
        still-long = v.vector.long ∙ u.long ∙ start.long

        -- what `compress_vector` requires
        pub compress-asked : length shares ≡ (p.shares - 1) * (p.kappa / 8)
            → (1 ≤ p.shares) × (p.shares < 256) × (p.l ≤ 256) × (at + p.l * (p.shares * 512) ≤ from) × (from + p.l * 512 ≤ length s₂) × Below q s₂
            × ((p.shares - 1) * (p.kappa / 8) ≤ length shares)
        compress-asked e =
            let R = room p h (length work) long in (
              h.shares-pos,
              omega (arith, h.shares-low),
              omega (arith, h.columns-low),
              omega arith,
              omega (arith, R.2, still-long),
              v.vector.low,
              omega arith,
            )

        -- what is left where it does, with status r
        pub parts-made : (seed s₃ mask : List ℕ) (y : MaskGen) (found c : Bool) (r : ℕ) → g ≡ mask_start mask
            → found ≡ filled (matrix_of p.k p.l seed) → found ≡ true
            → ((A : List ℕ) → matrix_of p.k p.l seed ≡ some A → matrix_in p (words_of M) ≡ A) → x ≡ (masked_noise p (noise_of p coins) g).next
            → y ≡ skip masks p.shares (p.k * p.rep) x
            → (c ≡ filled (compressed_of p.edition (p.kappa / 8) shares p.l p.shares (span s₂ at (p.l * (p.shares * 512)))))
            × (length s₃ ≡ length s₂) × Below q s₃
            → ((X : List ℕ) → compressed_of p.edition (p.kappa / 8) shares p.l p.shares (span s₂ at (p.l * (p.shares * 512))) ≡ some X
            → Wrote 0 from (p.l * 512) X s₂ s₃) → r ≡ first_no ((10, c) ∷ (20, y.ok) ∷ []) → PartsLeft p mask r work s₃ seed coins shares
        parts-made seed s₃ mask y found c r g-is e there is x-is y-is full wrote told =
            let m = made-parts p (count-power p.shares h.count) coins shares mask seed (words_of M) (lent_rest p coins) s₀ s₁ s₂ s₃ x
            (part-all (p.l * p.rep * p.shares * (p.kappa / 8)) coins) (rw (at-s, g-is) at u) (rw g-is at x-is) held_in.0 (sym e ∙ there) is (rw (at-s, at-t) at v) c
            (rw at-s at full.0) (rw (at-s, at_x) at wrote) y r y-is told in
            ((m.0, full.1 ∙ still-long, full.2), m.1)

-- what is said of the parts of the seeds, said of the seeds
pub three-parts : {a a' b b' c c' : List ℕ} (P : List ℕ → List ℕ → List ℕ → Type 0) → a ≡ a' → b ≡ b' → c ≡ c' → P a b c → P a' b' c'
three-parts {a} {a'} {b} {b'} {c} {c'} P e f h x =
    subst (λ (t : List ℕ). P a' b' t) h (subst (λ (t : List ℕ). P a' t c) f (subst (λ (t : List ℕ). P t b c) e x))
