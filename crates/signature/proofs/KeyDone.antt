-- The ends of key generation behind its checks: the key of both parts, or 10 or 20.
use mathlib.Core.Path.{◌≡◌, refl, sym, ap, ◌∙◌}
use mathlib.Core.Bool.{Bool, true, false}
use mathlib.Core.List.{List, [], ◌∷◌, ◌++◌}
use mathlib.Core.Option.{Option, some, none}
use Prim.Native.Nat.{ℕ, ◌+◌, ◌-◌, ◌*◌, ◌/◌, ◌^◌, ◌≤◌, ◌<◌}
use native.Mathlib.Nat.{mul-le-mul}
use native.Mathlib.Omega.{arith}
use lib.ListN.{length, take, drop}
use Rattle.hash.specs.declared.params.Params.{Params}
use Rattle.ring.specs.UniformSteps.{poly_of}
use Rattle.hash.specs.Lists.{zeros}
use Rattle.sharing.specs.Region.{span}
use Rattle.sharing.proofs.Regions.{length-span}
use Rattle.signature.specs.Bits.{repack}
use Rattle.sharing.specs.Masks.{mask_start}
use Rattle.signature.specs.Checks.{first_no, both, work_words}
use Rattle.signature.specs.Keys.{keygen_bytes, vk_seed, noise_part, share_part, keygen_of, keygen_masks_fill, public_key_of}
use Rattle.signature.specs.KeygenSteps.{Generated, keygen_fills, key_of}
use Rattle.signature.specs.KeyCalls.{keygen_leaves}
use Rattle.signature.specs.Layout.{at_t}
use Rattle.signature.specs.Outcome.{outcome}
use Rattle.signature.specs.Matrix.{matrix, filled}
use Rattle.signature.specs.Table.{Tabled}
use Rattle.ring.proofs.Checks.{asked, both_true, both_yes, left-no, right-no}
use Rattle.ring.proofs.Filled.{some-filled, none_filled, filled-some}
use Rattle.signature.proofs.KeyEnds.{keygen_last}
use Rattle.signature.proofs.KeyMade.{full_of, vector_of, no-matrix, no-share, both-there}
use Rattle.signature.proofs.KeyBytes.{key-bytes}
use Rattle.signature.proofs.Sizes.{room, seed-long, share_part_lem, share-long}

module _ (p : Params) (seeds mask : List ℕ) where
  -- there is a key where matrix and share seeds fill
  key-there : (a b k : Option (List ℕ)) → matrix p (vk_seed p seeds) ≡ a → full_of p seeds mask ≡ b → keygen_of p seeds mask ≡ k
      → both (filled a) (filled b) ≡ filled k
  key-there none b k ha hb hk = left-no (filled b) (none_filled {A = ℕ} none refl) ∙ sym (none_filled k (sym hk ∙ no-matrix p seeds mask ha))
  key-there (some A) none k ha hb hk =
      right-no (filled (some A)) (none_filled {A = ℕ} none refl) ∙ sym (none_filled k (sym hk ∙ no-share p seeds mask A ha hb))
  key-there (some A) (some x) k ha hb hk =
      both_yes (some-filled (some A) A refl) (some-filled (some x) x refl) ∙ sym (some-filled k _ (sym hk ∙ both-there p seeds mask A x ha hb))

  -- n is the first no of what is drawn: 10, 20, or 0
  module _ (out work : List ℕ) (n : ℕ) (is : n ≡ first_no (keygen_fills p (vk_seed p seeds) (noise_part p seeds) (share_part p seeds) mask)) where
    status-is : n ≡ first_no (keygen_last p seeds mask)
    unfolding keygen_masks_fill
    status-is =
        is ∙ ap (λ (b : Bool). first_no ((10, b) ∷ (20, keygen_masks_fill p seeds mask) ∷ []))
        (key-there (matrix p (vk_seed p seeds)) (full_of p seeds mask) (keygen_of p seeds mask) refl refl refl)

    late : (a b : Bool) → n ≡ first_no ((10, a) ∷ (20, b) ∷ []) → (n ≡ 0 → ⊥) → outcome n out (zeros (length work)) ≡ keygen_leaves n p seeds mask out work
    late true true e f = absurd (f e)
    late true false e f = rw e refl
    late false b e f = rw e refl

    pub keygen-none : (w : List ℕ) → (n ≡ 0 → ⊥) → length w ≡ length work
        → outcome n out (zeros (length w)) ≡ keygen_leaves (first_no (keygen_last p seeds mask)) p seeds mask out work
    keygen-none w f l =
        ap (λ (m : ℕ). outcome n out (zeros m)) l
        ∙ late (filled (keygen_of p seeds mask)) (keygen_masks_fill p seeds mask) status-is f
        ∙ ap (λ (m : ℕ). keygen_leaves m p seeds mask out work) status-is

    pub keygen-some : (k w : List ℕ) → n ≡ 0
        → ((A x : List ℕ) → matrix p (vk_seed p seeds) ≡ some A → full_of p seeds mask ≡ some x
        → Generated p (noise_part p seeds) (mask_start mask) A x w)
        → k ≡ key_of p seeds w → length w ≡ length work
        → outcome 0 k (zeros (length w)) ≡ keygen_leaves (first_no (keygen_last p seeds mask)) p seeds mask out work
    unfolding key_of
    keygen-some k w f parts e l =
        let a = asked 9 (both (filled (matrix p (vk_seed p seeds))) (filled (full_of p seeds mask))) _ (sym is ∙ f) in
        let b = both_true (filled (matrix p (vk_seed p seeds))) (filled (full_of p seeds mask)) a.0 in
        let A = (poly_of (matrix p (vk_seed p seeds))) in
        let x = (poly_of (full_of p seeds mask)) in
        let h_a = filled-some (matrix p (vk_seed p seeds)) b.0 in
        let hx = filled-some (full_of p seeds mask) b.1 in
        let s = parts A x h_a hx in
        let key : k ≡ public_key_of p (vk_seed p seeds) (vector_of p seeds mask A) ++ (share_part p seeds ++ repack 49 8 (p.l * 3136) x) =
        e ∙ rw (s.vector, s.full) (sym (key-bytes p (vk_seed p seeds) (vector_of p seeds mask A) (share_part p seeds) x)) in
        let left : outcome 0 k (zeros (length w)) ≡ keygen_leaves 0 p seeds mask out work = rw (both-there p seeds mask A x h_a hx, key, l) in
        left ∙ ap (λ (m : ℕ). keygen_leaves m p seeds mask out work) (sym f ∙ status-is)

pub key-long : (p : Params) → Tabled p → p.sk_bytes ≡ p.kappa / 8 + p.k * 448 + ((p.shares - 1) * (p.kappa / 8) + p.l * 3136)
key-long p h = omega (arith, h.vk, h.sk)

-- the key's four parts, as slices of the seeds and of the work buffer
module _ (p : Params) (h : Tabled p) (seeds work : List ℕ) (w : length work ≡ work_words p) (s : length seeds ≡ keygen_bytes p) where
  abbrev a : ℕ
  a = at_t p.l p.shares

  abbrev coins_end : ℕ
  coins_end = p.kappa / 8 + (p.l + p.k) * p.shares * p.rep * (p.kappa / 8)

  abbrev seed_part : List ℕ
  seed_part = take (p.kappa / 8 - 0) seeds

  abbrev vector_part : List ℕ
  vector_part = take (a + p.k * 512 - a) (drop a work)

  abbrev shares_part : List ℕ
  shares_part = take (length seeds - coins_end) (drop coins_end seeds)

  abbrev full_part : List ℕ
  full_part = take (a + p.k * 512 + p.l * 512 - (a + p.k * 512)) (drop (a + p.k * 512) work)

  from_start : seed_part ≡ take (p.kappa / 8) seeds
  from_start = let e : p.kappa / 8 - 0 ≡ p.kappa / 8 = omega arith in ap (λ (m : ℕ). take m seeds) e

  exactly : (b n : ℕ) → take (b + n - b) (drop b work) ≡ span work b n
  exactly b n = let e : b + n - b ≡ n = omega arith in ap (λ (m : ℕ). take m (drop b work)) e

  pub part-lengths : (out : ℕ) → out ≡ p.kappa / 8 + p.k * 448 + ((p.shares - 1) * (p.kappa / 8) + p.l * 3136)
      → ((length vector_part ≡ p.k * 512) × (length full_part ≡ p.l * 512))
      × ((out ≡ length seed_part + p.k * 448 + (length shares_part + p.l * 3136)) × (out < 2 ^ 32))
  part-lengths out o =
      let r = room p h (length work) w in
      let m = exactly a (p.k * 512) in
      let n = exactly (a + p.k * 512) (p.l * 512) in
      ((ap length m ∙ length-span work a (p.k * 512) r.1, ap length n ∙ length-span work (a + p.k * 512) (p.l * 512) r.2), (fits, low))
    where
      fits : out ≡ length seed_part + p.k * 448 + (length shares_part + p.l * 3136)
      fits = rw (from_start, ← seed-long p h seeds s, share_part_lem p h seeds s, share-long p h seeds s) o

      low : out < 2 ^ 32
      low =
          let x : p.shares - 1 ≤ 64 = omega (arith, h.shares-low) in
          let y : p.kappa / 8 ≤ 32 = omega (arith, h.kappa-low) in
          omega (arith, mul-le-mul x y, y, h.rows-low, h.columns-low, o)

  pub parts-key : (seed_part ++ repack 7 8 (p.k * 448) vector_part) ++ (shares_part ++ repack 49 8 (p.l * 3136) full_part) ≡ key_of p seeds work
  unfolding key_of vk_seed
  parts-key = rw (from_start, exactly a (p.k * 512), exactly (a + p.k * 512) (p.l * 512), share_part_lem p h seeds s)
