-- Keys that key generation made (000, 2.5.2 and 2.5.3): what is read of them is what was written.
use Prim.Native.Nat.{ℕ, zero, suc, ◌+◌, ◌-◌, ◌*◌, ◌/◌, ◌^◌, ◌≤◌, ◌<◌}
use mathlib.Core.Path.{◌≡◌, refl, sym, ap, ◌∙◌}
use mathlib.Core.List.{List, ◌++◌, append_assoc}
use mathlib.Core.Option.{Option, some, none}
use native.Mathlib.Omega.{arith}
use lib.Dec.{lit<}
use lib.ListN.{length, get_or, take, drop, length-append, length-drop}
use lib.Seq.{take_at, drop_at, length-take-le}
use Rattle.hash.specs.declared.params.Params.{Params}
use Rattle.hash.proofs.Rows.{Rule}
use Rattle.ring.specs.Words.{q, add_w, sub_w, Below, Residues, Words}
use Rattle.ring.specs.Transform.{ntt}
use Rattle.ring.specs.UniformSteps.{poly_of}
use Rattle.ring.proofs.Sums.{below_at, words-add, words-sub}
use Rattle.ring.proofs.Filled.{some_same, none-some}
use Rattle.ring.proofs.Mapped.{rounded-residues}
use Rattle.ring.proofs.Theorems.{ntt-words}
use Rattle.sharing.specs.Blocks.{block}
use Rattle.sharing.specs.Masks.{mask_start}
use Rattle.sharing.specs.Noise.{noise_bytes}
use Rattle.sharing.specs.declared.masks.MaskGen.{MaskGen}
use Rattle.sharing.proofs.Lists.{block_words, words-build}
use Rattle.sharing.proofs.Built.{each-made}
use Rattle.sharing.proofs.Decode.{totals-words}
use Rattle.signature.specs.Bits.{repack}
use Rattle.signature.specs.Compress.{exchanged, collected_of, compressed_of}
use Rattle.signature.specs.Matrix.{matrix}
use Rattle.signature.specs.Keys.{vk_seed, vk_vector, public_key_of, full_share, seeded_share, compressed, keygen_bytes, noise_part, share_part, key_shares, key_vector, keygen_of}
use Rattle.signature.specs.KeygenSteps.{collected, full_share_of}
use Rattle.signature.proofs.Packing.{length-repack, repack-trip}
use Rattle.signature.proofs.Entries.{all-some}

-- ---- whether there is a key, by matrix and share

-- the share that is written in full, if the share seeds fill
abbrev pub full_of : Params → List ℕ → List ℕ → Option (List ℕ)
full_of p seeds mask = full_share_of p (share_part p seeds) (noise_part p seeds) mask

abbrev pub vector_of : Params → List ℕ → List ℕ → List ℕ → List ℕ
vector_of p seeds mask A = key_vector p (noise_part p seeds) (mask_start mask) A

module _ (p : Params) (seeds mask : List ℕ) where
  pub no-matrix : matrix p (vk_seed p seeds) ≡ none → keygen_of p seeds mask ≡ none
  unfolding keygen_of
  no-matrix h = rw h

  pub no-share : (A : List ℕ) → matrix p (vk_seed p seeds) ≡ some A → full_of p seeds mask ≡ none → keygen_of p seeds mask ≡ none
  unfolding keygen_of
  no-share A h k = rw (h, k)

  pub both-there : (A x : List ℕ) → matrix p (vk_seed p seeds) ≡ some A → full_of p seeds mask ≡ some x
      → keygen_of p seeds mask ≡ some (public_key_of p (vk_seed p seeds) (vector_of p seeds mask A) ++ (share_part p seeds ++ repack 49 8 (p.l * 3136) x))
  unfolding keygen_of
  both-there A x h k = rw (h, k)

pub record Made (p : Params) (seeds mask key : List ℕ) : Type 0 where
  pub A : List ℕ
  pub x : List ℕ
  pub matrix-is : matrix p (vk_seed p seeds) ≡ some A
  pub share-is : full_of p seeds mask ≡ some x
  pub key-is : key ≡ public_key_of p (vk_seed p seeds) (vector_of p seeds mask A) ++ (share_part p seeds ++ repack 49 8 (p.l * 3136) x)

pub made : (p : Params) (seeds mask key : List ℕ) → keygen_of p seeds mask ≡ some key → Made p seeds mask key
made p seeds mask key e = go (matrix p (vk_seed p seeds)) (full_of p seeds mask) refl refl
  where
    go : (a b : Option (List ℕ)) → matrix p (vk_seed p seeds) ≡ a → full_of p seeds mask ≡ b → Made p seeds mask key
    go none b h k = absurd (none-some key (sym (no-matrix p seeds mask h) ∙ e))
    go (some A) none h k = absurd (none-some key (sym (no-share p seeds mask A h k) ∙ e))
    go (some A) (some x) h k =
        record { A = A; x = x; matrix-is = h; share-is = k; key-is = some_same key _ (sym e ∙ both-there p seeds mask A x h k) }

-- ---- t is k polynomials of coefficients below 125

pub vector-words : (p : Params) (coins : List ℕ) (g : MaskGen) (A : List ℕ) → Residues 125 (p.k * 512) (key_vector p coins g A)
unfolding key_vector
vector-words p coins g A = rounded-residues 42 125 (p.k * 512) (lit< tt) _ (totals-words p.k p.shares _).long

-- ---- the full share is l polynomials of words below q

pub key-words : (p : Params) (coins : List ℕ) (g : MaskGen) → Words (p.l * (p.shares * 512)) (key_shares p coins g)
unfolding key_shares
key-words p coins g = words-build p.l _ (λ i h. each-made p.shares ntt ntt-words _)

-- a step of Algorithm 14 that is there
pub record Step (s : List ℕ) (a b : Option (List ℕ)) (y : List ℕ) : Type 0 where
  pub x : List ℕ
  pub r : List ℕ
  pub left : a ≡ some x
  pub right : b ≡ some r
  pub is : y ≡ add_w (sub_w x r) s

step : (s : List ℕ) (a b : Option (List ℕ)) (y : List ℕ) → exchanged s a b ≡ some y → Step s a b y
step s none b y e = absurd (none-some y e)
step s (some x) none y e = absurd (none-some y e)
step s (some x) (some r) y e = record { x = x; r = r; left = refl; right = refl; is = some_same y _ (sym e) }

module _ (p : Params) (seeds xs : List ℕ) (j : ℕ) where
  pub collected-step : (i : ℕ) (y : List ℕ) → collected p seeds xs j (suc i) ≡ some y
      → Step (block 512 (suc i) xs) (collected p seeds xs j i) (seeded_share p seeds j (suc i)) y
  unfolding collected_of
  collected-step i y e = step (block 512 (suc i) xs) (collected p seeds xs j i) (seeded_share p seeds j (suc i)) y e

  pub collected-first : (y : List ℕ) → collected p seeds xs j 0 ≡ some y → y ≡ block 512 0 xs
  unfolding collected_of
  collected-first y e = some_same y _ (sym e)

  pub collected-words : (n : ℕ) → Words (n * 512) xs → (i : ℕ) → i < n → (y : List ℕ) → collected p seeds xs j i ≡ some y → Words 512 y
  collected-words n w zero h y e = rw (collected-first y e) (block_words n 0 xs w h)
  collected-words n w (suc i) h y e =
      let t = collected-step i y e in
      let u = collected-words n w i (omega arith) t.x t.left in
      rw t.is (words-add (sub_w t.x t.r) (block 512 (suc i) xs) (words-sub t.x t.r u))

pub compressed-words : (p : Params) (seeds s x : List ℕ) → 1 ≤ p.shares → Words (p.l * (p.shares * 512)) s → compressed p seeds s ≡ some x
    → Words (p.l * 512) x
unfolding compressed_of
compressed-words p seeds s x h w e =
    let d = p.shares in
    let f : ℕ → Option (List ℕ) = λ (j : ℕ). collected p seeds (block (d * 512) j s) j (d - 1) in
    let a = all-some p.l f x e in
    rw a.whole (words-build p.l (λ (j : ℕ). (poly_of (f j)))
    (λ j k. collected-words p seeds (block (d * 512) j s) j d (block_words p.l j s w k) (d - 1) (omega arith) (poly_of (f j)) (a.here j k)))

-- ---- what is read of a key

pub record KeyParts (p : Params) (seeds mask key A x : List ℕ) : Type 0 where
  pub long : length key ≡ p.sk_bytes
  pub front : take p.vk_bytes key ≡ public_key_of p (vk_seed p seeds) (vector_of p seeds mask A)
  pub seed : vk_seed p key ≡ vk_seed p seeds
  pub vector : vk_vector p key ≡ vector_of p seeds mask A
  pub part : drop p.vk_bytes key ≡ share_part p seeds ++ repack 49 8 (p.l * 3136) x
  pub full : full_share p (drop p.vk_bytes key) ≡ x
  pub words : Words (p.l * 512) x

low-lt : (m w : ℕ) (xs : List ℕ) → 0 < m → m ≤ 2 ^ w → Below m xs → (i : ℕ) → get_or xs i 0 < 2 ^ w
low-lt m w xs z h b i = omega (arith, below_at m z xs b i)

pub share-part-long : (p : Params) (seeds : List ℕ) → length seeds ≡ keygen_bytes p → length (share_part p seeds) ≡ (p.shares - 1) * (p.kappa / 8)
share-part-long p seeds l = length-drop (p.kappa / 8 + noise_bytes p) seeds ∙ omega arith

module _ (p : Params) (r : Rule p) (some-shares : 1 ≤ p.shares) (seeds mask key : List ℕ)
    (l : length seeds ≡ keygen_bytes p) (m : Made p seeds mask key) where
  S : List ℕ
  S = vk_seed p seeds

  T : List ℕ
  T = vector_of p seeds mask m.A

  U : List ℕ
  U = repack 7 8 (p.k * 448) T

  Z : List ℕ
  Z = share_part p seeds

  X : List ℕ
  X = repack 49 8 (p.l * 3136) m.x

  seed-long : length S ≡ p.kappa / 8
  unfolding S vk_seed
  seed-long = length-take-le (p.kappa / 8) seeds (omega arith)

  U-long : length U ≡ p.k * 448
  unfolding U
  U-long = length-repack 7 8 (p.k * 448) T

  Z-long : length Z ≡ (p.shares - 1) * (p.kappa / 8)
  unfolding Z
  Z-long = share-part-long p seeds l

  front_long : length (S ++ U) ≡ p.vk_bytes
  front_long = length-append S U ∙ omega (arith, seed-long, U-long, r.vk)

  T-words : Residues 125 (p.k * 512) T
  unfolding T
  T-words = vector-words p (noise_part p seeds) (mask_start mask) m.A

  x-words : Words (p.l * 512) m.x
  x-words =
      compressed-words p (share_part p seeds) (key_shares p (noise_part p seeds) (mask_start mask)) m.x some-shares
      (key-words p (noise_part p seeds) (mask_start mask)) m.share-is

  X-long : length X ≡ p.l * 3136
  unfolding X
  X-long = length-repack 49 8 (p.l * 3136) m.x

  key-is : key ≡ (S ++ U) ++ (Z ++ X)
  unfolding S T U Z X public_key_of
  key-is = m.key-is

  seed-first : key ≡ S ++ (U ++ (Z ++ X))
  seed-first = key-is ∙ append_assoc S U (Z ++ X)

  part-is : drop p.vk_bytes key ≡ Z ++ X
  part-is = ap (drop p.vk_bytes) key-is ∙ drop_at (S ++ U) (Z ++ X) p.vk_bytes front_long

  T_back : repack 8 7 (p.k * 512) U ≡ T
  unfolding U
  T_back = repack-trip 7 (p.k * 448) (p.k * 512) T (low-lt 125 7 T (lit< tt) (omega arith) T-words.low) (omega arith) (sym T-words.long)

  X-back : repack 8 49 (p.l * 512) X ≡ m.x
  unfolding X
  X-back = repack-trip 49 (p.l * 3136) (p.l * 512) m.x (low-lt q 49 m.x (lit< tt) (omega arith) x-words.low) (omega arith) (sym x-words.long)

  vector-is : vk_vector p key ≡ T
  unfolding vk_vector
  vector-is =
      ap (λ (y : List ℕ). repack 8 7 (p.k * 512) (take (p.k * 448) y))
      (ap (drop (p.kappa / 8)) seed-first ∙ drop_at S (U ++ (Z ++ X)) (p.kappa / 8) seed-long)
      ∙ ap (repack 8 7 (p.k * 512)) (take_at U (Z ++ X) (p.k * 448) U-long) ∙ T_back

  seed-is : vk_seed p key ≡ S
  unfolding vk_seed
  seed-is = ap (take (p.kappa / 8)) seed-first ∙ take_at S (U ++ (Z ++ X)) (p.kappa / 8) seed-long

  full_is : full_share p (drop p.vk_bytes key) ≡ m.x
  unfolding full_share
  full_is =
      ap (λ (y : List ℕ). repack 8 49 (p.l * 512) (drop ((p.shares - 1) * (p.kappa / 8)) y)) part-is
      ∙ ap (repack 8 49 (p.l * 512)) (drop_at Z X ((p.shares - 1) * (p.kappa / 8)) Z-long) ∙ X-back

  pub expand-made : KeyParts p seeds mask key m.A m.x
  unfolding S T U Z X public_key_of
  expand-made =
      record {
        long = ap length key-is ∙ length-append (S ++ U) (Z ++ X) ∙ omega (arith, front_long, length-append Z X, Z-long, X-long, r.sk);
        front = ap (take p.vk_bytes) key-is ∙ take_at (S ++ U) (Z ++ X) p.vk_bytes front_long;
        seed = seed-is;
        vector = vector-is;
        part = part-is;
        full = full_is;
        words = x-words;
      }
