-- Algorithms 14 and 15 (000, 2.5.3): of a key that key generation made expanding gives shares, and their sums are those of its shares.
use Prim.Native.Nat.{ℕ, zero, suc, ◌-◌, ◌*◌, ◌/◌, ◌≤◌, ◌<◌}
use mathlib.Core.Path.{◌≡◌, refl, sym, ap, ◌∙◌}
use mathlib.Core.List.{List, ◌++◌}
use mathlib.Core.Option.{Option, some}
use native.Mathlib.Decide.{dec_lt}
use native.Mathlib.Omega.{arith}
use lib.ListN.{length}
use Rattle.hash.specs.declared.params.Params.{Params}
use Rattle.hash.proofs.Rows.{Rule}
use Rattle.ring.specs.Words.{add_w, sub_w, Words}
use Rattle.ring.specs.Uniform.{sample_q}
use Rattle.ring.specs.UniformSteps.{poly_of}
use Rattle.ring.proofs.Filled.{held-is, held-words}
use Rattle.ring.proofs.Sums.{words-zeros, words-sub, add_comm, add_assoc, add-sub}
use Rattle.ring.proofs.Draws.{sample_q-words}
use Rattle.hash.specs.Lists.{zeros}
use Rattle.sharing.specs.Blocks.{block, build, sum_of, total, totals}
use Rattle.sharing.specs.Masks.{mask_start}
use Rattle.sharing.proofs.Lists.{block_words, block-left, build-ext, words-build, block-build}
use Rattle.sharing.proofs.Built.{build-none, build-next, sum_one, sum-next, total-is, totals-are}
use Rattle.sharing.proofs.Decode.{words-sum, total-build, totals-build}
use Rattle.signature.specs.Bits.{repack}
use Rattle.signature.specs.Matrix.{build_all}
use Rattle.signature.specs.Compress.{share_header, seeded_share_of, compressed_of}
use Rattle.signature.specs.ExpandedKey.{secret_at, Holds}
use Rattle.signature.specs.Keys.{seed_bytes, full_share, seeded_share, share_at, decompressed, compressed, keygen_bytes, noise_part, share_part, key_shares, keygen_of, expand_of, packed, with_digest, generated_of}
use Rattle.signature.specs.KeygenSteps.{collected}
use Rattle.signature.proofs.Entries.{All, all-some}
use Rattle.signature.proofs.Secrets.{holds_as}
use Rattle.signature.proofs.KeyMade.{Step, collected-step, collected-first, collected-words, key-words, share-part-long, made, expand-made}

-- if all are there, so is the whole
all_there : (n : ℕ) (f : ℕ → Option (List ℕ)) (g : ℕ → List ℕ) → ((i : ℕ) → i < n → f i ≡ some (g i)) → build_all n f ≡ some (build n g)
unfolding build_all
all_there zero f g h = ap some (sym (build-none g))
all_there (suc n) f g h = rw (all_there n f g (λ i k. h i (omega arith)), h n (omega arith), build-next n g)

-- the shares of one polynomial: y in full, then r 0, r 1, ..
abbrev pub shares : List ℕ → (ℕ → List ℕ) → ℕ → List ℕ
shares y r zero = y
shares y r (suc i) = r i

swap : (a b c : List ℕ) → Words 512 a → Words 512 b → Words 512 c → add_w (add_w a b) c ≡ add_w (add_w a c) b
swap a b c ha hb hc = add_assoc a b c ha hb hc ∙ ap (add_w a) (add_comm b c hb hc) ∙ sym (add_assoc a c b ha hc hb)

module _ (r : ℕ → List ℕ) (good : (i : ℕ) → Words 512 (r i)) where
  -- what is added to the full share is added to the sum
  shift : (i : ℕ) (y z : List ℕ) → Words 512 y → Words 512 z → sum_of 512 (suc i) (shares (add_w y z) r) ≡ add_w (sum_of 512 (suc i) (shares y r)) z
  shift zero y z hy hz =
      sum_one 512 (shares (add_w y z) r) ∙ sym (add_assoc (zeros 512) y z (words-zeros 512) hy hz)
      ∙ ap (λ (t : List ℕ). add_w t z) (sym (sum_one 512 (shares y r)))
  shift (suc i) y z hy hz =
      let S : List ℕ = sum_of 512 (suc i) (shares y r) in
      sum-next 512 (suc i) (shares (add_w y z) r)
      ∙ ap (λ (t : List ℕ). add_w t (r i)) (shift i y z hy hz) ∙ swap S z (r i) (words-sum 512 (suc i) (shares y r)) hz (good i)
      ∙ ap (λ (t : List ℕ). add_w t z) (sym (sum-next 512 (suc i) (shares y r)))

  -- a step of Algorithm 14
  turn : (i : ℕ) (x s : List ℕ) (f : ℕ → List ℕ) → Words 512 x → Words 512 s → s ≡ f (suc i)
      → sum_of 512 (suc i) (shares x r) ≡ sum_of 512 (suc i) f → sum_of 512 (suc (suc i)) (shares (add_w (sub_w x (r i)) s) r) ≡ sum_of 512 (suc (suc i)) f
  turn i x s f hx hs e h =
      let u : List ℕ = sub_w x (r i) in
      let hu : Words 512 u = words-sub x (r i) hx in
      let S : List ℕ = sum_of 512 (suc i) (shares u r) in
      let h_s : Words 512 S = words-sum 512 (suc i) (shares u r) in
      sum-next 512 (suc i) (shares (add_w u s) r)
      ∙ ap (λ (t : List ℕ). add_w t (r i)) (shift i u s hu hs) ∙ swap S s (r i) h_s hs (good i)
      ∙ ap (λ (t : List ℕ). add_w t s) (sym (shift i u (r i) hu (good i))
      ∙ ap (λ (t : List ℕ). sum_of 512 (suc i) (shares t r)) (add-sub x (r i) hx (good i)) ∙ h)
      ∙ ap (add_w (sum_of 512 (suc i) f)) e
      ∙ sym (sum-next 512 (suc i) f)

-- share i + 1 of polynomial j, from its seed: zero where it does not fill
abbrev pub from_seed : Params → List ℕ → ℕ → ℕ → List ℕ
from_seed p seeds j i = (poly_of (seeded_share p seeds j (suc i)))

seed-words : (p : Params) (seeds : List ℕ) (j i : ℕ) → Words 512 (from_seed p seeds j i)
unfolding seeded_share_of
seed-words p seeds j i =
    held-words (seeded_share p seeds j (suc i))
    (λ f e. sample_q-words (share_header p.edition (suc i) j) (block (seed_bytes p) (suc i - 1) seeds) f e)

module _ (p : Params) (seeds xs : List ℕ) (j n : ℕ) (w : Words (n * 512) xs) where
  -- the sum of the first i + 1 shares stays
  sum-stays : (i : ℕ) → i < n → (y : List ℕ) → collected p seeds xs j i ≡ some y
      → sum_of 512 (suc i) (shares y (from_seed p seeds j)) ≡ sum_of 512 (suc i) (λ (m : ℕ). block 512 m xs)
  sum-stays zero h y e =
      sum_one 512 (shares y (from_seed p seeds j)) ∙ ap (add_w (zeros 512)) (collected-first p seeds xs j y e)
      ∙ sym (sum_one 512 (λ (m : ℕ). block 512 m xs))
  sum-stays (suc i) h y e =
      let t = collected-step p seeds xs j i y e in
      let k : y ≡ add_w (sub_w t.x (from_seed p seeds j i)) (block 512 (suc i) xs) =
      t.is ∙ ap (λ (z : List ℕ). add_w (sub_w t.x z) (block 512 (suc i) xs)) (sym (held-is (seeded_share p seeds j (suc i)) t.r t.right)) in
      ap (λ (z : List ℕ). sum_of 512 (suc (suc i)) (shares z (from_seed p seeds j))) k
      ∙ turn (from_seed p seeds j) (seed-words p seeds j) i t.x (block 512 (suc i) xs) (λ (m : ℕ). block 512 m xs)
      (collected-words p seeds xs j n w i (omega arith) t.x t.left) (block_words n (suc i) xs w h) refl (sum-stays i (omega arith) t.x t.left)

  -- and every share seed up to there fills
  seeds-fill : (i : ℕ) (y : List ℕ) → collected p seeds xs j i ≡ some y → (m : ℕ) → m < i → seeded_share p seeds j (suc m) ≡ some (from_seed p seeds j m)
  seeds-fill zero y e m h = absurd (omega (arith, h))
  seeds-fill (suc i) y e m h =
      let t = collected-step p seeds xs j i y e in
      go t (dec_lt m i) (seeds-fill i t.x t.left m)
    where
      go : Step (block 512 (suc i) xs) (collected p seeds xs j i) (seeded_share p seeds j (suc i)) y → Dec (m < i)
          → (m < i → seeded_share p seeds j (suc m) ≡ some (from_seed p seeds j m)) → seeded_share p seeds j (suc m) ≡ some (from_seed p seeds j m)
      go t (yes k) f = f k
      go t (no k) f =
          let s : m ≡ i = omega arith in
          rw s (t.right ∙ ap some (sym (held-is (seeded_share p seeds j (suc i)) t.r t.right)))

-- the seeds Z, the shares s of which x is the full one, and x read again behind the seeds
module _ (p : Params) (Z X s x : List ℕ) (h : 1 ≤ p.shares) (w : Words (p.l * (p.shares * 512)) s)
    (long : length Z ≡ (p.shares - 1) * (p.kappa / 8)) (e : compressed p Z s ≡ some x) (full : full_share p (Z ++ X) ≡ x) where
  seeded-same : (j i : ℕ) → suc i < p.shares → seeded_share p (Z ++ X) j (suc i) ≡ seeded_share p Z j (suc i)
  unfolding seeded_share_of
  seeded-same j i k = ap (sample_q (share_header p.edition (suc i) j)) (block-left (p.kappa / 8) (p.shares - 1) (suc i - 1) Z X long (omega arith))

  given : ℕ → List ℕ
  given j = block (p.shares * 512) j s

  given-words : (j : ℕ) → j < p.l → Words (p.shares * 512) (given j)
  unfolding given
  given-words j k = block_words p.l j s w k

  last : ℕ → Option (List ℕ)
  last j = collected p Z (given j) j (p.shares - 1)

  all-last : All p.l last x
  unfolding last given compressed_of
  all-last = all-some p.l last x e

  full_poly_at : ℕ → List ℕ
  full_poly_at j = (poly_of (last j))

  last-is : (j : ℕ) → j < p.l → collected p Z (given j) j (p.shares - 1) ≡ some (full_poly_at j)
  unfolding last full_poly_at
  last-is j k = all-last.here j k

  full-words : (j : ℕ) → j < p.l → Words 512 (full_poly_at j)
  full-words j k = collected-words p Z (given j) j p.shares (given-words j k) (p.shares - 1) (omega arith) (full_poly_at j) (last-is j k)

  full_block : (j : ℕ) → j < p.l → block 512 j x ≡ full_poly_at j
  unfolding full_poly_at
  full_block j k = ap (block 512 j) all-last.whole ∙ block-build 512 p.l j full_poly_at (λ i g. (full-words i g).long) k

  sharing : ℕ → ℕ → List ℕ
  sharing j = shares (full_poly_at j) (from_seed p Z j)

  share-there : (j : ℕ) → j < p.l → (i : ℕ) → i < p.shares → share_at p (Z ++ X) j i ≡ some (sharing j i)
  unfolding share_at sharing
  share-there j k zero g = ap some (ap (block 512 j) full ∙ full_block j k)
  share-there j k (suc i) g =
      seeded-same j i g ∙ seeds-fill p Z (given j) j p.shares (given-words j k) (p.shares - 1) (full_poly_at j) (last-is j k) i (omega arith)

  sharing-words : (j : ℕ) → j < p.l → (i : ℕ) → i < p.shares → Words 512 (sharing j i)
  unfolding sharing
  sharing-words j k zero g = full-words j k
  sharing-words j k (suc i) g = seed-words p Z j i

  pub expanded : List ℕ
  expanded = build p.l (λ (j : ℕ). build p.shares (sharing j))

  pub expand-there : decompressed p (Z ++ X) ≡ some expanded
  unfolding decompressed expanded
  expand-there =
      all_there p.l (λ (j : ℕ). build_all p.shares (share_at p (Z ++ X) j)) (λ (j : ℕ). build p.shares (sharing j))
      (λ j k. all_there p.shares (share_at p (Z ++ X) j) (sharing j) (share-there j k))

  pub expansion-words : Words (p.l * (p.shares * 512)) expanded
  unfolding expanded
  expansion-words = words-build p.l (λ (j : ℕ). build p.shares (sharing j)) (λ j k. words-build p.shares (sharing j) (sharing-words j k))

  total-same : (j : ℕ) → j < p.l → total p.shares (build p.shares (sharing j)) ≡ total p.shares (given j)
  unfolding sharing
  total-same j k =
      let n : suc (p.shares - 1) ≡ p.shares = omega arith in
      total-build p.shares (sharing j) (λ i g. (sharing-words j k i g).long)
      ∙ ap (λ (m : ℕ). sum_of 512 m (sharing j)) (sym n)
      ∙ sum-stays p Z (given j) j p.shares (given-words j k) (p.shares - 1) (omega arith) (full_poly_at j) (last-is j k)
      ∙ ap (λ (m : ℕ). sum_of 512 m (λ (i : ℕ). block 512 i (given j))) n
      ∙ sym (total-is p.shares (given j))

  pub secrets-same : totals p.l p.shares expanded ≡ totals p.l p.shares s
  unfolding expanded given
  secrets-same =
      totals-build p.l p.shares (λ (j : ℕ). build p.shares (sharing j)) (λ j k. (words-build p.shares (sharing j) (sharing-words j k)).long)
      ∙ build-ext p.l (λ (j : ℕ). total p.shares (build p.shares (sharing j))) (λ (j : ℕ). total p.shares (given j)) total-same
      ∙ sym (totals-are p.l p.shares s)

-- of a key that key generation made: it gives shares, and with them the bytes and the secret that the key was made of
pub record Expansion (p : Params) (seeds mask key : List ℕ) : Type 0 where
  pub share_words : List ℕ
  pub is : expand_of p key ≡ some share_words
  pub holds : Holds p (with_digest p (packed key)) (secret_at p.shares (generated_of p seeds mask key)) (record { bytes = with_digest p (packed key); words = share_words })

pub expansion : (p : Params) (seeds mask key : List ℕ) → Rule p → 1 ≤ p.shares → length seeds ≡ keygen_bytes p
    → keygen_of p seeds mask ≡ some key → Expansion p seeds mask key
unfolding expand_of
expansion p seeds mask key r h l e =
    let m = made p seeds mask key e in
    let k = expand-made p r h seeds mask key l m in
    let Z = share_part p seeds in
    let X = repack 49 8 (p.l * 3136) m.x in
    let s = key_shares p (noise_part p seeds) (mask_start mask) in
    let w = key-words p (noise_part p seeds) (mask_start mask) in
    let z = share-part-long p seeds l in
    let f : full_share p (share_part p seeds ++ repack 49 8 (p.l * 3136) m.x) ≡ m.x = ap (full_share p) (sym k.part) ∙ k.full in
    record {
      share_words = expanded p Z X s m.x h w z m.share-is f;
      is = ap (decompressed p) k.part ∙ expand-there p Z X s m.x h w z m.share-is f;
      holds =
          holds_as p (generated_of p seeds mask key) (record { bytes = with_digest p (packed key); words = expanded p Z X s m.x h w z m.share-is f }) w
          (expansion-words p Z X s m.x h w z m.share-is f) refl (secrets-same p Z X s m.x h w z m.share-is f);
    }
