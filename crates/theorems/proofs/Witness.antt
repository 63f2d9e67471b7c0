-- The hypotheses of demand 3 can be met: the unit that is laid out for what is wanted is sound, and has that secret and those noise totals.
use mathlib.Core.Path.{◌≡◌, refl, sym, ap, ◌∙◌, subst}
use mathlib.Core.Bool.{Bool, true, false}
use mathlib.Core.List.{List, ◌++◌}
use Prim.Native.Nat.{ℕ, zero, suc, ◌+◌, ◌*◌, ◌%◌, ◌≤◌, ◌<◌}
use native.Mathlib.Nat.{mod-lt}
use native.Mathlib.Omega.{arith}
use borrow.Author.Tests.{eq-eqb, ne_eqb}
use lib.Dec.{eqb, lit<}
use lib.ListN.{length, get_or}
use Rattle.hash.specs.Lists.{pick}
use Rattle.hash.specs.Params.{ShareCount, lookup_of}
use Rattle.hash.specs.declared.params.Params.{Params}
use Rattle.std.specs.Prelude.{Result, Ok}
use Rattle.hash.specs.declared.params.Unknown.{Unknown}
use Rattle.hash.proofs.Rows.{count_low, found}
use Rattle.hash.proofs.Table.{get_d-table}
use Rattle.ring.specs.Words.{q, all_below, Words}
use Rattle.ring.proofs.Places.{residues-table}
use Rattle.sharing.specs.Blocks.{build, sum_n}
use Rattle.sharing.proofs.Built.{zeros-at, sum_n-next, sum_n-one}
use Rattle.sharing.proofs.Decode.{sum_n-ext}
use Rattle.ring.proofs.Sums.{words-zeros}
use Rattle.sharing.proofs.Lists.{block_at, inside, words-build, block-build}
use Rattle.signature.specs.Checks.{work_words}
use Rattle.signature.specs.Digest.{digest_for}
use Rattle.signature.specs.ExpandedKey.{ExpandedKey, vk_in, digest_in, share_word_at, secret_at}
use Rattle.signature.specs.Outcome.{found_in}
use Rattle.theorems.specs.Unit.{UnitCall, record_of, TrueDigest, lent_at, noise_total_at, Fits, Sound, Alike, AlikeTrue, SameSecret, EqualTotals}
use Rattle.theorems.specs.Witness.{Wanted, Has, all_or_zero, in_first, laid_for, laid, had_by}
use Rattle.ring.proofs.Checks.{below-yes}
use Rattle.hash.proofs.Sets.{set_of, Beside, beside}
use Rattle.signature.proofs.Digests.{behind-true}
use Rattle.theorems.proofs.ShareCount.{k-same, l-same, vk-same, true_same}
use Rattle.theorems.proofs.Agree.{of-one-set}

-- ---- a polynomial in share 0

-- place x of block i of a built list
built-at : (w n : ℕ) (f : ℕ → List ℕ) → ((i : ℕ) → i < n → length (f i) ≡ w) → (i x : ℕ) → i < n → x < w
    → get_or (build n f) (i * w + x) 0 ≡ get_or (f i) x 0
built-at w n f h i x hi hx =
    sym (block_at w i (build n f) x hx) ∙ ap (λ (xs : List ℕ). get_or xs x 0) (block-build w n i f h hi)

module _ (f : ℕ → ℕ) where
  share-words : (b : Bool) → Words 512 (all_or_zero b f)
  unfolding all_or_zero
  share-words true = residues-table (λ (x : ℕ). f x % q) (λ (x : ℕ). mod-lt (f x) (lit< tt)) 512
  share-words false = words-zeros 512

  share-at : (b : Bool) (x : ℕ) → x < 512 → get_or (all_or_zero b f) x 0 ≡ pick b (f x % q) 0
  unfolding all_or_zero
  share-at true x h = get_d-table (λ (x : ℕ). f x % q) 512 x h
  share-at false x h = zeros-at 512 x h

  in-first-words : (d : ℕ) → Words (d * 512) (in_first d f)
  unfolding in_first
  in-first-words d = words-build d _ (λ (j : ℕ) (h : j < d). share-words _)

  in-first-at : (d j x : ℕ) → j < d → x < 512 → get_or (in_first d f) (j * 512 + x) 0 ≡ pick (eqb j 0) (f x % q) 0
  unfolding in_first
  in-first-at d j x hj hx = built-at 512 d _ (λ (j : ℕ) (h : j < d). (share-words _).long) j x hj hx ∙ share-at (eqb j 0) x hx

-- the sum over one share and more of what stands in share 0 only
sum_first : (n m : ℕ) → sum_n (suc n) (λ (j : ℕ). pick (eqb j 0) m 0) ≡ m
sum_first zero m = sum_n-one (λ (j : ℕ). pick (eqb j 0) m 0)
sum_first (suc n) m =
    let e : eqb (suc n) 0 ≡ false = ne_eqb (suc n) 0 (λ (z : suc n ≡ 0). omega arith) in
    let s : sum_n (suc n) (λ (j : ℕ). pick (eqb j 0) m 0) ≡ m = sum_first n m in
    sum_n-next (suc n) (λ (j : ℕ). pick (eqb j 0) m 0)
    ∙ ap (λ (b : Bool). sum_n (suc n) (λ (j : ℕ). pick (eqb j 0) m 0) + pick b m 0) e ∙ omega arith

sum_is : (d m : ℕ) → 1 ≤ d → sum_n d (λ (j : ℕ). pick (eqb j 0) (m % q) 0) % q ≡ m % q
sum_is zero m h = absurd (omega arith)
sum_is (suc n) m h =
    let s : sum_n (suc n) (λ (j : ℕ). pick (eqb j 0) (m % q) 0) ≡ m % q = sum_first n (m % q) in
    omega arith

-- ---- the unit of the record p that was found

module _ (w : Wanted) (d : ℕ) (p : Params) (is : lookup_of w.set d w.edition ≡ Ok p) where
  abbrev v : UnitCall
  v = laid_for p d w

  abbrev m : ℕ
  m = p.l + p.k

  shares-are : p.shares ≡ d
  shares-are = (found w.set d w.edition p is).shares-are

  laid-is : laid d w ≡ laid_for p d w
  unfolding laid
  laid-is = ap (λ (s : Result Params Unknown). laid_for (found_in s) d w) is

  -- the noise of attempt a + 1
  abbrev noise_in : ℕ → List ℕ
  noise_in a = build (p.l + p.k) (λ (i : ℕ). in_first d (w.totals a i))

  in_words : (a : ℕ) → Words (m * (d * 512)) (noise_in a)
  in_words a = words-build m (λ (i : ℕ). in_first d (w.totals a i)) (λ (i : ℕ) (h : i < m). in-first-words (w.totals a i) d)

  secret-words : Words (p.l * (d * 512)) v.key.words
  unfolding laid_for
  secret-words = words-build p.l (λ (i : ℕ). in_first d (w.secret i)) (λ (i : ℕ) (h : i < p.l). in-first-words (w.secret i) d)

  noise-words : Words (w.attempts * (m * (d * 512))) v.coins.noise
  unfolding laid_for
  noise-words = words-build w.attempts noise_in (λ (a : ℕ) (h : a < w.attempts). in_words a)

  laid-fits : Fits p v
  unfolding laid_for
  laid-fits =
      let n : m * (d * 512) ≡ m * p.shares * 512 = omega (arith, ap (λ (x : ℕ). m * x) shares-are) in
      let e7 : eqb (length v.coins.noise) (w.attempts * (m * p.shares * 512)) ≡ true = eq-eqb _ _ (noise-words.long ∙ ap (λ (x : ℕ). w.attempts * x) n) in
      let b7 : all_below q v.coins.noise ≡ true = below-yes q v.coins.noise noise-words.low in
      let m7 : eqb (length v.coins.masks) (w.attempts * 32) ≡ true = eq-eqb _ _ (words-zeros (w.attempts * 32)).long in
      let r8 : eqb (length v.result) p.sig_bytes ≡ true = eq-eqb _ _ (words-zeros p.sig_bytes).long in
      let w8 : eqb (length v.work) (work_words p) ≡ true = eq-eqb _ _ (words-zeros (work_words p)).long in
      record {
        share-words = subst (λ (x : ℕ). Words (p.l * (x * 512)) v.key.words) (sym shares-are) secret-words;
        coins = rw (e7, b7, m7) refl;
        buffers = rw (r8, w8) refl;
      }

  word-is : (i j x : ℕ) → i < p.l → j < d → x < 512 → share_word_at d v.key i j x ≡ pick (eqb j 0) (w.secret i x % q) 0
  unfolding share_word_at laid_for
  word-is i j x hi hj hx =
      built-at (d * 512) p.l (λ (i : ℕ). in_first d (w.secret i)) (λ (i : ℕ) (h : i < p.l). (in-first-words (w.secret i) d).long) i (j * 512 + x) hi
      (omega arith)
      ∙ in-first-at (w.secret i) d j x hj hx

  lent_is : (a i j x : ℕ) → a < w.attempts → i < m → j < d → x < 512 → lent_at p v a i j x ≡ pick (eqb j 0) (w.totals a i x % q) 0
  unfolding lent_at laid_for
  lent_is a i j x ha hi hj hx =
      let b : i * (d * 512) + d * 512 ≤ m * (d * 512) = inside i m (d * 512) hi in
      let e : ((a * (p.l + p.k) + i) * d + j) * 512 + x ≡ a * (m * (d * 512)) + (i * (d * 512) + (j * 512 + x)) = omega arith in
      ap (λ (n : ℕ). get_or (build w.attempts noise_in) n 0) e
      ∙ built-at (m * (d * 512)) w.attempts noise_in (λ (a : ℕ) (h : a < w.attempts). (in_words a).long) a (i * (d * 512) + (j * 512 + x)) ha (omega arith)
      ∙ built-at (d * 512) m (λ (i : ℕ). in_first d (w.totals a i)) (λ (i : ℕ) (h : i < m). (in-first-words (w.totals a i) d).long) i (j * 512 + x) hi (omega arith)
      ∙ in-first-at (w.totals a i) d j x hj hx

  module _ (c : ShareCount d) where
    laid-secret : (i x : ℕ) → i < p.l → x < 512 → secret_at d v.key i x ≡ w.secret i x % q
    unfolding secret_at laid_for
    laid-secret i x hi hx =
        ap (λ (n : ℕ). n % q)
        (sum_n-ext d (λ (j : ℕ). share_word_at d v.key i j x) (λ (j : ℕ). pick (eqb j 0) (w.secret i x % q) 0) (λ (j : ℕ) (hj : j < d). word-is i j x hi hj hx))
        ∙ sum_is d (w.secret i x) (count_low d c).0

    laid-total : (a i x : ℕ) → a < w.attempts → i < m → x < 512 → noise_total_at p v a i x ≡ w.totals a i x % q
    unfolding noise_total_at laid_for
    laid-total a i x ha hi hx =
        ap (λ (n : ℕ). n % q)
        (sum_n-ext d (λ (j : ℕ). lent_at p v a i j x) (λ (j : ℕ). pick (eqb j 0) (w.totals a i x % q) 0) (λ (j : ℕ) (hj : j < d). lent_is a i j x ha hi hj hx))
        ∙ sum_is d (w.totals a i x) (count_low d c).0

-- ---- the unit

pub laid-sound : (w : Wanted) (d : ℕ) → ShareCount d → Sound (laid d w)
unfolding laid laid_for
laid-sound w d c =
    record {
      count = c;
      fits = λ (p : Params) (is : record_of (laid d w) ≡ Ok p). subst (Fits p) (sym (laid-is w d p is)) (laid-fits w d p is);
    }

pub laid-has : (w : Wanted) (d : ℕ) → ShareCount d → Has w (laid d w)
unfolding laid laid_for
laid-has w d c =
    record {
      edition = refl;
      set = refl;
      bytes = refl;
      message = refl;
      attempts = refl;
      secret = λ (p : Params) (is : record_of (laid d w) ≡ Ok p) (i x : ℕ) (hi : i < p.l) (hx : x < 512).
          ap (λ (u : UnitCall). secret_at u.shares u.key i x) (laid-is w d p is) ∙ laid-secret w d p is c i x hi hx;
      totals = λ (p : Params) (is : record_of (laid d w) ≡ Ok p) (a i x : ℕ) (ha : a < w.attempts) (hi : i < p.l + p.k) (hx : x < 512).
          ap (λ (u : UnitCall). noise_total_at p u a i x) (laid-is w d p is) ∙ laid-total w d p is c a i x ha hi hx;
    }

-- ---- two units that have the same

-- secrets and noise totals are residues
secret-mod : (d : ℕ) (K : ExpandedKey) (i x : ℕ) → secret_at d K i x % q ≡ secret_at d K i x
unfolding secret_at
secret-mod d K i x = omega arith

pick-mod : (b : Bool) (x y : ℕ) → pick b (x % q) (y % q) % q ≡ pick b (x % q) (y % q)
pick-mod true x y = omega arith
pick-mod false x y = omega arith

total-mod : (p : Params) (u : UnitCall) (a i x : ℕ) → noise_total_at p u a i x % q ≡ noise_total_at p u a i x
unfolding noise_total_at
total-mod p u a i x = pick-mod u.coins.explicit (sum_n u.shares (λ (j : ℕ). lent_at p u a i j x)) _

pub had : (u : UnitCall) → Has (had_by u) u
unfolding had_by
had u =
    record {
      edition = refl;
      set = refl;
      bytes = refl;
      message = refl;
      attempts = refl;
      secret = λ (p : Params) is (i x : ℕ) hi hx. sym (secret-mod u.shares u.key i x);
      totals = λ (p : Params) (is : record_of u ≡ Ok p) (a i x : ℕ) ha hi hx.
          sym (ap (λ (s : Result Params Unknown). noise_total_at (found_in s) u a i x % q) is ∙ total-mod p u a i x);
    }

module _ (w : Wanted) (u v : UnitCall) (hu : Has w u) (hv : Has w v) where
  pub has-alike : Alike u v
  has-alike =
      record {
        editions = hu.edition ∙ sym hv.edition;
        sets = hu.set ∙ sym hv.set;
        keys = hu.bytes ∙ sym hv.bytes;
        messages = hu.message ∙ sym hv.message;
        attempts = hu.attempts ∙ sym hv.attempts;
      }

  -- the record of v, from that of u
  other : ShareCount v.shares → (p : Params) → record_of u ≡ Ok p → Beside v.set v.shares v.edition p
  other c p is =
      let e : lookup_of u.set u.shares u.edition ≡ lookup_of v.set u.shares v.edition = cc (has-alike.sets, has-alike.editions) in
      beside v.set u.shares v.shares v.edition p (sym e ∙ is) c

  -- the bytes being a public key and its hash: both digests are true
  module _ (p : Params) (is : record_of u ≡ Ok p) (vk : List ℕ) (l : length vk ≡ p.vk_bytes) (b : w.bytes ≡ vk ++ digest_for p vk) where
    has-digest : (x : UnitCall) → Has w x → TrueDigest x
    has-digest x hx r i =
        true_same p r (of-one-set u x p r is i (hu.set ∙ sym hx.set) (hu.edition ∙ sym hx.edition)) x.key
        (subst (λ (ys : List ℕ). digest_in p ys ≡ digest_for p (vk_in p ys)) (sym (hx.bytes ∙ b)) (behind-true p vk l))

    pub has-alike-true : ShareCount v.shares → AlikeTrue u v
    has-alike-true c =
        let o = other c p is in
        record {
          editions = has-alike.editions;
          sets = has-alike.sets;
          keys = ap (λ (s : Result Params Unknown). vk_in (found_in s) u.key.bytes) is ∙ cc (vk-same p o.other o.same, has-alike.keys)
              ∙ sym (ap (λ (s : Result Params Unknown). vk_in (found_in s) v.key.bytes) o.is);
          digests = (has-digest u hu, has-digest v hv);
          messages = has-alike.messages;
          attempts = has-alike.attempts;
        }

  pub has-secret : ShareCount v.shares → SameSecret u v
  has-secret c =
      record {
        equal = λ (p : Params) (is : record_of u ≡ Ok p) (i x : ℕ) (hi : i < p.l) (hx : x < 512).
            let o = other c p is in
            let li : i < o.other.l = omega (arith, l-same p o.other o.same) in
            hu.secret p is i x hi hx ∙ sym (hv.secret o.other o.is i x li hx);
      }

  pub has-totals : EqualTotals u v
  has-totals =
      record {
        equal = λ (p r : Params) (iu : record_of u ≡ Ok p) (iv : record_of v ≡ Ok r) (a i x : ℕ)
            (ha : a < u.attempts) (hi : i < p.l + p.k) (hx : x < 512).
            let s : set_of p ≡ set_of r = of-one-set u v p r iu iv has-alike.sets has-alike.editions in
            let la : a < w.attempts = omega (arith, hu.attempts) in
            let li : i < r.l + r.k = omega (arith, l-same p r s, k-same p r s) in
            hu.totals p iu a i x la hi hx ∙ sym (hv.totals r iv a i x la li hx);
      }
