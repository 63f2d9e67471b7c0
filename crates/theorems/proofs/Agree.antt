-- Agreement: two units that do not run dry, with equal sums at every coefficient, have the same secret and the same noise totals, so that they answer alike.
use mathlib.Core.Path.{◌≡◌, refl, sym, ap, subst, ◌∙◌}
use mathlib.Core.Bool.{Bool, true, false}
use mathlib.Core.List.{List, ◌++◌}
use Prim.Native.Nat.{ℕ, zero, suc, ◌+◌, ◌*◌, ◌<◌}
use native.Mathlib.Omega.{arith}
use lib.Dec.{eqb}
use lib.ListN.{get_or, take-append-drop}
use Rattle.hash.specs.Lists.{pick}
use Rattle.hash.specs.Params.{set_index, order_index, row_at, params_of}
use Rattle.hash.specs.declared.params.Params.{Params}
use Rattle.std.specs.Prelude.{Result, Ok, Err}
use Rattle.hash.specs.declared.params.Unknown.{Unknown}
use Rattle.hash.proofs.Sets.{set_of, found-set, look_up}
use Rattle.ring.specs.Words.{Words}
use Rattle.ring.proofs.Sums.{same-residues}
use Rattle.sharing.specs.Blocks.{build, total, totals}
use Rattle.sharing.proofs.Decode.{words-sum}
use Rattle.sharing.proofs.Lists.{build-ext}
use Rattle.signature.specs.ExpandedKey.{vk_in, secret_at}
use Rattle.signature.specs.Digest.{key_hash, digest_for}
use Rattle.signature.specs.Outcome.{Outcome, refused_or, first_no, found_in}
use Rattle.signature.specs.Sign.{Public}
use Rattle.theorems.specs.Plain.{Totals, noise_total, totals_of, plain_from, plain_checks, plain_public, sign_plain}
use Rattle.theorems.specs.Unit.{UnitCall, sign_unit, record_of, vk_of, TrueDigest, RunsDry, noise_total_at, Fits, Sound, Alike, AlikeTrue, SameSecret, EqualTotals}
use Rattle.signature.proofs.Secrets.{secrets-totals}
use Rattle.theorems.proofs.ShareCount.{k-same, l-same, hash-bytes-same, plain-same}
use Rattle.theorems.proofs.Collapse.{unit_secret, noise_of, noise_totals, shares-are, sign-plain, sign-unknown}
use Rattle.theorems.proofs.Dry.{one-share-full}
use Rattle.theorems.proofs.NoiseTotals.{first-at, second_at}

-- ---- plain signing looks only at the totals of the allowed attempts

plain-ext : (p : Params) (P : Public) (e f : ℕ → Totals) (left a : ℕ) (s : List ℕ) → ((b : ℕ) → b < a + left → e b ≡ f b)
    → plain_from p P e left a s ≡ plain_from p P f left a s
unfolding plain_from
plain-ext p P e f zero a s h = refl
plain-ext p P e f (suc left) a s h =
    cc (h a (omega arith), plain-ext p P e f left (suc a) s (λ (b : ℕ) (l : b < suc a + left). h b (omega arith)))

sign-ext : (p : Params) (bytes : List ℕ) (n : ℕ) (msg s : List ℕ) (e f : ℕ → Totals) → ((b : ℕ) → b < n → e b ≡ f b)
    → sign_plain p bytes n msg s e ≡ sign_plain p bytes n msg s f
unfolding sign_plain
sign-ext p bytes n msg s e f h =
    ap (refused_or (first_no (plain_checks p bytes n msg)))
    (plain-ext p (plain_public p bytes msg) e f n 0 s (λ (b : ℕ) (l : b < 0 + n). h b (omega arith)))

-- ---- two units

-- lists of n polynomials, equal at every coefficient
build-same : (n m : ℕ) (f g : ℕ → List ℕ) → n ≡ m → ((i : ℕ) → Words 512 (f i)) → ((i : ℕ) → Words 512 (g i))
    → ((i x : ℕ) → i < n → x < 512 → get_or (f i) x 0 ≡ get_or (g i) x 0) → build n f ≡ build m g
build-same n m f g e wf wg h =
    build-ext n f g (λ (i : ℕ) (l : i < n). same-residues (f i) (g i) (wf i) (wg i) (λ (x : ℕ) (lx : x < 512). h i x l lx))
    ∙ ap (λ (k : ℕ). build k g) e

-- their records are of one set
pub of-one-set : (u v : UnitCall) (p r : Params) → record_of u ≡ Ok p → record_of v ≡ Ok r
    → u.set ≡ v.set → u.edition ≡ v.edition → set_of p ≡ set_of r
of-one-set u v p r iu iv sets editions =
    (found-set u.set u.shares u.edition p iu).first-row
    ∙ cc (sets, editions)
    ∙ sym (found-set v.set v.shares v.edition r iv).first-row

module _ (u v : UnitCall) (p r : Params) (iu : record_of u ≡ Ok p) (iv : record_of v ≡ Ok r)
    (hu : Fits p u) (hv : Fits r v) (al : Alike u v) where
  one_set : set_of p ≡ set_of r
  one_set = of-one-set u v p r iu iv al.sets al.editions

  secret-same : SameSecret u v → unit_secret p u ≡ unit_secret r v
  secret-same s =
      let e : p.l ≡ r.l = l-same p r one_set in
      let w : Words (p.l * (r.shares * 512)) v.key.words = subst (λ (n : ℕ). Words (n * (r.shares * 512)) v.key.words) (sym e) hv.share-words in
      secrets-totals p.shares r.shares p.l u.key v.key hu.share-words w
      (λ (i x : ℕ) (l : i < p.l) (lx : x < 512).
      ap (λ (d : ℕ). secret_at d u.key i x) (shares-are u p iu hu) ∙ s.equal p iu i x l lx ∙ ap (λ (d : ℕ). secret_at d v.key i x) (sym (shares-are v r iv hv)))
      ∙ ap (λ (n : ℕ). totals n r.shares v.key.words) e

  noise-same : EqualTotals u v → (a : ℕ) → a < u.attempts → noise_totals p u a ≡ noise_totals r v a
  unfolding totals_of
  noise-same t a la =
      let lb : a < v.attempts = omega (arith, al.attempts) in
      let el : p.l ≡ r.l = l-same p r one_set in
      let ek : p.k ≡ r.k = k-same p r one_set in
      let first : build p.l (noise_total p.shares (noise_of p u a).reps (noise_of p u a).first)
      ≡ build r.l (noise_total r.shares (noise_of r v a).reps (noise_of r v a).first) =
      build-same p.l r.l (noise_total p.shares (noise_of p u a).reps (noise_of p u a).first) (noise_total r.shares (noise_of r v a).reps (noise_of r v a).first) el
      (λ (i : ℕ). words-sum 512 (noise_of p u a).reps (λ (t : ℕ). total p.shares ((noise_of p u a).first i t)))
      (λ (i : ℕ). words-sum 512 (noise_of r v a).reps (λ (t : ℕ). total r.shares ((noise_of r v a).first i t)))
      (λ (i x : ℕ) (l : i < p.l) (lx : x < 512).
      first-at u p iu hu a x lx la i l ∙ t.equal p r iu iv a i x la (omega arith) lx ∙ sym (first-at v r iv hv a x lx lb i (omega (arith, el)))) in
      let second : build p.k (noise_total p.shares (noise_of p u a).reps (noise_of p u a).second)
      ≡ build r.k (noise_total r.shares (noise_of r v a).reps (noise_of r v a).second) =
      build-same p.k r.k (noise_total p.shares (noise_of p u a).reps (noise_of p u a).second) (noise_total r.shares (noise_of r v a).reps (noise_of r v a).second) ek
      (λ (i : ℕ). words-sum 512 (noise_of p u a).reps (λ (t : ℕ). total p.shares ((noise_of p u a).second i t)))
      (λ (i : ℕ). words-sum 512 (noise_of r v a).reps (λ (t : ℕ). total r.shares ((noise_of r v a).second i t)))
      (λ (i x : ℕ) (l : i < p.k) (lx : x < 512).
      second_at u p iu hu a x lx la i l ∙ t.equal p r iu iv a (p.l + i) x la (omega arith) lx
      ∙ ap (λ (m : ℕ). noise_total_at r v a (m + i) x) el ∙ sym (second_at v r iv hv a x lx lb i (omega (arith, ek)))) in
      cc (first, second)

  -- of a known set
  known-agree : SameSecret u v → EqualTotals u v → (RunsDry u → ⊥) → (RunsDry v → ⊥) → sign_unit u ≡ sign_unit v
  known-agree s t fu fv =
      let e1 : sign_unit u ≡ sign_plain p u.key.bytes u.attempts u.message (unit_secret p u) (noise_totals p u) = sign-plain u p iu hu fu in
      let e2 : sign_unit v ≡ sign_plain r v.key.bytes v.attempts v.message (unit_secret r v) (noise_totals r v) = sign-plain v r iv hv fv in
      let e3 : sign_plain p u.key.bytes u.attempts u.message (unit_secret p u) (noise_totals p u) ≡ sign_plain p u.key.bytes u.attempts u.message (unit_secret p u) (noise_totals r v) =
      sign-ext p u.key.bytes u.attempts u.message (unit_secret p u) (noise_totals p u) (noise_totals r v) (noise-same t) in
      let e4 : sign_plain p u.key.bytes u.attempts u.message (unit_secret p u) (noise_totals r v) ≡ sign_plain r u.key.bytes u.attempts u.message (unit_secret p u) (noise_totals r v) =
      plain-same p r one_set u.key.bytes u.attempts u.message (unit_secret p u) (noise_totals r v) in
      let e5 : sign_plain r u.key.bytes u.attempts u.message (unit_secret p u) (noise_totals r v) ≡ sign_plain r v.key.bytes v.attempts v.message (unit_secret r v) (noise_totals r v) =
      cc (secret-same s, al.keys, al.messages, al.attempts) in
      e1 ∙ e3 ∙ e4 ∙ e5 ∙ sym e2

-- the record of a unit with one of the six share counts: none for an unknown set
abbrev row_for : UnitCall → Params
row_for w = params_of (row_at (6 * set_index w.set + order_index w.shares)) w.edition

row-look : (w : UnitCall) → Sound w → (set : ℕ) → set ≡ w.set → (b : Bool) → eqb (set_index set) 3 ≡ b → record_of w ≡ pick b (Err Unknown.Set) (Ok (row_for w))
row-look w h set e b i =
    look_up w.set w.shares w.edition h.count
    ∙ ap (λ (c : Bool). pick c (Err Unknown.Set) (Ok (row_for w))) (ap (λ (x : ℕ). eqb (set_index x) 3) (sym e) ∙ i)

unknown-agree : (u v : UnitCall) → Sound u → Sound v → u.set ≡ v.set → eqb (set_index u.set) 3 ≡ true → sign_unit u ≡ sign_unit v
unknown-agree u v hu hv e i = sign-unknown u (row-look u hu u.set refl true i) ∙ sym (sign-unknown v (row-look v hv u.set e true i))

-- with one share no unit runs dry, whatever the set
pub one-share-never : (u : UnitCall) → Sound u → u.shares ≡ 1 → RunsDry u → ⊥
one-share-never u h one d = go (eqb (set_index u.set) 3) refl
  where
    go : (b : Bool) → eqb (set_index u.set) 3 ≡ b → ⊥
    go true i = let e : ◌≡◌ {A = ℕ} 1 20 = sym (ap (λ (A : Outcome). A.status) (sign-unknown u (row-look u h u.set refl true i))) ∙ d in omega arith
    go false i = one-share-full u (row_for u) (row-look u h u.set refl false i) one d

-- AGREEMENT, the answers
pub answers_agree : (u v : UnitCall) → Sound u → Sound v → Alike u v → SameSecret u v → EqualTotals u v → (RunsDry u → ⊥) → (RunsDry v → ⊥)
    → sign_unit u ≡ sign_unit v
answers_agree u v hu hv al s t fu fv = go (eqb (set_index u.set) 3) refl
  where
    go : (b : Bool) → eqb (set_index u.set) 3 ≡ b → sign_unit u ≡ sign_unit v
    go true i = unknown-agree u v hu hv al.sets i
    go false i =
        let iu = row-look u hu u.set refl false i in
        let iv = row-look v hv u.set al.sets false i in
        known-agree u v (row_for u) (row_for v) iu iv (hu.fits (row_for u) iu) (hv.fits (row_for v) iv) al s t fu fv

-- ---- with true digests equal public keys are enough

module _ (u v : UnitCall) (p r : Params) (iu : record_of u ≡ Ok p) (iv : record_of v ≡ Ok r) (al : AlikeTrue u v) where
  -- the bytes of a key with a true digest
  true-bytes : (w : UnitCall) (x : Params) → record_of w ≡ Ok x → TrueDigest w → w.key.bytes ≡ vk_of w ++ digest_for x (vk_of w)
  true-bytes w x i t =
      sym (take-append-drop x.vk_bytes w.key.bytes) ∙ ap (λ (d : List ℕ). vk_in x w.key.bytes ++ d) (t x i)
      ∙ ap (λ (s : Result Params Unknown). vk_in (found_in s) w.key.bytes ++ digest_for x (vk_in (found_in s) w.key.bytes)) (sym i)

  known_alike : Alike u v
  known_alike =
      record {
        editions = al.editions;
        sets = al.sets;
        keys = true-bytes u p iu al.digests.0
            ∙ ap (λ (n : ℕ). vk_of u ++ key_hash n (vk_of u)) (hash-bytes-same p r (of-one-set u v p r iu iv al.sets al.editions))
            ∙ ap (λ (x : List ℕ). x ++ digest_for r x) al.keys ∙ sym (true-bytes v r iv al.digests.1);
        messages = al.messages;
        attempts = al.attempts;
      }

pub true-agree : (u v : UnitCall) → Sound u → Sound v → AlikeTrue u v → SameSecret u v → EqualTotals u v → (RunsDry u → ⊥) → (RunsDry v → ⊥)
    → sign_unit u ≡ sign_unit v
true-agree u v hu hv al s t fu fv = go (eqb (set_index u.set) 3) refl
  where
    go : (b : Bool) → eqb (set_index u.set) 3 ≡ b → sign_unit u ≡ sign_unit v
    go true i = unknown-agree u v hu hv al.sets i
    go false i =
        let iu = row-look u hu u.set refl false i in
        let iv = row-look v hv u.set al.sets false i in
        answers_agree u v hu hv (known_alike u v (row_for u) (row_for v) iu iv al) s t fu fv
