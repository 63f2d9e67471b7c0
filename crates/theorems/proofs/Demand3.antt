-- Demand 3 of paper 01, over the definitions that the contracts of the calls cite.
use mathlib.Core.Path.{◌≡◌, refl, sym, ap, ◌∙◌}
use mathlib.Core.Bool.{true}
use mathlib.Core.List.{List, ◌++◌}
use mathlib.Core.Logic.{◌⊎◌, inl, inr}
use Prim.Native.Nat.{ℕ}
use native.Mathlib.Decide.{ℕ_discrete}
use lib.ListN.{length}
use Rattle.hash.specs.Params.{ShareCount, lookup_of}
use Rattle.hash.specs.declared.params.Edition.{Edition}
use Rattle.hash.specs.declared.params.Params.{Params}
use Rattle.std.specs.Prelude.{Result, Ok}
use Rattle.hash.specs.declared.params.Unknown.{Unknown}
use Rattle.signature.specs.Digest.{digest_for}
use Rattle.signature.specs.ExpandedKey.{ExpandedKey, vk_in}
use Rattle.signature.specs.Keys.{DigestTrue}
use Rattle.signature.specs.Outcome.{Outcome, written, found_in}
use Rattle.signature.specs.Sign.{Coins}
use Rattle.signature.specs.SignCalls.{Key, left_by, sign_of, sign_call}
use Rattle.signature.specs.Verify.{verify_call}
use Rattle.theorems.specs.Unit.{UnitCall, sign_unit, call_unit, vk_of, TrueDigest, RunsDry, Sound, Alike, AlikeTrue, SameSecret, EqualTotals}
use Rattle.theorems.specs.Witness.{Wanted, Has, laid_for, laid, had_by}
use Rattle.theorems.proofs.Agree.{one-share-never, answers_agree, true-agree}
use Rattle.theorems.proofs.AcceptCall.{known-accepted, found-with}
use Rattle.theorems.proofs.Witness.{laid-sound, laid-has, had, has-alike, has-alike-true, has-secret, has-totals}

-- The verifier accepts what is signed with an expanded key whose digest is true: whatever the set, share count, key, message, noise and masks, if
-- signing returns 0, verifying that signature with that public key and message returns 0.
pub accepted : (e : Edition) (set d : ℕ) (p : Params) → lookup_of set d e ≡ Ok p
    → (K : ExpandedKey) (n : ℕ) (msg : List ℕ) (T : Coins) (out work : List ℕ)
    → DigestTrue p (Key.expanded K) → (sign_of e set d (Key.expanded K) n msg T out work).status ≡ 0
    → verify_call e set (vk_in p K.bytes) msg (sign_of e set d (Key.expanded K) n msg T out work).bytes ≡ 0
accepted e set d p is K n msg T out work t h = known-accepted e set d p is (Key.expanded K) n msg T out work t h

-- It accepts what is signed with a signing key too; the public key is the signing key's front, and the digest is always true.
pub accepted-packed : (e : Edition) (set d : ℕ) (p : Params) → lookup_of set d e ≡ Ok p
    → (key : List ℕ) (n : ℕ) (msg : List ℕ) (T : Coins) (out work : List ℕ)
    → (sign_of e set d (Key.packed key) n msg T out work).status ≡ 0
    → verify_call e set (vk_in p key) msg (sign_of e set d (Key.packed key) n msg T out work).bytes ≡ 0
accepted-packed e set d p is key n msg T out work h = known-accepted e set d p is (Key.packed key) n msg T out work refl h

pub accepted-unit : (u : UnitCall) → TrueDigest u → (sign_unit u).status ≡ 0
    → verify_call u.edition u.set (vk_of u) u.message (sign_unit u).bytes ≡ 0
unfolding sign_unit
accepted-unit u t h =
    let f = found-with u.edition u.set u.shares (Key.expanded u.key) u.attempts u.message u.coins u.result u.work h in
    ap (λ (s : Result Params Unknown). verify_call u.edition u.set (vk_in (found_in s) u.key.bytes) u.message (sign_unit u).bytes) f.1
    ∙ accepted u.edition u.set u.shares f.0 f.1 u.key u.attempts u.message u.coins u.result u.work (t f.0 f.1) h

-- Two units alike in set, public key, digest, message and allowed attempts, each with an expanded key of any of the six share counts; their shares
-- add to the same secret, and in every allowed attempt their noise adds to equal totals at every coefficient. Whatever the share counts, the
-- sharings, the mask seeds and what the buffers held, both from seeds, both with explicit noise or one and one, the digest true or not: status,
-- attempts and signature are the same, after a refusal too, if neither of the two runs dry (02, #105); and with 0 and a true digest the verifier
-- accepts the signature.
pub agreement : (u v : UnitCall) → Sound u → Sound v → Alike u v → SameSecret u v → EqualTotals u v → (RunsDry u → ⊥) → (RunsDry v → ⊥)
    → (sign_unit u ≡ sign_unit v)
    × (TrueDigest u → (sign_unit u).status ≡ 0 → verify_call u.edition u.set (vk_of u) u.message (sign_unit u).bytes ≡ 0)
agreement u v hu hv al s t fu fv = (answers_agree u v hu hv al s t fu fv, accepted-unit u)

-- .. where both digests are true: equal public keys are then enough, and the verifier accepts.
pub agreement-true : (u v : UnitCall) → Sound u → Sound v → AlikeTrue u v → SameSecret u v → EqualTotals u v → (RunsDry u → ⊥) → (RunsDry v → ⊥)
    → (sign_unit u ≡ sign_unit v) × ((sign_unit u).status ≡ 0 → verify_call u.edition u.set (vk_of u) u.message (sign_unit u).bytes ≡ 0)
agreement-true u v hu hv al s t fu fv = (true-agree u v hu hv al s t fu fv, accepted-unit u al.digests.0)

-- That is all that can part them: they answer alike, or one of them ran dry.
pub agreed-or-dry : (u v : UnitCall) → Sound u → Sound v → Alike u v → SameSecret u v → EqualTotals u v
    → (sign_unit u ≡ sign_unit v) ⊎ (RunsDry u ⊎ RunsDry v)
agreed-or-dry u v hu hv al s t = go (ℕ_discrete (sign_unit u).status 20) (ℕ_discrete (sign_unit v).status 20)
  where
    go : Dec (RunsDry u) → Dec (RunsDry v) → (sign_unit u ≡ sign_unit v) ⊎ (RunsDry u ⊎ RunsDry v)
    go (yes d) x = inr (inl d)
    go (no fu) (yes d) = inr (inr d)
    go (no fu) (no fv) = inl (answers_agree u v hu hv al s t fu fv)

-- ---- what agreement supposes can be met

-- For every unit, and for each of the six share counts, there is a sound unit of that count, with explicit noise, that is alike, has the same
-- secret and has equal noise totals.
pub met : (u : UnitCall) (d : ℕ) → ShareCount d
    → (v : UnitCall) × (v.shares ≡ d) × (v.coins.explicit ≡ true) × Sound v × Alike u v × SameSecret u v × EqualTotals u v
unfolding laid laid_for
met u d c =
    let w : Wanted = had_by u in
    let h : Has w (laid d w) = laid-has w d c in
    (laid d w, refl, refl, laid-sound w d c, has-alike w u (laid d w) (had u) h, has-secret w u (laid d w) (had u) h c, has-totals w u (laid d w) (had u) h)

-- .. and where u does not run dry, that of one share does not either, and so agrees with it: agreement is never about nothing.
pub met-full : (u : UnitCall) → Sound u → (RunsDry u → ⊥)
    → (v : UnitCall) × (v.shares ≡ 1) × Sound v × Alike u v × SameSecret u v × EqualTotals u v × (RunsDry v → ⊥) × (sign_unit u ≡ sign_unit v)
met-full u h full =
    let m = met u 1 (record { six = inl refl }) in
    let v = m.0 in
    let never = one-share-never v m.3 m.1 in
    (v, m.1, m.3, m.4, m.5, m.6, never, answers_agree u v h m.3 m.4 m.5 m.6 full never)

-- Whatever the secret and the noise totals are to be, for each two of the six share counts there are two sound units of these counts that have
-- them, and so meet all that agreement supposes (01: equal totals can be laid out for two share counts).
pub met-across : (w : Wanted) (c d : ℕ) → ShareCount c → ShareCount d
    → (u : UnitCall) × (v : UnitCall) × (u.shares ≡ c) × (v.shares ≡ d) × Has w u × Has w v
    × Sound u × Sound v × Alike u v × SameSecret u v × EqualTotals u v
unfolding laid laid_for
met-across w c d hc hd =
    let h : Has w (laid c w) = laid-has w c hc in
    let k : Has w (laid d w) = laid-has w d hd in (
      laid c w,
      laid d w,
      refl,
      refl,
      h,
      k,
      laid-sound w c hc,
      laid-sound w d hd,
      has-alike w (laid c w) (laid d w) h k,
      has-secret w (laid c w) (laid d w) h k hd,
      has-totals w (laid c w) (laid d w) h k,
    )

-- .. with true digests too: under any public key of the right length, the wanted bytes being it and its hash.
pub met-true : (w : Wanted) (c d : ℕ) → ShareCount c → ShareCount d → (p : Params) → lookup_of w.set c w.edition ≡ Ok p
    → (vk : List ℕ) → length vk ≡ p.vk_bytes → w.bytes ≡ vk ++ digest_for p vk
    → (u : UnitCall) × (v : UnitCall) × (u.shares ≡ c) × (v.shares ≡ d) × Sound u × Sound v × AlikeTrue u v × SameSecret u v × EqualTotals u v
unfolding laid laid_for
met-true w c d hc hd p is vk l b =
    let h : Has w (laid c w) = laid-has w c hc in
    let k : Has w (laid d w) = laid-has w d hd in (
      laid c w,
      laid d w,
      refl,
      refl,
      laid-sound w c hc,
      laid-sound w d hd,
      has-alike-true w (laid c w) (laid d w) h k p is vk l b hd,
      has-secret w (laid c w) (laid d w) h k hd,
      has-totals w (laid c w) (laid d w) h k,
    )

-- ---- agreement, of what the calls give and leave

-- equal status and attempts; with 0 the result buffers hold the same signature, which the verifier accepts if the digest is true
pub record Agreed (u v : UnitCall) : Type 0 where
  pub status : (call_unit u).status ≡ (call_unit v).status
  pub attempts : (call_unit u).reported ≡ (call_unit v).reported
  pub bytes : (call_unit u).status ≡ 0 → (call_unit u).bytes ≡ (call_unit v).bytes
  pub verified : TrueDigest u → (call_unit u).status ≡ 0 → verify_call u.edition u.set (vk_of u) u.message (call_unit u).bytes ≡ 0

-- what a call leaves in its result buffer with 0
left_is : (u : UnitCall) → call_unit u ≡ left_by (sign_unit u) u.result u.work
unfolding call_unit sign_unit sign_call
left_is u = refl

left-bytes : (A : Outcome) (out work : List ℕ) → A.status ≡ 0 → (left_by A out work).bytes ≡ A.bytes
left-bytes A out work e = ap (λ (n : ℕ). written n A.bytes out) e

bytes-are : (u : UnitCall) → (call_unit u).status ≡ 0 → (call_unit u).bytes ≡ (sign_unit u).bytes
bytes-are u h =
    let l : call_unit u ≡ left_by (sign_unit u) u.result u.work = left_is u in
    ap (λ (s : Outcome). s.bytes) l ∙ left-bytes (sign_unit u) u.result u.work (ap (λ (s : Outcome). s.status) (sym l) ∙ h)

agreed-by : (u v : UnitCall) → sign_unit u ≡ sign_unit v → Agreed u v
agreed-by u v p =
    let lu : call_unit u ≡ left_by (sign_unit u) u.result u.work = left_is u in
    let lv : call_unit v ≡ left_by (sign_unit v) v.result v.work = left_is v in
    let st : (call_unit u).status ≡ (call_unit v).status = cc (p, lu, lv) in
    let at : (call_unit u).reported ≡ (call_unit v).reported = cc (p, lu, lv) in
    record {
      status = st;
      attempts = at;
      bytes = λ (h : (call_unit u).status ≡ 0). bytes-are u h ∙ ap (λ (A : Outcome). A.bytes) p ∙ sym (bytes-are v (sym st ∙ h));
      verified = λ (d : TrueDigest u) (h : (call_unit u).status ≡ 0).
          ap (verify_call u.edition u.set (vk_of u) u.message) (bytes-are u h)
          ∙ accepted-unit u d (ap (λ (x : Outcome). x.status) (sym lu) ∙ h);
    }

pub results_agree : (u v : UnitCall) → Sound u → Sound v → Alike u v → SameSecret u v → EqualTotals u v → (RunsDry u → ⊥) → (RunsDry v → ⊥)
    → Agreed u v
results_agree u v hu hv al s t fu fv = agreed-by u v (answers_agree u v hu hv al s t fu fv)

pub results-agree-true : (u v : UnitCall) → Sound u → Sound v → AlikeTrue u v → SameSecret u v → EqualTotals u v → (RunsDry u → ⊥)
    → (RunsDry v → ⊥) → Agreed u v
results-agree-true u v hu hv al s t fu fv = agreed-by u v (true-agree u v hu hv al s t fu fv)
