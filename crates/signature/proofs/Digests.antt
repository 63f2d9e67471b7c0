-- The bytes of a key (02, #102): the public key in front, behind it the digest of an expanded key.
use mathlib.Core.Path.{◌≡◌, refl, sym, ap, ◌∙◌}
use mathlib.Core.Bool.{Bool}
use mathlib.Core.List.{List, ◌++◌, append-nil}
use Prim.Native.Nat.{ℕ, ◌+◌, ◌-◌, ◌*◌, ◌≤◌}
use native.Mathlib.Omega.{arith}
use lib.ListN.{length, take, drop, replicate, length-drop, take-append-drop, drop_of_length-le}
use lib.Seq.{length-take-le, take_at, drop_at}
use borrow.Rule.Slice.PartMut.{put_mid}
use Rattle.hash.specs.Shake.{shake256}
use Rattle.hash.specs.declared.params.Params.{Params}
use Rattle.ring.specs.Words.{all_below}
use Rattle.sharing.specs.Region.{put}
use Rattle.sharing.proofs.Regions.{span-span, put-seam}
use Rattle.signature.specs.AttemptSteps.{key_lent, key_bytes, BytesHeld}
use Rattle.signature.specs.Bits.{repack}
use Rattle.signature.specs.Checks.{public_key_good}
use Rattle.signature.specs.Digest.{key_hash, digest_for}
use Rattle.signature.specs.ExpandedKey.{expanded_in, expanded_bytes, vk_in, digest_in}
use Rattle.signature.specs.Form.{hash_bytes}
use Rattle.signature.specs.Keys.{packed, expanded, seed_bytes, vk_vector, public_of, digest_of, with_digest, DigestTrue}
use Rattle.signature.specs.Table.{Tabled}
use Rattle.signature.specs.declared.lent.LentKey.{LentKey}
use Rattle.signature.proofs.Fronts.{front_long, front-in, front-is}
use Rattle.signature.proofs.Sizes.{part-all}

-- t is read from the public key alone, whatever stands behind it
pub vector-front : (p : Params) → p.vk_bytes ≡ seed_bytes p + p.k * 448 → (key : List ℕ) → vk_vector p (vk_in p key) ≡ vk_vector p key
unfolding vk_vector
vector-front p e key =
    let z : 0 + seed_bytes p ≡ seed_bytes p = omega arith in
    ap (repack 8 7 (p.k * 512))
    (span-span key 0 p.vk_bytes (seed_bytes p) (p.k * 448) (omega (arith, e)) ∙ ap (λ (n : ℕ). take (p.k * 448) (drop n key)) z)

-- check 4 of it, as `public_key_good` answers it of the whole key
pub good-front : (p : Params) → Tabled p → (key : List ℕ) {r : Bool}
    → r ≡ all_below 125 (repack 8 7 (p.k * 512) (take (p.k * 448) (drop (seed_bytes p) key))) → public_key_good p (vk_in p key) ≡ r
unfolding vk_vector
good-front p h key e = ap (all_below 125) (vector-front p h.vk key) ∙ sym e

-- the hash of a public key, behind it, is a true digest
pub behind-true : (p : Params) (vk : List ℕ) → length vk ≡ p.vk_bytes → digest_in p (vk ++ digest_for p vk) ≡ digest_for p (vk_in p (vk ++ digest_for p vk))
behind-true p vk l = drop_at vk (digest_for p vk) p.vk_bytes l ∙ ap (digest_for p) (sym (take_at vk (digest_for p vk) p.vk_bytes l))

-- .. as expanding leaves it
pub computed-true : (p : Params) (key words : List ℕ) → p.vk_bytes ≤ length key → DigestTrue p (expanded (expanded_in (with_digest p (packed key)) words))
computed-true p key words h = behind-true p (vk_in p key) (length-take-le p.vk_bytes key h)

-- the public key is the front of a key's bytes
module _ (p : Params) where
  pub public-is : (K : LentKey) → public_of p (key_lent K) ≡ vk_in p (key_bytes K)
  public-is (LentKey.Signing key) = refl
  public-is (LentKey.Expanded bytes words) = refl

  pub public-front : (K : LentKey) → take (p.vk_bytes - 0) (key_bytes K) ≡ public_of p (key_lent K)
  public-front K =
      let e : p.vk_bytes - 0 ≡ p.vk_bytes = omega arith in
      ap (λ (n : ℕ). take n (key_bytes K)) e ∙ sym (public-is K)

  pub public-held : (K : LentKey) → BytesHeld p K → p.vk_bytes ≤ length (key_bytes K)
  public-held (LentKey.Signing key) h = h
  public-held (LentKey.Expanded bytes words) h = omega (arith, h)

-- an expanded key's own bytes
pub bytes-again : (p : Params) (bytes words : List ℕ) → with_digest p (expanded (expanded_in bytes words)) ≡ bytes
bytes-again p bytes words = take-append-drop p.vk_bytes bytes

-- ---- what the code writes

-- the digest of either form into out
module _ (p : Params) (key : List ℕ) {ys : List ℕ} where
  pub digest-computed : (out : List ℕ) → length out ≡ hash_bytes p → ys ≡ shake256 (take (p.vk_bytes - 0) key) (length out) → ys ≡ digest_of p (packed key)
  unfolding key_hash
  digest-computed out n e =
      let k : p.vk_bytes - 0 ≡ p.vk_bytes = omega arith in
      e ∙ ap (shake256 (take (p.vk_bytes - 0) key)) n ∙ ap (λ (m : ℕ). shake256 (take m key) (hash_bytes p)) k

  pub digest-lent : ys ≡ take (length key - p.vk_bytes) (drop p.vk_bytes key) → ys ≡ digest_in p key
  digest-lent e = e ∙ part-all p.vk_bytes key

-- .. that is lent is as long as out
pub lent-long : (p : Params) (key out : List ℕ) → length key ≡ expanded_bytes p → length out ≡ hash_bytes p
    → length out ≡ length (take (length key - p.vk_bytes) (drop p.vk_bytes key))
lent-long p key out k o = o ∙ sym (ap (λ (l : List ℕ). length l) (part-all p.vk_bytes key) ∙ length-drop p.vk_bytes key ∙ omega (arith, k))

-- .. in the front of an array of 64 bytes
module _ (p : Params) (h : hash_bytes p ≤ 64) (ys : List ℕ) (l : length ys ≡ length {A = ℕ} (take (hash_bytes p - 0) (replicate 64 0))) where
  front-digest-long : length ys ≡ hash_bytes p
  front-digest-long = l ∙ front_long 0 (hash_bytes p) 64 h

  pub front-digest-in : hash_bytes p ≤ length (put_mid 0 (hash_bytes p - 0) (replicate 64 0) ys)
  front-digest-in = front-in (hash_bytes p) (replicate 64 0) ys h front-digest-long

  pub front-digest-is : (D : List ℕ) → ys ≡ D → take (hash_bytes p - 0) (put_mid 0 (hash_bytes p - 0) (replicate 64 0) ys) ≡ D
  front-digest-is D e = front-is (hash_bytes p) (replicate 64 0) ys h front-digest-long ∙ e

-- X, the first e bytes of the key, in front of out, and D in the h bytes behind it
module _ (key out X : List ℕ) (e h : ℕ) (x : X ≡ take e key) (l : e ≤ length key) (o : length out ≡ e + h) where
  abbrev out_behind : List ℕ
  out_behind = drop e out

  front-bytes-long : length X ≡ e
  front-bytes-long = ap (λ (ys : List ℕ). length ys) x ∙ length-take-le e key l

  out-behind-long : length out_behind ≡ h
  out-behind-long = length-drop e out ∙ omega (arith, o)

  pub behind-long : length (take (e + h - e) (drop e (X ++ out_behind))) ≡ h
  behind-long =
      let k : e + h - e ≡ h = omega arith in
      ap (λ (n : ℕ). length (take n (drop e (X ++ out_behind)))) k
      ∙ ap (λ (ys : List ℕ). length (take h ys)) (drop_at X out_behind e front-bytes-long)
      ∙ length-take-le h out_behind (omega (arith, out-behind-long))

  pub put-behind : (D : List ℕ) → put (X ++ out_behind) e (e + h - e) D ≡ take e key ++ D
  put-behind D =
      let k : length out_behind ≤ e + h - e = omega (arith, out-behind-long) in
      put-seam X out_behind e (e + h - e) D front-bytes-long
      ∙ ap (λ (ys : List ℕ). X ++ (D ++ ys)) (drop_of_length-le out_behind k)
      ∙ ap (λ (ys : List ℕ). X ++ ys) (append-nil D)
      ∙ ap (λ (ys : List ℕ). ys ++ D) x
