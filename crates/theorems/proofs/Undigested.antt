-- Signatures are byte for byte what they were before #102: a call whose key's digest is true gives and leaves what the former call did, in status,
-- attempts and every buffer, after refusals too. With a signing key it always does.
use mathlib.Core.Path.{◌≡◌, refl, sym, ap, ◌∙◌}
use mathlib.Core.Bool.{Bool, true, false}
use mathlib.Core.List.{List}
use Prim.Native.Nat.{ℕ, ◌+◌, ◌-◌, ◌≤◌, ◌<◌}
use native.Mathlib.Omega.{arith}
use borrow.Author.Tests.{leb-true, leb-false, eq-eqb}
use lib.Dec.{eqb, leb}
use lib.ListN.{length, take, drop, length-drop}
use lib.Seq.{length-take-le, take_all}
use Rattle.hash.specs.Params.{lookup_of}
use Rattle.hash.specs.declared.params.Edition.{Edition}
use Rattle.hash.specs.declared.params.Params.{Params}
use Rattle.std.specs.Prelude.{Result, Ok, Err}
use Rattle.hash.specs.declared.params.Unknown.{Unknown}
use Rattle.hash.proofs.Rows.{Rule, found}
use Rattle.hash.proofs.Output.{output-length}
use Rattle.ring.specs.Words.{all_below}
use Rattle.signature.specs.Digest.{key_hash, bound_to}
use Rattle.signature.specs.ExpandedKey.{ExpandedKey, vk_in, digest_in}
use Rattle.signature.specs.Form.{hash_bytes}
use Rattle.signature.specs.Keys.{DigestTrue}
use Rattle.signature.specs.Outcome.{Outcome, found_in}
use Rattle.signature.specs.Sign.{Coins}
use Rattle.signature.specs.SignCalls.{Key, sign_by, left_by, sign_of, sign_call}
use Rattle.signature.specs.SignCalls.Key.{packed, expanded}
use Rattle.signature.proofs.Digests.{vector-front}
use Rattle.theorems.specs.Undigested.{undigested, sign_then, sign_call_then}

-- ---- the checks

-- check 3: with a true digest behind it, bytes are as long as they should be where the public key is
sized-then : (v h : ℕ) (bytes : List ℕ) → length (drop v bytes) ≡ h → eqb (length bytes) (v + h) ≡ eqb (length (take v bytes)) v
sized-then v h bytes e = go (leb v (length bytes)) refl
  where
    l : length bytes - v ≡ h
    l = sym (length-drop v bytes) ∙ e

    go : (b : Bool) → leb v (length bytes) ≡ b → eqb (length bytes) (v + h) ≡ eqb (length (take v bytes)) v
    go true i =
        let m : v ≤ length bytes = leb-true v (length bytes) i in
        eq-eqb (length bytes) (v + h) (omega (arith, l)) ∙ sym (eq-eqb (length (take v bytes)) v (length-take-le v bytes m))
    go false i =
        let m : length bytes < v = leb-false v (length bytes) i in
        let k : v + h ≡ v = omega (arith, l) in
        ap (eqb (length bytes)) k ∙ ap (λ (xs : List ℕ). eqb (length xs) v) (sym (take_all v bytes (omega arith)))

true-long : (p : Params) (K : ExpandedKey) → DigestTrue p (expanded K) → length (digest_in p K.bytes) ≡ hash_bytes p
unfolding key_hash
true-long p K t = ap (λ (xs : List ℕ). length xs) t ∙ output-length (vk_in p K.bytes) (hash_bytes p)

-- of a record that was found
found-as-before : (p : Params) → Rule p → (key : Key) → DigestTrue p key → (n : ℕ) (msg : List ℕ) (T : Coins) (out work : List ℕ)
    → sign_by (Ok p) p key n msg T out work ≡ sign_then (Ok p) p (undigested p key) n msg T out work
unfolding key_hash bound_to
found-as-before p r (packed key) t n msg T out work = rw (ap (all_below 125) (vector-front p r.vk key)) refl
found-as-before p r (expanded K) t n msg T out work =
    rw (sized-then p.vk_bytes (hash_bytes p) K.bytes (true-long p K t), t) refl

pub signed-as-before : (e : Edition) (set d : ℕ) (key : Key) (n : ℕ) (msg : List ℕ) (T : Coins) (out work : List ℕ)
    → ((p : Params) → lookup_of set d e ≡ Ok p → DigestTrue p key)
    → sign_call e set d key n msg T out work ≡ sign_call_then e set d (undigested (found_in (lookup_of set d e)) key) n msg T out work
unfolding sign_call sign_of sign_call_then
signed-as-before e set d key n msg T out work t = go (lookup_of set d e) refl
  where
    go : (s : Result Params Unknown) → lookup_of set d e ≡ s
        → left_by (sign_by s (found_in s) key n msg T out work) out work ≡ left_by (sign_then s (found_in s) (undigested (found_in s) key) n msg T out work) out work
    go (Err Unknown.Set) i = refl
    go (Err Unknown.Shares) i = refl
    go (Ok p) i =
        ap (λ (A : Outcome). left_by A out work) (found-as-before p (found set d e p i).rule key (t p i) n msg T out work)

pub packed-as-before : (e : Edition) (set d : ℕ) (key : List ℕ) (n : ℕ) (msg : List ℕ) (T : Coins) (out work : List ℕ)
    → sign_call e set d (packed key) n msg T out work ≡ sign_call_then e set d (packed key) n msg T out work
packed-as-before e set d key n msg T out work = signed-as-before e set d (packed key) n msg T out work (λ p i. refl)
