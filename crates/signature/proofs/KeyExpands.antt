-- A signing key that key generation made is expanded (01, "Figures"): no check of expanding says no, and the secret is the one it was made of.
use Prim.Native.Nat.{ℕ, ◌*◌}
use mathlib.Core.Path.{◌≡◌, refl, sym, ap, subst, ◌∙◌}
use mathlib.Core.Bool.{Bool, true}
use mathlib.Core.List.{List, [], ◌∷◌}
use mathlib.Core.Option.{some}
use borrow.Author.Tests.{eq-eqb}
use lib.ListN.{length}
use Rattle.hash.specs.Params.{lookup_of}
use Rattle.hash.specs.declared.params.Edition.{Edition}
use Rattle.hash.specs.declared.params.Params.{Params}
use Rattle.std.specs.Prelude.{Ok}
use Rattle.hash.proofs.Rows.{found, count-power}
use Rattle.ring.specs.Words.{q, Words, all_below}
use Rattle.ring.proofs.Checks.{below-yes}
use Rattle.sharing.specs.Encoding.{refreshed}
use Rattle.sharing.specs.Masks.{masks, mask_start}
use Rattle.sharing.proofs.Carry.{mask_low}
use Rattle.sharing.proofs.Totals.{refreshed-words, refreshed-totals}
use Rattle.signature.specs.Keys.{keygen_bytes, keygen_of, noise_part, expand_of, packed, with_digest, generated_of}
use Rattle.signature.specs.Checks.{first_no, expanded_key_sized}
use Rattle.signature.specs.KeyCalls.{expand_call, refresh_checks, refresh_call}
use Rattle.signature.specs.ExpandedKey.{ExpandedKey, expanded_in, secret_at, Holds}
use Rattle.signature.specs.Matrix.{filled}
use Rattle.signature.specs.Outcome.{Outcome, outcome}
use Rattle.signature.proofs.Listing.{tabled}
use Rattle.signature.proofs.Asked.{refreshable, refresh-done, expand_behind, expand-done}
use Rattle.signature.proofs.Digests.{vector-front}
use Rattle.signature.proofs.KeyMade.{made, expand-made, vector-words}
use Rattle.signature.proofs.Secrets.{holds_as}
use Rattle.signature.proofs.KeySecret.{Expansion, expansion}

-- a call that ends with 0 and leaves an expanded key with these bytes and of this secret
pub record Leaves (p : Params) (bytes : List ℕ) (secret : ℕ → ℕ → ℕ) (o : Outcome) : Type 0 where
  pub status : o.status ≡ 0
  pub holds : Holds p bytes secret (expanded_in o.bytes o.words)

yes : (a b c d : Bool) → a ≡ true → b ≡ true → c ≡ true → d ≡ true → first_no ((3, a) ∷ (4, b) ∷ (5, c) ∷ (8, d) ∷ []) ≡ 0
yes a b c d ha hb hc hd = rw (ha, hb, hc, hd)

expand-goes : (e : Edition) (set d : ℕ) (p : Params) (key bytes words s : List ℕ) → lookup_of set d e ≡ Ok p
    → first_no (expand_behind p key bytes words) ≡ 0 → expand_of p key ≡ some s → expand_call e set d key bytes words ≡ outcome 0 (with_digest p (packed key)) s
unfolding filled
expand-goes e set d p key bytes words s h n o =
    sym (expand-done e set d key bytes words p (sym h) 0 (sym n) refl (outcome 0 (with_digest p (packed key)) s) (rw o refl))

module _ (e : Edition) (set d : ℕ) (p : Params) (h : lookup_of set d e ≡ Ok p) (seeds mask key : List ℕ)
    (l : length seeds ≡ keygen_bytes p) (k : keygen_of p seeds mask ≡ some key) where
  pub made-passes : (bytes words : List ℕ) → expanded_key_sized p bytes words ≡ true → first_no (expand_behind p key bytes words) ≡ 0
  made-passes bytes words s =
      let m = made p seeds mask key k in
      let r = expand-made p (found set d e p h).rule (tabled set d e p h).shares-pos seeds mask key l m in
      yes _ _ _ _ (eq-eqb _ _ r.long)
      (ap (all_below 125) (vector-front p (found set d e p h).rule.vk key ∙ r.vector) ∙ below-yes 125 _ (vector-words p (noise_part p seeds) (mask_start mask) m.A).low)
      (ap (all_below q) r.full ∙ below-yes q m.x r.words.low) s

  pub made-expansion : Expansion p seeds mask key
  made-expansion = expansion p seeds mask key (found set d e p h).rule (tabled set d e p h).shares-pos l k

  pub made-expands : (bytes words : List ℕ) → expanded_key_sized p bytes words ≡ true
      → Leaves p (with_digest p (packed key)) (secret_at p.shares (generated_of p seeds mask key)) (expand_call e set d key bytes words)
  made-expands bytes words s =
      subst (Leaves p (with_digest p (packed key)) (secret_at p.shares (generated_of p seeds mask key)))
      (sym (expand-goes e set d p key bytes words made-expansion.share_words h (made-passes bytes words s) made-expansion.is))
      (record { status = refl; holds = made-expansion.holds })

-- refreshing that passes its checks keeps the bytes, whatever digest is in them, and the secret
pub refresh-keeps : (set d : ℕ) (p : Params) → lookup_of set d Edition.Printed ≡ Ok p
    → (K : ExpandedKey) (mask bytes words : List ℕ) → first_no (refresh_checks (Ok p) p K mask bytes words) ≡ 0
    → Leaves p K.bytes (secret_at p.shares K) (refresh_call set d K mask bytes words)
refresh-keeps set d p h K mask bytes words n =
    let r = refreshable p K mask bytes words n in
    let w : Words (p.l * (p.shares * 512)) K.words = record { long = r.shares-long; low = r.shares-low } in
    let power = count-power p.shares (tabled set d Edition.Printed p h).count in
    let J : ExpandedKey = record { bytes = K.bytes; words = refreshed masks p.shares (mask_start mask) p.l K.words } in
    subst (Leaves p K.bytes (secret_at p.shares K)) (refresh-done set d K mask bytes words p (sym h) 0 (sym n) refl J.bytes J.words refl refl)
    (record {
      status = refl;
      holds =
          holds_as p K J w (refreshed-words masks mask_low p.shares power p.l K.words w (mask_start mask)) refl
          (refreshed-totals masks mask_low p.shares power p.l K.words w (mask_start mask));
    })
