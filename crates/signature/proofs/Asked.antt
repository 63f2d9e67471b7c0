-- The checks of expanding and refreshing (01, "Questions put to a call"): what is known where none is a no, and the ends of a call.
use mathlib.Core.Path.{◌≡◌, refl, sym, ap, ◌∙◌}
use mathlib.Core.Bool.{Bool, true}
use mathlib.Core.List.{List, [], ◌∷◌, ◌++◌}
use Prim.Native.Nat.{ℕ, zero, suc, ◌*◌}
use borrow.Author.Tests.{eqb-true}
use lib.Dec.{eqb}
use lib.ListN.{length, drop}
use Rattle.hash.specs.Params.{lookup_of, refusal_of}
use Rattle.hash.specs.Refusal.{number_of}
use Rattle.hash.specs.declared.params.Edition.{Edition}
use Rattle.hash.specs.declared.params.Params.{Params}
use Rattle.std.specs.Prelude.{Ok, Err}
use Rattle.hash.specs.declared.params.Unknown.{Unknown}
use Rattle.ring.specs.Words.{q, Below}
use Rattle.ring.proofs.Sums.{all-below}
use Rattle.ring.proofs.Checks.{asked, no-before, yes-before, both_true}
use Rattle.sharing.specs.Encoding.{refreshed}
use Rattle.sharing.specs.Masks.{masks, mask_start}
use Rattle.signature.specs.Matrix.{filled}
use Rattle.signature.specs.Keys.{packed, expanded, full_share, expand_of, expanded_of, refresh_of, refresh_masks_fill, refreshed_of}
use Rattle.signature.specs.Checks.{first_no, both, signing_key_sized, expanded_key_sized, public_key_good, full_share_good, share_words_good, mask_seed_sized, key_checks}
use Rattle.signature.specs.ExpandedKey.{ExpandedKey, expanded_bytes, vk_in}
use Rattle.signature.specs.KeyCalls.{key_leaves, expand_call, refresh_call}
use Rattle.signature.specs.Outcome.{Outcome, outcome}

pub sizes : (x v y n : ℕ) → both (eqb x v) (eqb y n) ≡ true → (x ≡ v) × (y ≡ n)
sizes x v y n e = let b = both_true (eqb x v) (eqb y n) e in (eqb-true x v b.0, eqb-true y n b.1)

-- ---- refreshing

-- the checks behind those of the key, and all behind the look-up
abbrev pub refresh_last : Params → List ℕ → List ℕ → List ℕ → List (ℕ × Bool)
refresh_last p mask bytes words = (7, mask_seed_sized mask) ∷ (8, expanded_key_sized p bytes words) ∷ (20, refresh_masks_fill p mask) ∷ []

abbrev pub refresh_behind : Params → ExpandedKey → List ℕ → List ℕ → List ℕ → List (ℕ × Bool)
refresh_behind p K mask bytes words = key_checks p (expanded K) ++ refresh_last p mask bytes words

pub record Refreshable (p : Params) (K : ExpandedKey) (bytes words : List ℕ) : Type 0 where
  pub key-long : length K.bytes ≡ expanded_bytes p
  pub shares-long : length K.words ≡ p.l * (p.shares * 512)
  pub shares-low : Below q K.words
  pub bytes-long : length bytes ≡ expanded_bytes p
  pub words_long : length words ≡ p.l * (p.shares * 512)

pub refreshable : (p : Params) (K : ExpandedKey) (mask bytes words : List ℕ) → first_no (refresh_behind p K mask bytes words) ≡ 0
    → Refreshable p K bytes words
refreshable p K mask bytes words e =
    let a3 = asked 2 (expanded_key_sized p K.bytes K.words) _ e in
    let a4 = asked 3 (public_key_good p (vk_in p K.bytes)) _ a3.1 in
    let a5 = asked 4 (share_words_good K.words) _ a4.1 in
    let a7 = asked 6 (mask_seed_sized mask) _ a5.1 in
    let a8 = asked 7 (expanded_key_sized p bytes words) _ a7.1 in
    let s3 = sizes (length K.bytes) (expanded_bytes p) (length K.words) (p.l * (p.shares * 512)) a3.0 in
    let s8 = sizes (length bytes) (expanded_bytes p) (length words) (p.l * (p.shares * 512)) a8.0 in
    record { key-long = s3.0; shares-long = s3.1; shares-low = all-below q K.words a5.0; bytes-long = s8.0; words_long = s8.1 }

module _ (set d : ℕ) (K : ExpandedKey) (mask bytes words : List ℕ) where
  pub refresh-unknown : (u : Unknown) → Err u ≡ lookup_of set d Edition.Printed → outcome (number_of (refusal_of u)) bytes words ≡ refresh_call set d K mask bytes words
  unfolding refresh_call
  refresh-unknown Unknown.Set e = rw (← e) refl
  refresh-unknown Unknown.Shares e = rw (← e) refl

  module _ (p : Params) (f : Ok p ≡ lookup_of set d Edition.Printed) where
    refresh-is : key_leaves (first_no (refresh_behind p K mask bytes words)) (refreshed_of p K mask) bytes words ≡ refresh_call set d K mask bytes words
    unfolding refresh_call
    refresh-is = rw (← f) refl

    pub refresh-refused : (k : ℕ) → k ≡ first_no (refresh_behind p K mask bytes words) → (k ≡ 0 → ⊥)
        → outcome k bytes words ≡ refresh_call set d K mask bytes words
    refresh-refused zero n h = absurd (h refl)
    refresh-refused (suc k) n h = ap (λ (m : ℕ). key_leaves m (refreshed_of p K mask) bytes words) n ∙ refresh-is

    pub refresh-done : (k : ℕ) → k ≡ first_no (refresh_behind p K mask bytes words) → k ≡ 0 → (b w : List ℕ) → b ≡ K.bytes
        → w ≡ refreshed masks p.shares (mask_start mask) p.l K.words → outcome k b w ≡ refresh_call set d K mask bytes words
    unfolding refresh_of
    refresh-done k n z b w eb ew =
        (λ i. outcome (z i) (eb i) (ew i)) ∙ ap (λ (m : ℕ). key_leaves m (refreshed_of p K mask) bytes words) (sym z ∙ n) ∙ refresh-is

-- ---- expanding

-- the checks behind the look-up, but the last
abbrev pub expand_behind : Params → List ℕ → List ℕ → List ℕ → List (ℕ × Bool)
expand_behind p key bytes words = key_checks p (packed key) ++ ((8, expanded_key_sized p bytes words) ∷ [])

pub record Expandable (p : Params) (key bytes words : List ℕ) : Type 0 where
  pub key-long : length key ≡ p.sk_bytes
  pub share-low : Below q (full_share p (drop p.vk_bytes key))
  pub bytes-long : length bytes ≡ expanded_bytes p
  pub words_long : length words ≡ p.l * (p.shares * 512)

pub expandable : (p : Params) (key bytes words : List ℕ) → first_no (expand_behind p key bytes words) ≡ 0 → Expandable p key bytes words
expandable p key bytes words e =
    let a3 = asked 2 (signing_key_sized p key) _ e in
    let a4 = asked 3 (public_key_good p (vk_in p key)) _ a3.1 in
    let a5 = asked 4 (full_share_good p key) _ a4.1 in
    let a8 = asked 7 (expanded_key_sized p bytes words) _ a5.1 in
    let s8 = sizes (length bytes) (expanded_bytes p) (length words) (p.l * (p.shares * 512)) a8.0 in
    record {
      key-long = eqb-true (length key) p.sk_bytes a3.0;
      share-low = all-below q (full_share p (drop p.vk_bytes key)) a5.0;
      bytes-long = s8.0;
      words_long = s8.1;
    }

module _ (ed : Edition) (set d : ℕ) (key bytes words : List ℕ) where
  pub expand-unknown : (u : Unknown) → Err u ≡ lookup_of set d ed → outcome (number_of (refusal_of u)) bytes words ≡ expand_call ed set d key bytes words
  unfolding expand_call
  expand-unknown Unknown.Set e = rw (← e) refl
  expand-unknown Unknown.Shares e = rw (← e) refl

  module _ (p : Params) (f : Ok p ≡ lookup_of set d ed) where
    abbrev last : List (ℕ × Bool)
    last = (10, filled (expand_of p key)) ∷ []

    expand-is : key_leaves (first_no (expand_behind p key bytes words ++ last)) (expanded_of p key) bytes words ≡ expand_call ed set d key bytes words
    unfolding expand_call
    expand-is = rw (← f) refl

    pub expand-refused : (k : ℕ) → k ≡ first_no (expand_behind p key bytes words) → (k ≡ 0 → ⊥) → outcome k bytes words ≡ expand_call ed set d key bytes words
    expand-refused zero n h = absurd (h refl)
    expand-refused (suc k) n h =
        ap (λ (m : ℕ). key_leaves m (expanded_of p key) bytes words) (no-before (expand_behind p key bytes words) last (suc k) n h) ∙ expand-is

    pub expand-done : (k : ℕ) → k ≡ first_no (expand_behind p key bytes words) → k ≡ 0 → (x : Outcome)
        → x ≡ key_leaves (first_no ((10, filled (expand_of p key)) ∷ [])) (expanded_of p key) bytes words → x ≡ expand_call ed set d key bytes words
    expand-done k n z x e =
        e
        ∙ ap (λ (m : ℕ). key_leaves m (expanded_of p key) bytes words)
        (sym (yes-before (expand_behind p key bytes words) last refl (sym n ∙ z)))
        ∙ expand-is
