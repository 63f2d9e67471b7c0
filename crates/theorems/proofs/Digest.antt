-- #102 of paper 02, over the definitions that the contracts of the calls cite: expanding gives a true digest, refreshing keeps the bytes, true or not.
use mathlib.Core.Path.{◌≡◌, sym, ap, subst, ◌∙◌}
use mathlib.Core.List.{List, []}
use Prim.Native.Nat.{ℕ}
use native.Mathlib.Omega.{arith}
use borrow.Author.Tests.{eqb-true}
use lib.ListN.{length}
use Rattle.hash.specs.Params.{lookup_of}
use Rattle.hash.specs.declared.params.Edition.{Edition}
use Rattle.hash.specs.declared.params.Params.{Params}
use Rattle.std.specs.Prelude.{Result, Ok}
use Rattle.hash.specs.declared.params.Unknown.{Unknown}
use Rattle.hash.proofs.Rows.{found}
use Rattle.ring.proofs.Checks.{asked}
use Rattle.signature.specs.Checks.{first_no, signing_key_sized}
use Rattle.signature.specs.ExpandedKey.{ExpandedKey, expanded_in}
use Rattle.signature.specs.KeyCalls.{expand_checks, expand_call, refresh_call}
use Rattle.signature.specs.Keys.{packed, expanded, with_digest, DigestTrue}
use Rattle.signature.specs.Outcome.{written, found_in}
use Rattle.signature.proofs.Digests.{computed-true}

-- a key of the record p with these bytes, whatever its words
abbrev TrueBytes : Params → List ℕ → Type 0
TrueBytes p bytes = DigestTrue p (expanded (expanded_in bytes []))

-- what expanding leaves with 0: the public key, and behind it its hash
pub expanded-true : (e : Edition) (set d : ℕ) (p : Params) → lookup_of set d e ≡ Ok p → (key bytes words : List ℕ)
    → (expand_call e set d key bytes words).status ≡ 0
    → ((expand_call e set d key bytes words).bytes ≡ with_digest p (packed key)) × TrueBytes p (expand_call e set d key bytes words).bytes
unfolding expand_call
expanded-true e set d p is key bytes words h =
    let n = ap (λ (s : Result Params Unknown). first_no (expand_checks s (found_in s) key bytes words)) is in
    let z : first_no (expand_checks (Ok p) p key bytes words) ≡ 0 = sym n ∙ h in
    let long = eqb-true (length key) p.sk_bytes (asked 2 (signing_key_sized p key) _ z).0 in
    let left : (expand_call e set d key bytes words).bytes ≡ with_digest p (packed key) =
    ap (λ (s : Result Params Unknown). written (first_no (expand_checks s (found_in s) key bytes words)) (with_digest (found_in s) (packed key)) bytes) is
    ∙ ap (λ (m : ℕ). written m (with_digest p (packed key)) bytes) z in
    (left, subst (TrueBytes p) (sym left) (computed-true p key [] (omega (arith, (found set d e p is).rule.sk, long))))

-- what refreshing leaves with 0: the bytes that it was lent, and so their digest, true or not
pub refreshed-bytes : (set d : ℕ) (K : ExpandedKey) (mask bytes words : List ℕ) → (refresh_call set d K mask bytes words).status ≡ 0
    → (refresh_call set d K mask bytes words).bytes ≡ K.bytes
unfolding refresh_call
refreshed-bytes set d K mask bytes words h = ap (λ (n : ℕ). written n K.bytes bytes) h

pub refreshed-true : (set d : ℕ) (p : Params) (K : ExpandedKey) (mask bytes words : List ℕ) → (refresh_call set d K mask bytes words).status ≡ 0
    → DigestTrue p (expanded K) → TrueBytes p (refresh_call set d K mask bytes words).bytes
refreshed-true set d p K mask bytes words h t = subst (TrueBytes p) (sym (refreshed-bytes set d K mask bytes words h)) t
