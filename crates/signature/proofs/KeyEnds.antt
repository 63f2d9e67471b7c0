-- Key generation's checks and its ends: what passing gives, and the outcome at each return.
use Prim.Native.Nat.{ℕ}
use mathlib.Core.Path.{◌≡◌, refl, sym, ap, ◌∙◌}
use mathlib.Core.Bool.{Bool, true, false}
use mathlib.Core.List.{List, [], ◌∷◌, ◌++◌}
use lib.ListN.{length}
use Rattle.hash.specs.Params.{lookup_of, refusal_of}
use Rattle.hash.specs.Refusal.{number_of}
use Rattle.hash.specs.declared.params.Edition.{Edition}
use Rattle.hash.specs.declared.params.Params.{Params}
use Rattle.std.specs.Prelude.{Ok, Err}
use Rattle.hash.specs.declared.params.Unknown.{Unknown}
use Rattle.signature.specs.Keys.{keygen_bytes, keygen_of, keygen_masks_fill}
use Rattle.signature.specs.Checks.{first_no, work_words, keygen_seeds_sized, keygen_buffers_sized}
use Rattle.signature.specs.KeyCalls.{keygen_leaves, keygen_call}
use Rattle.signature.specs.Matrix.{filled}
use Rattle.signature.specs.Outcome.{outcome}
use Rattle.ring.proofs.Checks.{asked, no-before, yes-before}
use Rattle.signature.proofs.Asked.{sizes}

-- ---- the checks behind the look-up: of the sizes, and of what is drawn

abbrev pub keygen_behind : Params → List ℕ → List ℕ → List ℕ → List ℕ → List (ℕ × Bool)
keygen_behind p seeds mask out work = (7, keygen_seeds_sized p seeds mask) ∷ (8, keygen_buffers_sized p out work) ∷ []

abbrev pub keygen_last : Params → List ℕ → List ℕ → List (ℕ × Bool)
keygen_last p seeds mask = (10, filled (keygen_of p seeds mask)) ∷ (20, keygen_masks_fill p seeds mask) ∷ []

pub record Passed (p : Params) (seeds mask out work : List ℕ) : Type 0 where
  pub seeds-long : length seeds ≡ keygen_bytes p
  pub mask-long : length mask ≡ 32
  pub out-long : length out ≡ p.sk_bytes
  pub work-long : length work ≡ work_words p

pub passed : (p : Params) (seeds mask out work : List ℕ) → first_no (keygen_behind p seeds mask out work) ≡ 0 → Passed p seeds mask out work
passed p seeds mask out work e =
    let a = asked 6 (keygen_seeds_sized p seeds mask) _ e in
    let b = asked 7 (keygen_buffers_sized p out work) _ a.1 in
    let s = sizes (length seeds) (keygen_bytes p) (length mask) 32 a.0 in
    let t = sizes (length out) p.sk_bytes (length work) (work_words p) b.0 in
    record { seeds-long = s.0; mask-long = s.1; out-long = t.0; work-long = t.1 }

-- ---- the ends

module _ (e : Edition) (set d : ℕ) (seeds mask out work : List ℕ) where
  pub keygen-unknown : (u : Unknown) → lookup_of set d e ≡ Err u → outcome (number_of (refusal_of u)) out work ≡ keygen_call e set d seeds mask out work
  unfolding keygen_call
  keygen-unknown Unknown.Set h = rw h refl
  keygen-unknown Unknown.Shares h = rw h refl

  module _ (p : Params) (h : lookup_of set d e ≡ Ok p) where
    keygen-is : keygen_leaves (first_no (keygen_behind p seeds mask out work ++ keygen_last p seeds mask)) p seeds mask out work
        ≡ keygen_call e set d seeds mask out work
    unfolding keygen_call
    keygen-is = rw h refl

    -- 7 and 8 leave both buffers as they were
    early : (a b : Bool) (n : ℕ) → n ≡ first_no ((7, a) ∷ (8, b) ∷ []) → (n ≡ 0 → ⊥) → outcome n out work ≡ keygen_leaves n p seeds mask out work
    early true true n k f = absurd (f k)
    early true false n k f = rw k refl
    early false b n k f = rw k refl

    pub keygen-refused : (n : ℕ) → n ≡ first_no (keygen_behind p seeds mask out work) → (n ≡ 0 → ⊥)
        → outcome n out work ≡ keygen_call e set d seeds mask out work
    keygen-refused n k f =
        early (keygen_seeds_sized p seeds mask) (keygen_buffers_sized p out work) n k f
        ∙ ap (λ (m : ℕ). keygen_leaves m p seeds mask out work) (no-before (keygen_behind p seeds mask out work) (keygen_last p seeds mask) n k f)
        ∙ keygen-is

    pub keygen-on : first_no (keygen_behind p seeds mask out work) ≡ 0
        → keygen_leaves (first_no (keygen_last p seeds mask)) p seeds mask out work ≡ keygen_call e set d seeds mask out work
    keygen-on k =
        ap (λ (m : ℕ). keygen_leaves m p seeds mask out work)
        (sym (yes-before (keygen_behind p seeds mask out work) (keygen_last p seeds mask) refl k))
        ∙ keygen-is
