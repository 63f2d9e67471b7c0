-- The set follows from the length of a signature (02, #101).
use mathlib.Core.Path.{◌≡◌, refl, sym, ap, ◌∙◌}
use mathlib.Core.Bool.{Bool, true, false, cond}
use mathlib.Core.List.{[], ◌∷◌}
use Prim.Native.Nat.{ℕ, ◌*◌, ◌≤◌}
use native.Mathlib.Omega.{arith}
use borrow.Author.Tests.{eqb-true}
use lib.Dec.{eqb}
use lib.ListN.{get_or}
use Rattle.std.specs.List.{find}
use Rattle.hash.specs.Lists.{pick, other_than}
use Rattle.hash.specs.Params.{rows, set_index, row_at, lookup_of}
use Rattle.hash.specs.declared.params.Edition.{Edition}
use Rattle.hash.specs.declared.params.Params.{Params}
use Rattle.std.specs.Prelude.{Ok, None, Some}
use Rattle.hash.proofs.Sets.{found-set}
use Rattle.ring.proofs.Checks.{absurd-bool}
use Rattle.slip.specs.Format.{signature_bytes, set_by_size}

bytes-128 : signature_bytes 128 ≡ 11524
unfolding lookup_of rows
bytes-128 = refl

bytes-192 : signature_bytes 192 ≡ 14544
unfolding lookup_of rows
bytes-192 = refl

bytes-256 : signature_bytes 256 ≡ 20330
unfolding lookup_of rows
bytes-256 = refl

-- n bytes are a signature of the set, and none has less than 11524 or more than 20330
pub record SizeFits (set n : ℕ) : Type 0 where
  pub size : signature_bytes set ≡ n
  pub low : 11524 ≤ n
  pub high : n ≤ 20330

pub size_fits : (n : ℕ) → 1 ≤ set_by_size n → SizeFits (set_by_size n) n
unfolding set_by_size
size_fits n = go (eqb n (signature_bytes 128)) (eqb n (signature_bytes 192)) (eqb n (signature_bytes 256)) refl refl refl
  where
    at : (set : ℕ) → eqb n (signature_bytes set) ≡ true → signature_bytes set ≡ n
    at set e = sym (eqb-true n (signature_bytes set) e)

    by : Bool → Bool → Bool → ℕ
    by a b c = pick a 128 (pick b 192 (pick c 256 0))

    go : (a b c : Bool) → eqb n (signature_bytes 128) ≡ a → eqb n (signature_bytes 192) ≡ b → eqb n (signature_bytes 256) ≡ c → 1 ≤ by a b c → SizeFits (by a b c) n
    go true b c i j k h = record { size = at 128 i; low = omega (arith, at 128 i, bytes-128); high = omega (arith, at 128 i, bytes-128) }
    go false true c i j k h = record { size = at 192 j; low = omega (arith, at 192 j, bytes-192); high = omega (arith, at 192 j, bytes-192) }
    go false false true i j k h = record { size = at 256 k; low = omega (arith, at 256 k, bytes-256); high = omega (arith, at 256 k, bytes-256) }
    go false false false i j k h = absurd (omega arith)

-- no byte fits no set
pub none-by-size : set_by_size 0 ≡ 0
unfolding set_by_size lookup_of rows
none-by-size = refl

-- the set by the first length that is equal
pub first-set : (n : ℕ) → find (λ set. eqb n (signature_bytes set)) (128 ∷ 192 ∷ 256 ∷ []) ≡ other_than 0 (set_by_size n)
unfolding set_by_size
first-set n = go (eqb n (signature_bytes 128)) (eqb n (signature_bytes 192)) (eqb n (signature_bytes 256))
  where
    go : (a b c : Bool) → cond a (Some 128) (cond b (Some 192) (cond c (Some 256) None)) ≡ other_than 0 (pick a 128 (pick b 192 (pick c 256 0)))
    go true b c = refl
    go false true c = refl
    go false false true = refl
    go false false false = refl

-- ---- the signatures of a set are known by their length

by_row : (a b c : Bool) → eqb (pick a 0 (pick b 1 (pick c 2 3))) 3 ≡ false
    → set_by_size (get_or (row_at (6 * pick a 0 (pick b 1 (pick c 2 3)))) 10 0) ≡ pick a 128 (pick b 192 256)
unfolding set_by_size lookup_of rows
by_row true b c k = refl
by_row false true c k = refl
by_row false false true k = refl
by_row false false false k = absurd-bool k

set-is-one : (set : ℕ) → eqb (set_index set) 3 ≡ false → set ≡ pick (eqb set 128) 128 (pick (eqb set 192) 192 256)
set-is-one set = go (eqb set 128) (eqb set 192) (eqb set 256) refl refl refl
  where
    go : (a b c : Bool) → eqb set 128 ≡ a → eqb set 192 ≡ b → eqb set 256 ≡ c → eqb (pick a 0 (pick b 1 (pick c 2 3))) 3 ≡ false
        → set ≡ pick a 128 (pick b 192 256)
    go true b c i j k h = eqb-true set 128 i
    go false true c i j k h = eqb-true set 192 j
    go false false true i j k h = eqb-true set 256 k
    go false false false i j k h = absurd-bool h

pub size-of-set : (set d : ℕ) (e : Edition) (p : Params) → lookup_of set d e ≡ Ok p → set_by_size p.sig_bytes ≡ set
size-of-set set d e p row =
    let o = found-set set d e p row in
    ap (λ (r : Params). set_by_size r.sig_bytes) o.first-row
    ∙ by_row (eqb set 128) (eqb set 192) (eqb set 256) o.known ∙ sym (set-is-one set o.known)

pub set-pos : (set d : ℕ) (e : Edition) (p : Params) → lookup_of set d e ≡ Ok p → 1 ≤ set
set-pos set d e p row = go (eqb set 128) (eqb set 192) (set-is-one set (found-set set d e p row).known)
  where
    go : (a b : Bool) → set ≡ pick a 128 (pick b 192 256) → 1 ≤ set
    go true b i = omega (arith, i)
    go false true i = omega (arith, i)
    go false false i = omega (arith, i)
