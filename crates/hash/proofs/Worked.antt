-- The worked instance P11 of paper 01, of the table itself, and the counts that P12 is made of, in any edition.
use mathlib.Core.Path.{◌≡◌, refl}
use Prim.Native.Nat.{ℕ}
use Rattle.hash.specs.declared.params.Edition.{Edition}
use Rattle.hash.specs.declared.params.Params.{Params}
use Rattle.std.specs.Prelude.{Ok}
use Rattle.hash.specs.Params.{rows, row_at, params_of, lookup_of}

-- a signing key of 128-4 has 14848 bytes, one of 256-32 has 27008
pub p11-small : (e : Edition) → (p : Params) × ((lookup_of 128 4 e ≡ Ok p) × (p.sk_bytes ≡ 14848))
unfolding lookup_of rows
p11-small e = (params_of (row_at 2) e, (refl, refl))

pub p11-large : (e : Edition) → (p : Params) × ((lookup_of 256 32 e ≡ Ok p) × (p.sk_bytes ≡ 27008))
unfolding lookup_of rows
p11-large e = (params_of (row_at 17) e, (refl, refl))

-- kappa, shares, k, l and repetitions of a row
pub record Counts (κ d k l r : ℕ) (p : Params) : Type 0 where
  pub kappa-is : p.kappa ≡ κ
  pub shares-is : p.shares ≡ d
  pub k-is : p.k ≡ k
  pub l-is : p.l ≡ l
  pub rep-is : p.rep ≡ r

-- those of 128-1, 128-2 and 128-32
pub counts-1 : (e : Edition) → (p : Params) × ((lookup_of 128 1 e ≡ Ok p) × Counts 128 1 5 4 8 p)
unfolding lookup_of rows
counts-1 e = (params_of (row_at 0) e, (refl, record { kappa-is = refl; shares-is = refl; k-is = refl; l-is = refl; rep-is = refl }))

pub counts-2 : (e : Edition) → (p : Params) × ((lookup_of 128 2 e ≡ Ok p) × Counts 128 2 5 4 4 p)
unfolding lookup_of rows
counts-2 e = (params_of (row_at 1) e, (refl, record { kappa-is = refl; shares-is = refl; k-is = refl; l-is = refl; rep-is = refl }))

pub counts-32 : (e : Edition) → (p : Params) × ((lookup_of 128 32 e ≡ Ok p) × Counts 128 32 5 4 4 p)
unfolding lookup_of rows
counts-32 e = (params_of (row_at 5) e, (refl, record { kappa-is = refl; shares-is = refl; k-is = refl; l-is = refl; rep-is = refl }))
