-- The ranges of the parameters, and the sizes of key generation below 2^32.
use Prim.Native.Nat.{◌+◌, ◌-◌, ◌*◌, ◌/◌, ◌^◌, ◌≤◌, ◌<◌}
use native.Mathlib.Omega.{arith}
use native.Mathlib.Nat.{mul-le-mul}
use Rattle.hash.specs.declared.params.Params.{Params}
use Rattle.sharing.specs.Noise.{noise_bytes}
use Rattle.sharing.proofs.NoisePlaces.{noise-bytes}
use Rattle.signature.specs.Keys.{keygen_bytes}
use Rattle.signature.specs.Table.{Tabled}

-- the sizes, from the left, as the machine makes them
module _ (p : Params) (r : Tabled p) where
  seed-le : p.kappa / 8 ≤ 32
  seed-le = omega (arith, r.kappa-low)

  shares-le : (p.l + p.k) * p.shares ≤ 512
  shares-le = let a : p.l + p.k ≤ 16 = omega (arith, r.columns-low, r.rows-low) in omega (arith, mul-le-mul a r.shares-low)

  seeds-le : (p.l + p.k) * p.shares * p.rep ≤ 4096
  seeds-le = omega (arith, mul-le-mul shares-le r.rep-low)

  noise-le : (p.l + p.k) * p.shares * p.rep * (p.kappa / 8) ≤ 131072
  noise-le = omega (arith, mul-le-mul seeds-le seed-le)

  share-seeds-le : (p.shares - 1) * (p.kappa / 8) ≤ 1024
  share-seeds-le = let b : p.shares - 1 ≤ 32 = omega (arith, r.shares-low) in omega (arith, mul-le-mul b seed-le)

  pub front-fit : p.kappa / 8 + noise_bytes p < 2 ^ 64
  front-fit = omega (arith, noise-bytes p, noise-le, seed-le)

  pub bytes_fit : keygen_bytes p < 2 ^ 64
  bytes_fit = omega (arith, noise-bytes p, noise-le, seed-le, share-seeds-le)

  columns-le : 2 * p.l * p.shares ≤ 448
  columns-le = let a : 2 * p.l ≤ 14 = omega (arith, r.columns-low) in omega (arith, mul-le-mul a r.shares-low)

  pub columns-fit : 2 * p.l * p.shares < 2 ^ 64
  columns-fit = omega (arith, columns-le)

  pub rest-fit : 2 * p.l * p.shares + 4 * p.shares < 2 ^ 64
  rest-fit = omega (arith, columns-le, r.shares-low)

  pub rows_fit : 2 * p.l * p.shares + 4 * p.shares + 2 * p.k < 2 ^ 64
  rows_fit = omega (arith, columns-le, r.shares-low, r.rows-low)

  pub polys-fit : 2 * p.l * p.shares + 4 * p.shares + 2 * p.k + 8 < 2 ^ 64
  polys-fit = omega (arith, columns-le, r.shares-low, r.rows-low)

  pub words-fit : 512 * (2 * p.l * p.shares + 4 * p.shares + 2 * p.k + 8) < 2 ^ 64
  words-fit = omega (arith, columns-le, r.shares-low, r.rows-low)
