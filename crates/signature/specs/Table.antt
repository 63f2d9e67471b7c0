-- Steps (no call's contract reaches this): what every record of the parameter table has. The type Row states it (src/row.rt),
-- and proofs/Listing.antt shows it.
use mathlib.Core.Path.{ap}
use mathlib.Core.Logic.{◌⊎◌, inl, inr}
use native.Mathlib.Omega.{arith}
use Rattle.std.specs.Coded.{Coded-set, coded_ℕ, le_prop}
use Rattle.std.specs.Prelude.{◌≡◌, ℕ, ◌+◌, ◌-◌, ◌*◌, ◌^◌, ◌≤◌, ◌<◌}
use Rattle.hash.specs.Params.{ShareCount}
use Rattle.hash.specs.declared.params.Params.{Params}
use Rattle.signature.specs.Form.{hash_bytes}
use Rattle.signature.specs.Keys.{seed_bytes}

pub record Tabled (p : Params) : Type 0 where
  -- the sizes of keys and signatures
  pub vk : p.vk_bytes ≡ seed_bytes p + p.k * 448
  pub sk : p.sk_bytes ≡ p.vk_bytes + (p.shares - 1) * seed_bytes p + p.l * 3136
  pub hash-fits : hash_bytes p ≤ p.sig_bytes
  pub sig-low : p.sig_bytes ≤ 20330
  -- the share count
  pub count : ShareCount p.shares
  pub shares-pos : 1 ≤ p.shares
  pub shares-low : p.shares ≤ 32
  -- k, l, omega and kappa
  pub rows-low : p.k ≤ 9
  pub columns-low : p.l ≤ 7
  pub columns-rows : p.l ≤ p.k
  pub omega-low : p.omega ≤ 44
  pub kappa-low : p.kappa ≤ 256
  pub seed-low : seed_bytes p ≤ 32
  pub hash-low : hash_bytes p ≤ 64
  -- the noise: repetitions, and the bits of a sample
  pub rep-low : p.rep ≤ 8
  pub ut-pos : 1 ≤ p.ut
  pub ut-low : p.ut ≤ 7
  pub uw-pos : 1 ≤ p.uw
  pub uw-low : p.uw ≤ 41
  -- the bounds
  pub hint-low : p.hint_limit ≤ 3
  pub binf-low : p.binf < 2 ^ 46

-- ---- it has one proof at most, as the fact of a type's field must

of_two-prop : {A B : Type 0} → IsProp A → IsProp B → (A → B → ⊥) → IsProp (A ⊎ B)
of_two-prop a b apart (inl x) (inl y) = ap inl (a x y)
of_two-prop a b apart (inl x) (inr y) = absurd (apart x y)
of_two-prop a b apart (inr x) (inl y) = absurd (apart y x)
of_two-prop a b apart (inr x) (inr y) = ap inr (b x y)

of_six-prop : (d : ℕ) → IsProp ((d ≡ 1) ⊎ (d ≡ 2) ⊎ (d ≡ 4) ⊎ (d ≡ 8) ⊎ (d ≡ 16) ⊎ (d ≡ 32))
of_six-prop d =
    let one : (n : ℕ) → IsProp (d ≡ n) = λ n. Coded-set coded_ℕ d n in
    of_two-prop (one 1)
    (of_two-prop (one 2)
    (of_two-prop (one 4) (of_two-prop (one 8) (of_two-prop (one 16) (one 32) (λ e f. omega arith)) (λ e f. omega arith)) (λ e f. omega arith))
    (λ e f. omega arith))
    (λ e f. omega arith)

pub Tabled-prop : (p : Params) → IsProp (Tabled p)
Tabled-prop p = hlevel (Coded-set coded_ℕ, le_prop, of_six-prop p.shares)
