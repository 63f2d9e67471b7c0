use Prim.Native.Nat.{ℕ, ◌/◌, ◌^◌, ◌≤◌}
use mathlib.Core.Path.{◌≡◌, ap, ◌∙◌}
use mathlib.Core.Bool.{true}
use native.Mathlib.Nat.{mul-le-mul}
use native.Mathlib.Omega.{arith}
use lib.ListN.{length}
use Rattle.signature.specs.Decision.{standing_of, measured, decided}
use Rattle.signature.specs.declared.bounds.Standing.{Standing}
use Rattle.signature.proofs.Measured.{measured-low, measured-count, hint-capped}
use Rattle.signature.proofs.bounds.check_bounds.Goals as goal

pub measure-h-requires : goal.measure-h-requires
measure-h-requires c =
    let n : c.standing_of.result.coefficients ≡ 0 = ap (λ (t : Standing). t.coefficients) c.standing_of.ensures in
    let m : c.standing_of.result.sum ≡ 0 = ap (λ (t : Standing). t.sum) c.standing_of.ensures in
    let l : c.min-limit.result / 1 ≤ 1048575 = omega arith in
    record { v_bound = (omega arith, omega arith, omega (arith, mul-le-mul l l)); sum_le_all = (omega arith, omega (arith, c.well_formed.0.0)) }

pub measure-z-requires : goal.measure-z-requires
measure-z-requires c =
    let a = c.args in
    let limit = c.min-limit.result in
    let t = standing_of true 0 0 in
    let h = c.measure-h.ensures ∙ ap (λ (t : Standing). measured limit (2 ^ 24) 0 a.b22 t a.hint.now) c.standing_of.ensures in
    let m : c.measure-h.result.sum ≤ a.b22 = rw h (measured-low limit (2 ^ 24) 0 a.b22 t a.hint.now (omega arith)) in
    let n : c.measure-h.result.coefficients ≤ length a.hint.now = rw h (omega (arith, measured-count limit (2 ^ 24) 0 a.b22 t a.hint.now)) in
    let l : a.binf / 4294967296 ≤ 4294967295 = omega (arith, c.ranges.binf.fits) in
    record { v_bound = (omega arith, omega arith, omega (arith, mul-le-mul l l)); sum_le_all = (m, omega (arith, c.well_formed.0.1, c.well_formed.1.0.1)) }

pub returns : goal.returns
unfolding decided
returns c =
    let a = c.args in
    let t = standing_of true 0 0 in
    let h =
    c.measure-h.ensures ∙ ap (λ (t : Standing). measured c.min-limit.result (2 ^ 24) 0 a.b22 t a.hint.now) c.standing_of.ensures
    ∙ ap (λ (l : ℕ). measured l (2 ^ 24) 0 a.b22 t a.hint.now) c.min-limit.ensures
    ∙ hint-capped a.hint_limit a.b22 c.ranges.b22.fits t a.hint.now in
    ap (λ (t : Standing). record { passed = t.passed; coefficients = t.coefficients })
    (c.measure-z.ensures ∙ ap (λ (t : Standing). measured a.binf 1 32 a.b22 t a.response.now) h)
