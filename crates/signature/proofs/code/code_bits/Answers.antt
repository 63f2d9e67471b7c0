use mathlib.Core.Path.{ap, sym, ◌∙◌}
use Prim.Native.Nat.{ℕ, ◌+◌, ◌/◌, ◌^◌}
use native.Mathlib.Omega.{arith}
use lib.IntN.{nat_abs}
use lib.Pow.{shr_le}
use Rattle.signature.proofs.Signs.{same, abs-fits}
use Rattle.signature.proofs.Counts.{zero-takes, some-takes}
use Rattle.signature.proofs.code.code_bits.Goals as goal

pub returns-then-m-eq0 : goal.returns-then-m-eq0
returns-then-m-eq0 c =
    let m = c.unsigned_abs-m.ensures.value ∙ ap nat_abs (same c.args.z c.ranges.z) in
    zero-takes c.args.w c.args.z (sym m ∙ c.if-m-eq0.true)

pub overflow_add-result-2 : goal.overflow_add-result-2
overflow_add-result-2 c =
    let m = c.unsigned_abs-m.ensures.value ∙ ap nat_abs (same c.args.z c.ranges.z) in
    omega (arith, m, shr_le c.unsigned_abs-m.result c.args.w, abs-fits c.args.z c.ranges.z)

pub overflow_add-result-3 : goal.overflow_add-result-3
overflow_add-result-3 c =
    let m = c.unsigned_abs-m.ensures.value ∙ ap nat_abs (same c.args.z c.ranges.z) in
    omega (arith, m, shr_le c.unsigned_abs-m.result c.args.w, abs-fits c.args.z c.ranges.z)

pub returns : goal.returns
returns c =
    let w = c.args.w in
    let m = c.unsigned_abs-m.ensures.value ∙ ap nat_abs (same c.args.z c.ranges.z) in
    ap (λ (n : ℕ). w + n / 2 ^ w + 2) m ∙ some-takes w c.args.z (λ e. c.if-m-eq0.false (m ∙ e))
