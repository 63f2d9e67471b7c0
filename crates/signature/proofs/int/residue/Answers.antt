use mathlib.Core.Path.{◌≡◌, sym, ap, ◌∙◌}
use Prim.Native.Nat.{ℕ, ◌-◌}
use native.Mathlib.Omega.{arith}
use lib.IntN.{nat_abs}
use Rattle.signature.specs.Code.{neg_of}
use Rattle.signature.proofs.Signs.{same}
use Rattle.ring.specs.Round.{residue}
use Rattle.ring.proofs.Reduced.{residue-lt}
use Rattle.signature.proofs.Reduced.{residue-pos, residue-neg}
use Rattle.signature.proofs.int.residue.Goals as goal

pub overflow_sub-result : goal.overflow_sub-result
overflow_sub-result c =
    let value : c.unsigned_abs-a.result ≡ nat_abs c.args.z = c.unsigned_abs-a.ensures.value ∙ ap nat_abs (same c.args.z c.ranges.z) in
    omega (arith, value, c.requires.0)

pub returns-then-sign-eq0 : goal.returns-then-sign-eq0
returns-then-sign-eq0 c =
    let value : c.unsigned_abs-a.result ≡ nat_abs c.args.z = c.unsigned_abs-a.ensures.value ∙ ap nat_abs (same c.args.z c.ranges.z) in
    let signed_is : c.sign.result ≡ neg_of c.args.z = c.sign.ensures ∙ ap neg_of (same c.args.z c.ranges.z) in
    let e = value in
    let r = residue-pos c.args.m c.args.z c.requires.0 (sym signed_is ∙ c.if-sign-eq0.true) in
    (e ∙ r, omega (arith, e, c.requires.0))

pub returns-else-sign-eq0 : goal.returns-else-sign-eq0
returns-else-sign-eq0 c =
    let value : c.unsigned_abs-a.result ≡ nat_abs c.args.z = c.unsigned_abs-a.ensures.value ∙ ap nat_abs (same c.args.z c.ranges.z) in
    let signed_is : c.sign.result ≡ neg_of c.args.z = c.sign.ensures ∙ ap neg_of (same c.args.z c.ranges.z) in
    let e = value in
    let r = residue-neg c.args.m c.args.z c.requires.0 (λ (n : neg_of c.args.z ≡ 0). c.if-sign-eq0.false (signed_is ∙ n)) in
    let g : c.args.m - c.unsigned_abs-a.result ≡ residue c.args.m c.args.z = ap (λ (x : ℕ). c.args.m - x) e ∙ r in
    (g, omega (arith, g, residue-lt c.args.m c.args.z c.requires.0))
