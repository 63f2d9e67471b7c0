use mathlib.Core.Path.{◌≡◌, ap, ◌∙◌, subst}
use mathlib.Core.Bool.{true, false}
use Prim.Native.Nat.{◌-◌}
use lib.Signed.{le_z}
use lib.IntN.{ℤ, pos, nat_abs}
use Rattle.ring.proofs.Signs.{byte-is, byte-turned, nonneg-is, neg-residue}
use Rattle.ring.proofs.poly.signed.Goals as goal

pub returns-then-c-ge0 : goal.returns-then-c-ge0
returns-then-c-ge0 c =
    let e : le_z (pos 0) c.args.c ≡ true = subst (λ (z : ℤ). le_z (pos 0) z ≡ true) (byte-is c.args.c c.ranges.c) c.if-c-ge0.true in
    ap nat_abs (byte-is c.args.c c.ranges.c) ∙ nonneg-is c.args.c c.ranges.c.sfits e

pub returns-else-c-ge0 : goal.returns-else-c-ge0
returns-else-c-ge0 c =
    let e : le_z (pos 0) c.args.c ≡ false = subst (λ (z : ℤ). le_z (pos 0) z ≡ false) (byte-is c.args.c c.ranges.c) c.if-c-ge0.false in
    ap (λ (z : ℤ). 549824583172097 - nat_abs z) (byte-turned c.args.c c.ranges.c) ∙ neg-residue c.args.c c.ranges.c.sfits e
