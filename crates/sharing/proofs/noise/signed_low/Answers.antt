use Prim.Native.Nat.{◌-◌, ◌%◌, ◌^◌}
use native.Mathlib.Omega.{arith}
use borrow.Author.Tests.{lt-ltb, le-ltb}
use Rattle.sharing.specs.Noise.{signed_low}
use Rattle.sharing.proofs.Small.{shifted, half-power, power_le}
use Rattle.sharing.proofs.noise.signed_low.Goals as goal

pub overflow_sub-result-else-y-m : goal.overflow_sub-result-else-y-m
overflow_sub-result-else-y-m c =
    rw (shifted c.args.u c.requires.0 c.requires.1) (omega (arith, power_le c.args.u c.requires.0 c.requires.1))

pub returns-then-y-m : goal.returns-then-y-m
unfolding signed_low
returns-then-y-m c =
    let s = shifted c.args.u c.requires.0 c.requires.1 in
    let h = half-power c.args.u c.requires.0 c.requires.1 in
    let t = rw (s, h) at c.if-y-m.true in
    rw (s, lt-ltb (c.args.x % 2 ^ c.args.u) (2 ^ (c.args.u - 1)) (omega (arith, t)))

pub returns-else-y-m : goal.returns-else-y-m
unfolding signed_low
returns-else-y-m c =
    let s = shifted c.args.u c.requires.0 c.requires.1 in
    let h = half-power c.args.u c.requires.0 c.requires.1 in
    let t = rw (s, h) at c.if-y-m.false in
    rw (s, le-ltb (c.args.x % 2 ^ c.args.u) (2 ^ (c.args.u - 1)) (omega (arith, t)))
