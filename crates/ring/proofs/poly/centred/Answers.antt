use Prim.Native.Nat.{◌-◌, ◌/◌}
use native.Mathlib.Omega.{arith}
use mir.Syntax.{w64}
use mir.Facts.{to_z_pos}
use borrow.Author.Tests.{le-leb, lt-leb}
use Rattle.ring.specs.Round.{centred}
use Rattle.ring.proofs.Signs.{minus-value}
use Rattle.ring.proofs.poly.centred.Goals as goal

pub returns-then-x-m : goal.returns-then-x-m
unfolding centred
returns-then-x-m c = simp (le-leb c.args.x (c.args.m / 2) (omega arith)) (to_z_pos w64 (omega arith))

pub returns-else-x-m : goal.returns-else-x-m
unfolding centred
returns-else-x-m c = simp (lt-leb c.args.x (c.args.m / 2) (omega arith)) (minus-value (c.args.m - c.args.x) (omega arith))
