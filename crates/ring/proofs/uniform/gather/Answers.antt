use Prim.Native.Nat.{ℕ, ◌%◌, ◌^◌}
use mathlib.Core.Path.{◌≡◌, ap}
use native.Mathlib.Omega.{arith}
use Rattle.ring.specs.Uniform.{draw}
use Rattle.ring.proofs.Draws.{front-none, front_kept, front-left, front-full, front_read}
use Rattle.ring.proofs.uniform.gather.Goals.{then-d-lt-Q, else-d-lt-Q}
use Rattle.ring.proofs.uniform.gather.Goals as goal

pub loop-i-init : goal.loop-i-init
loop-i-init c = front-none _ c.args.a.now c.args.k c.requires.1 c.requires.2

pub returns-then-at-eq512 : goal.returns-then-at-eq512
returns-then-at-eq512 c = front-full _ _ _ _ _ _ c.loop-i.invariant _ (omega arith) c.if-at-eq512.true

pub loop-i-preserved : goal.loop-i-preserved
unfolding draw
loop-i-preserved c =
    let l = c.loop-i in
    let d = ap (λ (x : ℕ). x % 2 ^ 49) c.load-d.ensures in
    elim c.if-d-lt-Q.branch [ then-d-lt-Q w ↦ rw (w.a-is, w.at-is) (front_kept _ _ l.a l.i l.at _ l.invariant d c.if-at-eq512.false (omega (arith, w.if-d-lt-Q.true))) | else-d-lt-Q w ↦ rw (w.a-is, w.at-is) (front-left _ _ l.a l.i l.at _ l.invariant d (omega (arith, w.if-d-lt-Q.false))) ]

pub returns : goal.returns
returns c =
    let l = c.loop-i in
    let e : l.i ≡ c.args.n = omega arith in
    rw e at (front_read _ c.args.a.now l.a c.args.k l.i l.at l.invariant)
