use Prim.Native.Nat.{ℕ}
use mathlib.Core.Path.{ap, ◌∙◌}
use mathlib.Core.List.{List}
use native.Mathlib.Omega.{arith}
use Rattle.ring.proofs.Draws.{fills, unfilled, refused, answered-none, answered-some}
use Rattle.ring.proofs.uniform.sample_uniform.Goals as goal

pub returns-then-out-ne512 : goal.returns-then-out-ne512
returns-then-out-ne512 c = refused _ _ c.if-out-ne512.true

pub returns-then-k-ne512 : goal.returns-then-k-ne512
returns-then-k-ne512 c =
    answered-none _ _ c.if-out-ne512.false (unfilled _ _ _ _ _ c.gather-k.ensures (omega (arith, c.min.ensures)) c.if-k-ne512.true)

pub returns : goal.returns
returns c =
    ap (λ (o : List ℕ). (0, o)) c.copy_from_slice.ensures.after
    ∙ answered-some _ _ _ c.if-out-ne512.false
    (fills _ _ _ _ _ c.gather-k.ensures (omega (arith, c.min.ensures)) c.if-k-ne512.false)
