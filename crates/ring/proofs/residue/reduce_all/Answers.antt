use mathlib.Core.Path.{refl, ◌∙◌}
use Prim.Native.Nat.{ℕ, ◌%◌}
use native.Mathlib.Omega.{arith}
use Rattle.ring.specs.Residue.{prime}
use Rattle.ring.proofs.Pairs.{each_more, each-end, map2-map_n}
use Rattle.ring.proofs.residue.reduce_all.Goals as goal

pub loop-x-preserved : goal.loop-x-preserved
loop-x-preserved c =
    let l = c.loop-x in
    each_more _ _ _ l.x-index l.a l.invariant c.reduce.result (omega arith) refl c.reduce.ensures

pub returns : goal.returns
returns c =
    let l = c.loop-x in
    let s = c.args in
    each-end _ _ _ l.x-index l.a l.invariant (omega arith) refl ∙ map2-map_n (λ (x : ℕ). x % prime s.which) s.a.now
