use mathlib.Core.Path.{◌≡◌, refl, sym, ◌∙◌, subst}
use Prim.Native.Nat.{ℕ, ◌*◌, ◌%◌, ◌^◌}
use native.Mathlib.Nat.{mod-lt}
use native.Mathlib.Omega.{arith}
use lib.Dec.{lit<}
use Rattle.ring.specs.Words.{Below, q}
use Rattle.ring.specs.Poly.{map_n}
use Rattle.ring.proofs.Pairs.{each-low, each_more, each-end, map2-map_n, below-map_n}
use Rattle.ring.proofs.poly.scale_t.Goals as goal

pub scaled_t-requires : goal.scaled_t-requires
scaled_t-requires c =
    let l = c.loop-x in
    each-low _ _ _ l.x-index l.x-items l.invariant.1 _ (lit< tt) c.requires.low

pub loop-x-preserved : goal.loop-x-preserved
loop-x-preserved c =
    let l = c.loop-x in
    (l.invariant.0, each_more _ _ _ l.x-index l.x-items l.invariant.1 c.scaled_t.result (omega arith) refl c.scaled_t.ensures)

pub returns : goal.returns
returns c =
    let l = c.loop-x in
    let f = c.args.f in
    let e : l.x-items ≡ map_n (λ (x : ℕ). x * 2 ^ 42 % q) f = each-end _ _ _ l.x-index l.x-items l.invariant.1 (omega arith) refl ∙ map2-map_n (λ (x : ℕ). x * 2 ^ 42 % q) f in
    (e, record { long = l.invariant.1.long ∙ l.invariant.0; low = subst (Below q) (sym e) (below-map_n q (λ (x : ℕ). x * 2 ^ 42 % q) (λ (x : ℕ). mod-lt (x * 2 ^ 42) (lit< tt)) f) })
