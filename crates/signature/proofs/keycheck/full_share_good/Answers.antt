use mathlib.Core.Path.{ap, ◌∙◌}
use mathlib.Core.List.{List}
use Prim.Native.Nat.{ℕ, ◌*◌}
use native.Mathlib.Omega.{arith}
use lib.ListN.{length, replicate}
use Rattle.ring.specs.Words.{q, all_below}
use Rattle.signature.proofs.Fronts.{front-in, front-is}
use Rattle.signature.proofs.Expanded.{full-length}
use Rattle.signature.proofs.keycheck.full_share_good.Goals as goal

pub slice_bounds-all_below-end : goal.slice_bounds-all_below-end
slice_bounds-all_below-end c =
    let p = c.args.part.row.p in
    let f = c.full_share in
    front-in (p.l * 512) (replicate 3584 0) f.new.out (omega (arith, c.args.part.row.tabled.columns-low))
    (ap (λ (l : List ℕ). length l) f.ensures ∙ full-length p c.args.part.bytes.now)

pub returns : goal.returns
returns c =
    let p = c.args.part.row.p in
    let f = c.full_share in
    c.all_below.ensures ∙ ap (all_below q) (front-is (p.l * 512) (replicate 3584 0) f.new.out (omega (arith, c.args.part.row.tabled.columns-low))
    (ap (λ (l : List ℕ). length l) f.ensures ∙ full-length p c.args.part.bytes.now) ∙ f.ensures)
