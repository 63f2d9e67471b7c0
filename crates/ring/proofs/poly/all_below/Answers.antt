use Prim.Native.Nat.{◌<◌}
use borrow.Author.Rules.{rules}
use Rattle.std.specs.Prelude.{EachIndex, IsTrue, ◌↔◌, slice_index}
use Rattle.ring.proofs.Sums.{below-tested}
use Rattle.ring.proofs.poly.all_below.Goals as goal

pub returns : goal.returns
returns c =
    let h : IsTrue c.all.result ↔ EachIndex c.args.s.now (λ k. slice_index c.args.s.now k < c.args.p) = search rules in
    below-tested c.args.p c.args.s.now c.all.result h
