use Prim.Native.Nat.{◌<◌}
use lib.Dec.{lit≤}
use Rattle.ring.specs.Residue.{prime}
use Rattle.ring.proofs.Bounds.{over-lt}
use Rattle.ring.proofs.Blocks.{low-block, top-bwd}
use Rattle.ring.proofs.LevelRanges.{back-nine}
use Rattle.ring.proofs.residue.backward.Goals as goal

pub invert-requires : goal.invert-requires
invert-requires c =
    let r = c.reduce_all in
    (c.powers-z.ensures, lit≤ tt, lit≤ tt, low-block c.args.which c.args.a.now r.new.a c.requires r.ensures)

pub scaled-requires : goal.scaled-requires
scaled-requires c =
    let i = c.invert in
    let o : c.inverse.result < prime c.args.which = rw c.inverse.ensures (over-lt c.args.which) in
    (o, back-nine (prime c.args.which) i.new.a i.ensures.low)

pub returns : goal.returns
returns c =
    let r = c.reduce_all in
    let i = c.invert in
    let v = c.inverse in
    let s = c.scaled in
    top-bwd c.args.which c.args.a.now r.new.a c.requires r.ensures i.new.a _ i.ensures v.result v.ensures s.new.a s.ensures
