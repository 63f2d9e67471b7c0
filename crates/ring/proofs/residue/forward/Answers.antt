use mathlib.Core.Path.{◌∙◌}
use lib.Dec.{lit≤}
use Rattle.ring.proofs.Blocks.{top-block, top-fwd, least-loose}
use Rattle.ring.proofs.residue.forward.Goals as goal

pub transform-requires : goal.transform-requires
transform-requires c =
    let r = c.reduce_all in
    let o = least-loose c.args.which c.args.a.now r.new.a c.requires r.ensures in
    (c.powers-z.ensures, lit≤ tt, lit≤ tt, top-block c.args.which c.args.a.now r.new.a o (r.auto.a ∙ c.requires))

pub returns : goal.returns
returns c =
    let r = c.reduce_all in
    let t = c.transform in
    top-fwd c.args.which c.args.a.now r.new.a (least-loose c.args.which c.args.a.now r.new.a c.requires r.ensures)
    t.new.a t.ensures
