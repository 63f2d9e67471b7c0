use Rattle.ring.proofs.Blocks.{top-fwd}
use Rattle.ring.proofs.residue.forward_words.Goals as goal

pub returns : goal.returns
returns c =
    let r = c.reduce_words in
    let t = c.transform in
    top-fwd c.args.which c.args.a.now r.new.a r.ensures t.new.a t.ensures
