use mathlib.Core.Path.{◌≡◌}
use lib.ListN.{length}
use Rattle.hash.proofs.Sponge.{finish-two}
use borrow.Author.Rules.{rules}
use Rattle.hash.proofs.shake.begin.Goals as goal

pub returns : goal.returns
returns c =
    let e : length c.args.header.now ≡ 8 = search rules in
    rw (c.finish.ensures, c.absorb-2.ensures, c.absorb.ensures, c.start.ensures, ← finish-two, e)
