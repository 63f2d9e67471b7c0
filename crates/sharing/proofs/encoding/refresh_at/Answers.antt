use Rattle.sharing.proofs.Turns.{refresh-made, refresh-kept}
use Rattle.sharing.proofs.encoding.refresh_at.Goals as goal

pub returns : goal.returns
returns c =
    let d = c.args.p.shares in
    let z = c.zero_encoding_at-x.ensures in
    let w = c.add_scratch.ensures in (
      refresh-made d c.args.at _ c.args.s.now _ _ c.requires.1 z.0 w,
      z.1,
      refresh-kept d c.args.at _ _ c.args.s.now _ _ c.requires.1 z.0 w,
    )
