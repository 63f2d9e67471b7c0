use Rattle.signature.proofs.Expanded.{full-made}
use Rattle.signature.proofs.keycheck.full_share.Goals as goal

pub returns : goal.returns
returns c =
    full-made c.args.part.row.p c.args.part.bytes.now _ c.args.out.now c.requires c.unpack.ensures
