use Rattle.slip.proofs.SlipWritten.{leading-made}
use Rattle.slip.proofs.write.leading_bytes.Goals as goal

pub returns : goal.returns
returns c = rw (c.to_le_bytes.ensures, c.to_le_bytes-2.ensures) (leading-made c.args.movement c.args.track c.args.text c.ranges.track.fits)
