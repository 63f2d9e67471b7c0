use Rattle.signature.proofs.Digests.{digest-computed}
use Rattle.signature.proofs.digest.digest_into.Goals as goal

pub returns-in-Signing : goal.returns-in-Signing
returns-in-Signing c = rw c.in-Signing.is (digest-computed c.args.p c.in-Signing.bytes.now c.args.out.now c.requires.1 c.shake256.ensures)
