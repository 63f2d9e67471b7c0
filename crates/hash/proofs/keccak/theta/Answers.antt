use Rattle.hash.specs.Keccak.{theta}
use Rattle.hash.proofs.keccak.theta.Goals as goal

pub returns : goal.returns
unfolding theta
returns c = rw (c.xor_plane-5.ensures, c.xor_plane-4.ensures, c.xor_plane-3.ensures, c.xor_plane-2.ensures, c.xor_plane.ensures, c.effect-d.ensures, c.parity.ensures)
