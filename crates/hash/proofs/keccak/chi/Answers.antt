use Rattle.hash.specs.Keccak.{chi}
use Rattle.hash.proofs.keccak.chi.Goals as goal

pub returns : goal.returns
unfolding chi
returns c =
    rw (c.chi_plane-5.ensures, c.chi_plane-4.ensures, c.chi_plane-3.ensures, c.chi_plane-2.ensures, c.chi_plane.ensures)
