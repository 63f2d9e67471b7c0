use Rattle.hash.specs.Keccak.{round}
use Rattle.hash.proofs.keccak.rounds_two.Goals as goal

pub returns : goal.returns
unfolding round
returns c =
    rw (
      c.iota.ensures,
      c.chi-2.ensures,
      c.rho_pi-2.ensures,
      c.theta-2.ensures,
      c.iota-b.ensures,
      c.chi.ensures,
      c.rho_pi.ensures,
      c.theta.ensures,
    )
