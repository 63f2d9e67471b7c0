use mathlib.Core.Path.{ap, ◌∙◌}
use Rattle.hash.specs.Lists.{table}
use Rattle.hash.specs.Keccak.{State}
use Rattle.hash.specs.Shake.{stream}
use Rattle.ring.specs.UniformSteps.{option_of}
use Rattle.signature.specs.Challenge.{challenge}
use Rattle.signature.proofs.challenge.chal_poly.Goals as goal

pub returns : goal.returns
returns c =
    let a = c.args in
    c.fill.ensures ∙ ap (λ (S : State). option_of (challenge a.edition a.omega (table (stream S) 2176))) c.begin-s.ensures
