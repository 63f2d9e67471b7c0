use mathlib.Core.Path.{refl, ap, ◌∙◌}
use lib.ListN.{length}
use Rattle.hash.specs.Lists.{table}
use Rattle.hash.specs.Keccak.{State}
use Rattle.hash.specs.Shake.{stream}
use Rattle.signature.proofs.ChalBytes.{behind-is}
use Rattle.signature.proofs.challenge.hash_behind.Goals as goal

pub returns : goal.returns
returns c =
    let f = c in
    let a = f in
    c.squeeze.ensures.0
    ∙ ap (λ (S : State). table (stream S) (length a.args.out.now))
    (behind-is _ _ _ _ _ _ _ _ a.absorb.ensures refl f.absorb-t.ensures f.finish.ensures)
