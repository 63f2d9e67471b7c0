use Rattle.std.proofs.Common.{rules, tests}
use Rattle.std.proofs.lemmas.Iterator.{YieldsList-from_slice, YieldsList-from_map}
use Rattle.std.proofs.lemmas.Iterator.Consumers.{sum_by_from_yields_List, fits_by_from_yields_list}
use Rattle.std.specs.Int.Count.{ones}
use mathlib.Core.Path.{◌≡◌, ◌∙◌}
use native.Mathlib.Omega.{arith}
use lib.ListN.{length}
use Rattle.signature.proofs.ChalMap.{ones-sum, ones-few}
use Rattle.signature.proofs.challenge.count.Goals as goal

pub sum-requires-clause-fits : goal.sum-requires-clause-fits
sum-requires-clause-fits c =
    let n : length c.args.map ≡ 8 = search rules in
    fits_by_from_yields_list ones c.args.map c.map.result _
    (YieldsList-from_map _ ones (YieldsList-from_slice c.args.map cc) c.map.ensures.closure (λ x r q k. search (rules, tests)))
    (omega (arith, ones-few c.args.map (search rules)))

pub returns : goal.returns
returns c =
    sum_by_from_yields_List ones c.args.map c.map.result _ c.sum.ensures.ran
    (YieldsList-from_map _ ones (YieldsList-from_slice c.args.map cc) c.map.ensures.closure (λ x r q k. search (rules, tests)))
    ∙ ones-sum c.args.map
