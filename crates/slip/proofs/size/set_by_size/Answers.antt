use mathlib.Core.Path.{sym, subst, ◌∙◌}
use lib.Dec.{eqb}
use Rattle.std.proofs.Common.{rules, tests}
use Rattle.std.specs.Array.Iter.{array_into_iter_items, array_steps}
use Rattle.std.proofs.lemmas.Iterator.{YieldsList}
use Rattle.std.proofs.lemmas.Iterator.Adapters.{option_map_id}
use Rattle.std.proofs.lemmas.Iterator.Consumers.{YieldsList-from_shown}
use Rattle.std.proofs.lemmas.Iterator.Search.{find_from_yields_List}
use Rattle.slip.specs.Format.{signature_bytes}
use Rattle.slip.proofs.SetSizes.{first-set}
use Rattle.slip.proofs.size.set_by_size.Goals as goal

pub returns : goal.returns
returns c =
    let n = c.args.n in
    let s = c.into_iter.result in
    let all = subst (YieldsList array_steps (λ x. x) s) c.into_iter.ensures.into_iter_gives.0 (YieldsList-from_shown array_steps (λ x. x) array_into_iter_items (λ t u h. h.0) (λ t x u h. h) s) in
    sym (option_map_id c.find.result) ∙ find_from_yields_List (λ set. eqb n (signature_bytes set)) _ _ c.find.result c.find.ensures.ran all (λ x b q k. search (rules, tests))
    ∙ first-set n
