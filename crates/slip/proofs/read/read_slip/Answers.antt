use mathlib.Core.Path.{sym, ap, ◌∙◌}
use Rattle.slip.proofs.Parsed.{split-found, split-refused, place_inside}
use Rattle.slip.specs.Split.{split_told}
use Rattle.slip.proofs.read.read_slip.Goals as goal

pub verdict_at-requires : goal.verdict_at-requires
verdict_at-requires c =
    let a = c.args in
    let g = c.in-Ok in
    let e = sym c.parse.ensures ∙ ap split_told g.is in
    let w = place_inside a.public_key.now a.slip.now g.at g.set (split-found a.slip.now g.at g.set e) in
    (e, w.0, w.1)

pub returns-in-Err : goal.returns-in-Err
returns-in-Err c =
    let a = c.args in
    c.no_fields.ensures ∙ split-refused a.slip.now _ (sym c.parse.ensures ∙ ap split_told c.in-Err.is) a.public_key.now
