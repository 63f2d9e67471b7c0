use mathlib.Core.Path.{sym, ap, ap₂, subst, ◌∙◌}
use Rattle.ring.specs.Words.{Below, zip_to}
use Rattle.signature.specs.Recover.{sub31, centred_all}
use Rattle.signature.proofs.fields.hint_row.Goals as goal

pub hint_into-requires : goal.hint_into-requires
hint_into-requires c =
    let p = c.requires in
    let w = c.load.ensures in
    (record { long = w.1.long; low = subst (Below 31) (sym w.0) p.2 }, c.round.ensures.1, p.4)

pub returns : goal.returns
returns c = c.hint_into.ensures ∙ ap (centred_all 31) (ap₂ (zip_to sub31) c.load.ensures.0 c.round.ensures.0)
