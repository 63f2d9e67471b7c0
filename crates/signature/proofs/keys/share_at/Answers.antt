use mathlib.Core.Path.{sym, ap, subst}
use Rattle.std.specs.Option.{unwrap_or}
use Rattle.hash.specs.Lists.{zeros}
use Rattle.ring.specs.Words.{Words}
use Rattle.ring.proofs.Filled.{held-or, held-or-words}
use Rattle.signature.specs.Keys.{seeded_share}
use mathlib.Core.Path.{◌∙◌}
use Rattle.signature.proofs.Expanded.{full-expands, share-expands}
use Rattle.signature.proofs.keys.share_at.Goals as goal

pub returns-then-i-eq0 : goal.returns-then-i-eq0
returns-then-i-eq0 c =
    let b = c.args in
    (c.load.ensures.0 ∙ full-expands b.part.row.p b.part.bytes.now b.j b.i b.full.now c.if-i-eq0.true c.requires.full_value.0, c.load.ensures.1)

pub returns : goal.returns
returns c =
    let b = c.args in
    let e = c.unwrap_or.ensures ∙ ap (λ o. unwrap_or o (zeros 512)) c.seeded_at.ensures.0 ∙ held-or (seeded_share b.part.row.p b.part.bytes.now b.j b.i) in
    let x = e ∙ share-expands b.part.row.p b.part.bytes.now b.j b.i c.if-i-eq0.false in
    (x, subst (Words 512) (sym e) (held-or-words _ c.seeded_at.result c.seeded_at.ensures.0 c.seeded_at.ensures.1))
