use mathlib.Core.Path.{◌∙◌}
use native.Mathlib.Omega.{arith}
use Rattle.signature.proofs.Responses.{respond-made}
use Rattle.signature.proofs.respond.respond.Goals as goal

pub refresh_both-x-requires : goal.refresh_both-x-requires
refresh_both-x-requires c =
    let h = c.requires.0 in
    let e = c.at_s-a.ensures in
    let f = c.at_r-b.ensures in
    (omega (arith, e), omega (arith, e, f), omega (arith, f, h), c.requires.1)

pub respond_vector-requires : goal.respond_vector-requires
respond_vector-requires c =
    let h = c.requires.0 in
    let u = c.refresh_both-x.ensures in
    let n = u.long in
    let e = c.at_s-a.ensures in
    let f = c.at_r-b.ensures in
    (omega (arith, e, f), omega (arith, f, n, h), u.low, c.requires.2)

pub refresh_vector-y-requires : goal.refresh_vector-y-requires
refresh_vector-y-requires c =
    let h = c.requires.0 in
    let v = c.respond_vector.ensures in
    let n = v.long ∙ c.refresh_both-x.ensures.long in
    let f = c.at_r-b.ensures in
    (c.args.row.tabled.count, omega (arith, f), omega (arith, f, n, h), v.low)

pub decode_vector-requires : goal.decode_vector-requires
decode_vector-requires c =
    let h = c.requires.0 in
    let w = c.refresh_vector-y.ensures.0 in
    let n = w.long ∙ c.respond_vector.ensures.long ∙ c.refresh_both-x.ensures.long in
    let f = c.at_r-b.ensures in
    let x = c.at_x-e.ensures in
    (omega (arith, f, x), omega (arith, x, n, h), w.low)

pub returns : goal.returns
returns c =
    let b = c.args in
    let e = c.at_s-a.ensures in
    let f = c.at_r-b.ensures in
    let u = rw (e, f) at c.refresh_both-x.ensures in
    respond-made b.row.p.k b.row.p.l b.row.p.shares b.c b.g _ _ b.work.now _ _ _ _ c.refresh_vector-y.ensures.1 u (rw (e, f) at c.respond_vector.ensures) (rw f at c.refresh_vector-y.ensures.0) (rw (f, c.at_x-e.ensures) at c.decode_vector.ensures)
