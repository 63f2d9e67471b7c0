use mathlib.Core.Path.{refl, sym}
use Rattle.std.proofs.lemmas.Result.{err_from_is_err_and}
use Rattle.hash.proofs.Refusals.{refused}
use Rattle.signature.proofs.Asked.{expandable, expand-unknown, expand-refused, expand-done}
use Rattle.signature.proofs.keys.expand_key.Goals as goal

pub returns-in_err-row : goal.returns-in_err-row
returns-in_err-row c =
    let a = c.args in
    let r = err_from_is_err_and c.from_residual.result c.from_residual.ensures.1 in
    rw (r.1, r.2) (expand-unknown a.edition a.set a.shares a.key.now a.bytes_out.now a.words_out.now _ c.in_err-row.ensures)

pub returns-in_err-check_expand : goal.returns-in_err-check_expand
returns-in_err-check_expand c =
    let a = c.args in
    let r = err_from_is_err_and c.from_residual-in_err-check_expand.result c.from_residual-in_err-check_expand.ensures.1 in
    rw (r.1, r.2)
    (expand-refused a.edition a.set a.shares a.key.now a.bytes_out.now a.words_out.now c.in_ok-row.row.p c.in_ok-row.ensures
    _ c.in_err-check_expand.ensures (refused _))

pub expand_found-requires : goal.expand_found-requires
expand_found-requires c =
    let a = c.args in
    let p = c.in_ok-row.row.p in
    let h = expandable p a.key.now a.bytes_out.now a.words_out.now (sym c.in_ok-check_expand.ensures) in
    record { key_len = (h.key-long, h.share-low); bytes_out_len = (h.bytes-long, h.words_long) }

pub returns : goal.returns
returns c =
    let a = c.args in
    expand-done a.edition a.set a.shares a.key.now a.bytes_out.now a.words_out.now c.in_ok-row.row.p
    c.in_ok-row.ensures 0 c.in_ok-check_expand.ensures refl _ c.expand_found.ensures
