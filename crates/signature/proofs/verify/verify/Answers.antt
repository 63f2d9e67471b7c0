use mathlib.Core.Path.{sym, ◌∙◌}
use Rattle.std.proofs.lemmas.Result.{err_from_is_err_and}
use Rattle.signature.proofs.Verified.{verify-unknown, verify-found}
use Rattle.signature.proofs.verify.verify.Goals as goal

pub returns-in_err-row : goal.returns-in_err-row
returns-in_err-row c =
    let a = c.args in
    let r = err_from_is_err_and c.from_residual.result c.from_residual.ensures.1 in
    rw (r.1, r.2) (verify-unknown a.edition a.set a.public_key.now a.message.now a.signature.now _ (sym c.in_err-row.ensures))

pub returns : goal.returns
returns c = let a = c.args in c.verify_with.ensures ∙ verify-found a.edition a.set a.public_key.now a.message.now a.signature.now c.in_ok-row.row.p (sym c.in_ok-row.ensures)
