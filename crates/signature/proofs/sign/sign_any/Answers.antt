use mathlib.Core.Path.{sym, ◌∙◌}
use Rattle.signature.specs.AttemptSteps.{key_lent, coins_lent}
use Rattle.signature.proofs.SignEnds.{sign-unknown, sign-on}
use Rattle.signature.proofs.sign.sign_any.Goals as goal

pub returns-in-Err : goal.returns-in-Err
returns-in-Err c =
    let a = c.args in
    rw (c.refused.ensures.0, c.refused.ensures.1, c.into.ensures)
    (sign-unknown a.edition a.set a.shares (key_lent a.key) a.n a.msg.now (coins_lent a.coins) a.out.now a.work.now _ (sym (rw c.in-Err.is at c.find.ensures)))

pub returns-in-Ok : goal.returns-in-Ok
returns-in-Ok c =
    let a = c.args in
    c.sign_found.ensures
    ∙ sign-on a.edition a.set a.shares (key_lent a.key) a.n a.msg.now (coins_lent a.coins) a.out.now a.work.now
    c.in-Ok.row.p (sym (rw c.in-Ok.is at c.find.ensures))
