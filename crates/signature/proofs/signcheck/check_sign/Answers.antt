use mathlib.Core.Path.{refl, ◌∙◌}
use Rattle.std.proofs.lemmas.Result.{err_from_is_err_and}
use Rattle.hash.proofs.Refusals.{refused}
use Rattle.signature.specs.AttemptSteps.{key_lent, coins_lent}
use Rattle.signature.proofs.SignChecks.{no_key, no_call}
use Rattle.signature.proofs.signcheck.check_sign.Goals as goal

pub returns-in_err-check_key : goal.returns-in_err-check_key
returns-in_err-check_key c =
    let a = c.args in
    let r = err_from_is_err_and c.from_residual.result c.from_residual.ensures.1 in
    rw (r.1, r.2)
    (no_key a.row.p (key_lent a.key) a.n a.msg.now (coins_lent a.coins) a.out.now a.work.now _ c.in_err-check_key.ensures (refused _))

pub returns : goal.returns
returns c =
    let a = c.args in
    c.check_call.ensures
    ∙ no_call a.row.p (key_lent a.key) a.n a.msg.now (coins_lent a.coins) a.out.now a.work.now 0 c.in_ok-check_key.ensures refl
