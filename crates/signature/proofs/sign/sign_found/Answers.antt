use mathlib.Core.Path.{refl, sym, ◌∙◌}
use Rattle.hash.proofs.Refusals.{refused}
use Rattle.hash.specs.Refusal.{number_of}
use Rattle.signature.specs.AttemptSteps.{key_lent, coins_lent}
use Rattle.signature.proofs.SignEnds.{found-on, found-refused, found-cleared}
use Rattle.signature.proofs.sign.sign_found.Goals as goal
use Rattle.signature.proofs.sign.sign_found.Goals.{then-number-gt8, else-number-gt8}
use native.Mathlib.Omega.{arith}
use Prim.Native.Nat.{◌<◌, ◌≤◌}

pub sign_with-requires : goal.sign_with-requires
sign_with-requires c = record { work_value = sym c.in_default.ensures }

pub returns-in-Err : goal.returns-in-Err
returns-in-Err c =
    let a = c.args in
    let k = number_of c.in-Err.refusal in
    let no = refused c.in-Err.refusal in
    elim c.if-number-gt8.branch [
      | then-number-gt8 w ↦
          let m : 8 < k = omega (arith, w.if-number-gt8.true, c.number.ensures) in
          rw (c.refused.ensures.0, c.refused.ensures.1, w.work-is, w.clear.ensures)
          (found-cleared a.row.p (key_lent a.key) a.n a.msg.now (coins_lent a.coins) a.out.now a.work.now k c.in-Err.ensures no m)
      | else-number-gt8 w ↦
          let m : k ≤ 8 = omega (arith, w.if-number-gt8.false, c.number.ensures) in
          rw (c.refused.ensures.0, c.refused.ensures.1, w.work-is)
          (found-refused a.row.p (key_lent a.key) a.n a.msg.now (coins_lent a.coins) a.out.now a.work.now k c.in-Err.ensures no m)
    ]

pub returns : goal.returns
returns c =
    let a = c.args in
    c.sign_with.ensures
    ∙ found-on a.row.p (key_lent a.key) a.n a.msg.now (coins_lent a.coins) a.out.now a.work.now 0 c.in_default.ensures refl
