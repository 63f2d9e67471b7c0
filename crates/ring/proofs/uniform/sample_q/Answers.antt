use mathlib.Core.Path.{ap, sym, ◌∙◌}
use Rattle.std.specs.Prelude.{Some}
use Rattle.std.specs.Result.{result_ok}
use Rattle.ring.proofs.Filled.{asked-some, asked-none}
use Rattle.ring.proofs.uniform.sample_q.Goals as goal

pub returns-in_err-ok-clause-value : goal.returns-in_err-ok-clause-value
returns-in_err-ok-clause-value c =
    c.from_residual.ensures ∙ asked-none _ _ (sym c.in_err-ok.was ∙ c.ok.ensures.value ∙ ap result_ok c.sample_q_into.ensures.0)

pub returns-clause-value : goal.returns-clause-value
returns-clause-value c =
    ap Some c.sample_q_into.ensures.1 ∙ asked-some _ _ (sym c.in_ok-ok.was ∙ c.ok.ensures.value ∙ ap result_ok c.sample_q_into.ensures.0)
