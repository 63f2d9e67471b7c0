use Rattle.std.proofs.lemmas.Result.{err_from_is_err_and}
use Rattle.hash.proofs.Refusals.{refused}
use mathlib.Core.List.{[], ◌∷◌}
use mathlib.Core.Path.{refl, sym, ◌∙◌}
use Rattle.ring.proofs.Checks.{no-here, yes-here, no-before, yes-before}
use Rattle.signature.specs.Checks.{expanded_key_sized, key_checks}
use Rattle.signature.specs.Keys.{packed}
use Rattle.signature.proofs.keys.check_expand.Goals as goal

pub returns-in_err-check_packed : goal.returns-in_err-check_packed
returns-in_err-check_packed c =
    let a = c.args in
    let r = err_from_is_err_and c.from_residual.result c.from_residual.ensures.1 in
    rw (r.1, r.2)
    (no-before (key_checks a.row.p (packed a.key.now)) ((8, expanded_key_sized a.row.p a.bytes_out.now a.words_out.now) ∷ []) _ c.in_err-check_packed.ensures (refused _))

pub returns-then-not-sized : goal.returns-then-not-sized
returns-then-not-sized c =
    let a = c.args in
    no-here 8 _ (sym c.sized.ensures ∙ c.if-not-sized.true)
    ∙ sym (yes-before (key_checks a.row.p (packed a.key.now)) ((8, expanded_key_sized a.row.p a.bytes_out.now a.words_out.now) ∷ []) refl (sym c.in_ok-check_packed.ensures))

pub returns : goal.returns
returns c =
    let a = c.args in
    yes-here 8 (sym c.sized.ensures ∙ c.if-not-sized.false) refl
    ∙ sym (yes-before (key_checks a.row.p (packed a.key.now)) ((8, expanded_key_sized a.row.p a.bytes_out.now a.words_out.now) ∷ []) refl (sym c.in_ok-check_packed.ensures))
