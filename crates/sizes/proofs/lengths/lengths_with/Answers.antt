use mathlib.Core.Path.{sym, ◌∙◌}
use Rattle.std.proofs.lemmas.Result.{err_from_is_err_and}
use Rattle.sizes.proofs.Told.{allowed-as, told_none, told-all, lengths-unknown, lengths-found}
use Rattle.sizes.proofs.lengths.lengths_with.Goals as goal

pub returns-in_err-row : goal.returns-in_err-row
returns-in_err-row c =
    let a = c.args in
    let r = err_from_is_err_and c.from_residual.result c.from_residual.ensures.1 in
    rw (r.1, r.2) (lengths-unknown a.set a.shares a.attempts _ (sym c.in_err-row.ensures))

pub returns-then-not-contains : goal.returns-then-not-contains
returns-then-not-contains c =
    let a = c.args in
    let p = c.in_ok-row.row.p in
    let n = c.new.ensures in
    told_none p a.attempts (sym (allowed-as a.attempts (rw (n.start, n.end, n.exhausted) at c.contains.ensures.value)) ∙ c.if-not-contains.true)
    ∙ lengths-found a.set a.shares a.attempts p (sym c.in_ok-row.ensures)

pub returns : goal.returns
returns c =
    let a = c.args in
    let p = c.in_ok-row.row.p in
    let n = c.new.ensures in
    told-all p a.attempts _ _ _ (sym (allowed-as a.attempts (rw (n.start, n.end, n.exhausted) at c.contains.ensures.value)) ∙ c.if-not-contains.false)
    c.noise_seed_bytes.ensures c.mask_seed_bytes.ensures c.work_words.ensures
    ∙ lengths-found a.set a.shares a.attempts p (sym c.in_ok-row.ensures)
