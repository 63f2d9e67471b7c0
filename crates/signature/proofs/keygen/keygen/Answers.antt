use mathlib.Core.Path.{sym, ◌∙◌}
use Rattle.std.proofs.lemmas.Result.{err_from_is_err_and}
use Rattle.hash.proofs.Refusals.{refused}
use Rattle.signature.proofs.KeyDone.{key-long}
use Rattle.signature.proofs.KeyEnds.{passed, keygen-unknown, keygen-refused, keygen-on}
use Rattle.signature.proofs.keygen.keygen.Goals as goal

pub returns-in_err-row : goal.returns-in_err-row
returns-in_err-row c =
    let a = c.args in
    let r = err_from_is_err_and c.from_residual.result c.from_residual.ensures.1 in
    rw (r.1, r.2)
    (keygen-unknown a.edition a.set a.shares a.seeds.now a.mask_seed.now a.key_out.now a.work.now _ (sym c.in_err-row.ensures))

pub returns-in_err-check_keygen : goal.returns-in_err-check_keygen
returns-in_err-check_keygen c =
    let a = c.args in
    let r = err_from_is_err_and c.from_residual-in_err-check_keygen.result c.from_residual-in_err-check_keygen.ensures.1 in
    rw (r.1, r.2)
    (keygen-refused a.edition a.set a.shares a.seeds.now a.mask_seed.now a.key_out.now a.work.now c.in_ok-row.row.p (sym c.in_ok-row.ensures)
    _ c.in_err-check_keygen.ensures (refused _))

pub generate-requires : goal.generate-requires
generate-requires c =
    let a = c.args in
    let p = c.in_ok-row.row.p in
    let t = c.in_ok-row.row.tabled in
    let h = passed p a.seeds.now a.mask_seed.now a.key_out.now a.work.now (sym c.in_ok-check_keygen.ensures) in
    record { work_len = (h.work-long, h.seeds-long); out_len = h.out-long ∙ key-long p t }

pub returns : goal.returns
returns c =
    let a = c.args in
    c.generate.ensures
    ∙ keygen-on a.edition a.set a.shares a.seeds.now a.mask_seed.now a.key_out.now a.work.now c.in_ok-row.row.p
    (sym c.in_ok-row.ensures) (sym c.in_ok-check_keygen.ensures)
