use mathlib.Core.Path.{refl, sym, ◌∙◌}
use Rattle.std.proofs.lemmas.Result.{err_from_is_err_and}
use Rattle.hash.proofs.Refusals.{refused}
use Rattle.signature.proofs.Asked.{refreshable, refresh-unknown, refresh-refused, refresh-done}
use Rattle.signature.proofs.keys.refresh_key.Goals as goal

pub returns-in_err-row : goal.returns-in_err-row
returns-in_err-row c =
    let a = c.args in
    let r = err_from_is_err_and c.from_residual.result c.from_residual.ensures.1 in
    rw (r.1, r.2)
    (refresh-unknown a.set a.shares (record { bytes = a.bytes.now; words = a.words.now }) a.mask_seed.now a.bytes_out.now a.words_out.now _ c.in_err-row.ensures)

pub returns-in_err-check_refresh : goal.returns-in_err-check_refresh
returns-in_err-check_refresh c =
    let a = c.args in
    let r = err_from_is_err_and c.from_residual-in_err-check_refresh.result c.from_residual-in_err-check_refresh.ensures.1 in
    rw (r.1, r.2)
    (refresh-refused a.set a.shares (record { bytes = a.bytes.now; words = a.words.now }) a.mask_seed.now a.bytes_out.now a.words_out.now
    c.in_ok-row.row.p c.in_ok-row.ensures _ c.in_err-check_refresh.ensures (refused _))

pub renew-requires : goal.renew-requires
renew-requires c =
    let a = c.args in
    let p = c.in_ok-row.row.p in
    let h = refreshable p (record { bytes = a.bytes.now; words = a.words.now }) a.mask_seed.now a.bytes_out.now a.words_out.now
    (sym c.in_ok-check_refresh.ensures) in
    record {
      words_value = record { long = h.shares-long; low = h.shares-low };
      bytes_len = (h.key-long, h.bytes-long, h.words_long ∙ sym h.shares-long);
    }

pub returns : goal.returns
returns c =
    let a = c.args in
    refresh-done a.set a.shares (record { bytes = a.bytes.now; words = a.words.now }) a.mask_seed.now a.bytes_out.now a.words_out.now
    c.in_ok-row.row.p c.in_ok-row.ensures 0 c.in_ok-check_refresh.ensures refl
    c.renew.new.bytes_out c.renew.new.words_out c.renew.ensures.0 c.renew.ensures.1
