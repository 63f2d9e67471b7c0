use Rattle.std.proofs.lemmas.Result.{err_from_is_err_and}
use mathlib.Core.Path.{sym, ◌∙◌}
use Prim.Native.Nat.{◌*◌}
use native.Mathlib.Omega.{arith}
use lib.ListN.{length, drop}
use Rattle.signature.specs.Bits.{bit_string}
use Rattle.signature.specs.Code.{read_codes}
use Rattle.signature.proofs.Held.{ok-some, err-none}
use Rattle.signature.proofs.Strings.{length_fields}
use Rattle.signature.proofs.Reading.{next-no, next-at, read_none, no-hint, hint-only, hint-room, read-both}
use Rattle.signature.proofs.form.read.Goals as goal

pub returns-in_err-a-clause-value : goal.returns-in_err-a-clause-value
returns-in_err-a-clause-value c =
    let n = length c.args.hint.now in
    let t = drop (8 * c.args.hash_bytes) (bit_string 8 c.args.sig.now) in
    let r = err_from_is_err_and c.from_residual.result c.from_residual.ensures.1 in
    rw r.1 (read_none _ t _ _ (no-hint n (length c.args.response.now) t (next-no _ _ (read_codes 0 n t) _ (err-none _ _ _ _ c.ok_or.ensures.value c.in_err-a.was).0 c.get_codes.ensures)))

pub get_codes-requires-2-clause-at_in_bounds : goal.get_codes-requires-2-clause-at_in_bounds
get_codes-requires-2-clause-at_in_bounds c =
    let n = length c.args.hint.now in
    let at = 8 * c.args.hash_bytes in
    let F = bit_string 8 c.args.sig.now in
    let f = next-at at _ (read_codes 0 n (drop at F)) _ _ (ok-some _ _ _ _ c.ok_or.ensures.value c.in_ok-a.was) c.get_codes.ensures in
    let s = length_fields 8 c.args.sig.now in
    omega (arith, hint-room n 0 F at _ f.0 _ f.1 f.2 (omega arith))

pub returns-in_err-b-clause-value : goal.returns-in_err-b-clause-value
returns-in_err-b-clause-value c =
    let n = length c.args.hint.now in
    let m = length c.args.response.now in
    let at = 8 * c.args.hash_bytes in
    let k = c.in_ok-a.a in
    let F = bit_string 8 c.args.sig.now in
    let f = next-at at _ (read_codes 0 n (drop at F)) k _ (ok-some _ _ _ _ c.ok_or.ensures.value c.in_ok-a.was) c.get_codes.ensures in
    let r = err_from_is_err_and c.from_residual-in_err-b.result c.from_residual-in_err-b.ensures.1 in
    rw r.1 (read_none _ (drop at F) _ _ (hint-only n m F at _ f.0 k f.1 f.2 (next-no k _ (read_codes 40 m (drop k F)) _ (err-none _ _ _ _ c.ok_or-2.ensures.value c.in_err-b.was).0 c.get_codes-2.ensures)))

pub returns-then-not-all_zero-clause-value : goal.returns-then-not-all_zero-clause-value
returns-then-not-all_zero-clause-value c =
    let n = length c.args.hint.now in
    let m = length c.args.response.now in
    let at = 8 * c.args.hash_bytes in
    let k = c.in_ok-a.a in
    let F = bit_string 8 c.args.sig.now in
    let f = next-at at _ (read_codes 0 n (drop at F)) k _ (ok-some _ _ _ _ c.ok_or.ensures.value c.in_ok-a.was) c.get_codes.ensures in
    let g = next-at k _ (read_codes 40 m (drop k F)) _ _ (ok-some _ _ _ _ c.ok_or-2.ensures.value c.in_ok-b.was) c.get_codes-2.ensures in
    read-both n m F at _ f.0 k f.1 f.2 _ g.0 _ _ g.1 g.2 (sym c.if-not-all_zero.true ∙ c.all_zero.ensures)

pub returns-clause-value : goal.returns-clause-value
returns-clause-value c =
    let n = length c.args.hint.now in
    let m = length c.args.response.now in
    let at = 8 * c.args.hash_bytes in
    let k = c.in_ok-a.a in
    let F = bit_string 8 c.args.sig.now in
    let f = next-at at _ (read_codes 0 n (drop at F)) k _ (ok-some _ _ _ _ c.ok_or.ensures.value c.in_ok-a.was) c.get_codes.ensures in
    let g = next-at k _ (read_codes 40 m (drop k F)) _ _ (ok-some _ _ _ _ c.ok_or-2.ensures.value c.in_ok-b.was) c.get_codes-2.ensures in
    read-both n m F at _ f.0 k f.1 f.2 _ g.0 _ _ g.1 g.2 (sym c.if-not-all_zero.false ∙ c.all_zero.ensures)
