use Rattle.std.proofs.lemmas.Result.{err_from_is_err_and}
use Rattle.std.specs.Prelude.{Err}
use Rattle.hash.proofs.Refusals.{unless-yes, unless-no, unless-is}
use mathlib.Core.Path.{◌≡◌, refl, sym, ap, ◌∙◌}
use Prim.Native.Nat.{◌+◌, ◌*◌, ◌≤◌}
use lib.ListN.{length}
use native.Mathlib.Omega.{arith}
use Rattle.ring.specs.Transform.{ntt}
use Rattle.sharing.proofs.Lists.{inside}
use Rattle.signature.specs.Matrix.{build_all, matrix_at, filled}
use Rattle.signature.specs.MatrixSteps.{row_entry, row_made}
use Rattle.signature.proofs.Entries.{all_none, all_more, all-not}
use Rattle.signature.proofs.InResidues.{residues-start, residues-turn, residues-end, part-residues}
use Rattle.signature.proofs.matrix.expand_row.Goals as goal

pub loop-m-init : goal.loop-m-init
loop-m-init c =
    let a = c in
    (omega arith, all_none (matrix_at a.args.seed.now a.args.i), residues-start a.args.to _ a.args.s.now a.requires.1)

pub overflow_mul-b : goal.overflow_mul-b
overflow_mul-b c = omega (arith, inside c.loop-m.m c.args.l 512 c.loop-m-test.true, c.requires.0)

pub overflow_add-b : goal.overflow_add-b
overflow_add-b c = omega (arith, inside c.loop-m.m c.args.l 512 c.loop-m-test.true, c.requires.0)

pub overflow_add-e : goal.overflow_add-e
overflow_add-e c = omega (arith, inside c.loop-m.m c.args.l 512 c.loop-m-test.true, c.requires.0)

pub slice_bounds-entry_into-end : goal.slice_bounds-entry_into-end
slice_bounds-entry_into-end c = omega (arith, inside c.loop-m.m c.args.l 512 c.loop-m-test.true, c.requires.0, c.loop-m.invariant.2.long)

pub entry_into-requires : goal.entry_into-requires
entry_into-requires c =
    let a = c in
    let l = c.loop-m in
    let t = c.loop-m-test.true in
    let k : a.args.to + l.m * 512 + 512 ≤ length l.s = omega (arith, inside l.m a.args.l 512 t, a.requires.0, l.invariant.2.long) in
    ((part-residues l.s (a.args.to + l.m * 512) k l.invariant.2.low).long, a.requires.2, omega (arith, t, a.requires.3))

pub returns-in_err-entry_into : goal.returns-in_err-entry_into
returns-in_err-entry_into c =
    let b = c.args in
    let l = c.loop-m in
    let t = c.loop-m-test.true in
    let e = c.entry_into.ensures in
    let r = err_from_is_err_and c.from_residual.result c.from_residual.ensures.1 in
    let u = unless-no _ _ (sym c.in_err-entry_into.was ∙ e.0) in
    let no = all-not b.l l.m (matrix_at b.seed.now b.i) t u.0 in
    let v = residues-turn b.to l.m (λ j. ntt (row_entry b.seed.now b.i j)) (b.to + l.m * 512) _ l.s _ refl (omega (arith, inside l.m b.l 512 t, c.requires.0, l.invariant.2.long)) l.invariant.2 e.2 e.1 in
    record { value = (rw (r.1, r.2, no) (ap Err u.1), v.long, v.low); wrote = rw r.1 tt }

pub loop-m-preserved : goal.loop-m-preserved
loop-m-preserved c =
    let a = c in
    let b = a.args in
    let l = c.loop-m in
    let t = c.loop-m-test.true in
    let e = c.entry_into.ensures in
    let f = matrix_at b.seed.now b.i in (
      omega (arith, t),
      all_more l.m f l.invariant.1 (unless-yes _ _ (sym c.in_ok-entry_into.was ∙ e.0)),
      residues-turn b.to l.m (λ j. ntt (row_entry b.seed.now b.i j)) (b.to + l.m * 512) _ l.s _ refl (omega (arith, inside l.m b.l 512 t, a.requires.0, l.invariant.2.long)) l.invariant.2 e.2 e.1,
    )

pub returns : goal.returns
unfolding row_made
returns c =
    let b = c.args in
    let l = c.loop-m in
    let e : l.m ≡ b.l = omega (arith, l.invariant.0, c.loop-m-test.false) in
    let v = residues-end (λ j. ntt (row_entry b.seed.now b.i j)) e l.invariant.2 in record { value = (unless-is _ (sym (ap (λ n. filled (build_all n (matrix_at b.seed.now b.i))) e) ∙ l.invariant.1), v.long, v.low); wrote = v.wrote }
