use Rattle.std.proofs.lemmas.Result.{err_from_is_err_and}
use Rattle.std.specs.Prelude.{Err}
use Rattle.hash.proofs.Refusals.{unless-yes, unless-no, unless-is}
use mathlib.Core.Bool.{false}
use mathlib.Core.Path.{◌≡◌, refl, sym, ap, subst, ◌∙◌}
use Prim.Native.Nat.{◌+◌, ◌*◌, ◌<◌}
use native.Mathlib.Omega.{arith}
use Rattle.ring.specs.Rns.{words_of}
use Rattle.ring.proofs.Filled.{not_there}
use Rattle.ring.proofs.Recombined.{below-words}
use Rattle.sharing.specs.Region.{Wrote}
use Rattle.sharing.proofs.Lists.{inside}
use Rattle.sharing.proofs.Regions.{wrote-start, wrote-turn, wrote-end}
use Rattle.signature.specs.Matrix.{build_all, matrix_at, matrix_of, filled}
use Rattle.signature.specs.MatrixSteps.{row_made}
use Rattle.signature.proofs.Entries.{all_none, all_more, all-not, made_all}
use Rattle.signature.proofs.matrix.expand_matrix.Goals as goal

pub loop-i-init : goal.loop-i-init
loop-i-init c =
    let a = c in
    (omega arith, all_none (λ j. build_all a.args.l (matrix_at a.args.seed.now j)), wrote-start (a.args.l * 512) (row_made a.args.l a.args.seed.now) 0 0 (words_of a.args.s.now) (below-words a.args.s.now), refl, a.requires.1)

pub overflow_mul-l : goal.overflow_mul-l
overflow_mul-l c =
    let a = c in
    omega (arith, inside c.loop-i.i a.args.k (a.args.l * 512) c.loop-i-test.true, a.requires.0, a.requires.2, a.requires.3)

pub overflow_mul-i : goal.overflow_mul-i
overflow_mul-i c =
    let a = c in
    omega (arith, inside c.loop-i.i a.args.k (a.args.l * 512) c.loop-i-test.true, a.requires.0, a.requires.2, a.requires.3)

pub expand_row-requires : goal.expand_row-requires
expand_row-requires c =
    let a = c in
    let l = c.loop-i in
    let h : l.i < a.args.k = c.loop-i-test.true in
    let n = l.invariant.3 in
    (omega (arith, inside l.i a.args.k (a.args.l * 512) h, n, a.requires.0), l.invariant.4, omega (arith, h, a.requires.2), omega (arith, a.requires.3))

pub returns-in_err-expand_row : goal.returns-in_err-expand_row
unfolding matrix_of
returns-in_err-expand_row c =
    let b = c.args in
    let l = c.loop-i in
    let z = c.expand_row.ensures.value in
    let r = err_from_is_err_and c.from_residual.result c.from_residual.ensures.1 in
    let u = unless-no _ _ (sym c.in_err-expand_row.was ∙ z.0) in
    let no : filled (matrix_of b.k b.l b.seed.now) ≡ false = all-not b.k l.i (λ j. build_all b.l (matrix_at b.seed.now j)) c.loop-i-test.true u.0 in
    record { value = (rw (r.1, r.2, no) (ap Err u.1), z.1 ∙ l.invariant.3, z.2); by_index = λ A m. not_there _ A m no }

pub loop-i-preserved : goal.loop-i-preserved
loop-i-preserved c =
    let b = c.args in
    let l = c.loop-i in
    let z = c.expand_row.ensures in
    let e = unless-yes _ _ (sym c.in_ok-expand_row.was ∙ z.value.0) in
    let o : l.i * (b.l * 512) ≡ 0 + l.i * (b.l * 512) = omega arith in
    let w = subst (λ n. Wrote 0 n (b.l * 512) (row_made b.l b.seed.now l.i) (words_of l.s) (words_of c.expand_row.new.s)) o c.in_ok-expand_row.ensures.wrote in
    (omega (arith, c.loop-i-test.true), all_more l.i (λ j. build_all b.l (matrix_at b.seed.now j)) l.invariant.1 e, wrote-turn (b.l * 512) l.i (row_made b.l b.seed.now) (omega arith) l.invariant.2 w, z.value.1 ∙ l.invariant.3, z.value.2)

pub returns : goal.returns
unfolding matrix_of
returns c =
    let b = c.args in
    let l = c.loop-i in
    let v = l.invariant in
    let e : l.i ≡ b.k = omega (arith, v.0, c.loop-i-test.false) in record { value = (unless-is _ (sym (ap (λ n. filled (build_all n (λ j. build_all b.l (matrix_at b.seed.now j)))) e) ∙ v.1), v.3, v.4); by_index = λ A m. made_all b.k b.l b.seed.now A m (words_of l.s) (wrote-end (b.l * 512) (row_made b.l b.seed.now) e v.2).new }
