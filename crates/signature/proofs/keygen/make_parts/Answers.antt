use mathlib.Core.Path.{refl, sym, ◌∙◌}
use Rattle.std.proofs.lemmas.Result.{err_from_is_err_and}
use Rattle.hash.proofs.Refusals.{unless-yes, unless-no}
use borrow.Author.Tests.{not-true, not-false}
use Rattle.ring.proofs.Checks.{no-here, yes-here}
use Rattle.signature.proofs.KeySteps.{none_made, noise-asked, vector-asked, compress-asked, parts-made}
use Rattle.signature.proofs.Sizes.{first_fits, matrix-new, coins-first, matrix-held}
use lib.ListN.{length}
use Rattle.signature.proofs.keygen.make_parts.Goals as goal

pub overflow_mul-b : goal.overflow_mul-b
overflow_mul-b c = (first_fits c.args.row.p c.args.row.tabled).0

pub overflow_mul-b-2 : goal.overflow_mul-b-2
overflow_mul-b-2 c = (first_fits c.args.row.p c.args.row.tabled).1

pub overflow_mul-b-3 : goal.overflow_mul-b-3
overflow_mul-b-3 c = (first_fits c.args.row.p c.args.row.tabled).2

pub expand_matrix-requires : goal.expand_matrix-requires
expand_matrix-requires c = matrix-new c.args.row.p c.args.row.tabled

pub returns-in_err-expand_matrix : goal.returns-in_err-expand_matrix
returns-in_err-expand_matrix c =
    let r = err_from_is_err_and c.from_residual.result c.from_residual.ensures.1 in
    let u = unless-no _ _ (sym c.in_err-expand_matrix.was ∙ c.expand_matrix.ensures.value.0) in
    let t = none_made _ _ _ c.clear.ensures _ c.args.coins.now c.args.shares.now c.args.mask_seed.now _ refl u.0 in
    record { value = rw (r.1, r.2, u.1) t.0; by_index = t.1 }

pub masked_noise-x-requires : goal.masked_noise-x-requires
masked_noise-x-requires c =
    let t = noise-asked _ _ _ c.clear.ensures c.args.row.tabled _ _ _ c.requires.0 c.requires.1 c.at_s-at.ensures c.at_t-to.ensures in
    record { noise_for = t.0; shares_bound = t.1 }

pub slice_bounds-public_vector-count : goal.slice_bounds-public_vector-count
slice_bounds-public_vector-count c = coins-first c.args.row.p c.args.row.tabled (length c.args.coins.now) c.requires.1

pub slice_bounds-public_vector-start : goal.slice_bounds-public_vector-start
slice_bounds-public_vector-start c = coins-first c.args.row.p c.args.row.tabled (length c.args.coins.now) c.requires.1

pub public_vector-y-requires : goal.public_vector-y-requires
public_vector-y-requires c =
    let m = c.expand_matrix.ensures in
    let t = vector-asked _ _ _ c.clear.ensures c.args.row.tabled _ _ _ c.requires.0 c.requires.1 c.at_s-at.ensures c.at_t-to.ensures _ _ _ m.value.1 m.value.2
    c.masked_noise-x.ensures.0 in record { seeds_len = t.0.0; shares_bound = t.1 }

pub compress_vector-requires : goal.compress_vector-requires
compress_vector-requires c =
    let m = c.expand_matrix.ensures in
    compress-asked _ _ _ c.clear.ensures c.args.row.tabled _ _ _ c.requires.0 c.requires.1 c.at_s-at.ensures c.at_t-to.ensures _ _ _ m.value.1 m.value.2
    c.masked_noise-x.ensures.0 _ _ _ _ c.at_x.ensures c.public_vector-y.ensures.0 c.requires.2

-- behind the compression: the parts of the key, with check 10 or 20, or none

pub returns-in_err-compress_vector : goal.returns-in_err-compress_vector
returns-in_err-compress_vector c =
    let r = err_from_is_err_and c.from_residual-in_err-compress_vector.result c.from_residual-in_err-compress_vector.ensures.1 in
    let w = unless-no _ _ (sym c.in_err-compress_vector.was ∙ c.compress_vector.ensures.value.0) in
    let m = c.expand_matrix.ensures in
    let u = c.masked_noise-x.ensures in
    let v = c.public_vector-y.ensures in
    let f = c.compress_vector.ensures in
    let yes = unless-yes _ _ (sym c.in_ok-expand_matrix.was ∙ m.value.0) in
    let t = parts-made _ _ _ c.clear.ensures c.args.row.tabled _ _ _ c.requires.0 c.requires.1 c.at_s-at.ensures c.at_t-to.ensures _ _ _ m.value.1 m.value.2 u.0
    _ _ _ _ c.at_x.ensures v.0 _ _ _ _ _ _ _ c.start-g.ensures refl yes m.by_index u.1 v.1 (refl, f.value.1, f.value.2) f.by_index
    (no-here 10 _ w.0) in
    record { value = rw (r.1, r.2, w.1) t.0; by_index = t.1 }

pub returns-then-not-y : goal.returns-then-not-y
returns-then-not-y c =
    let w = unless-yes _ _ (sym c.in_ok-compress_vector.was ∙ c.compress_vector.ensures.value.0) in
    let m = c.expand_matrix.ensures in
    let u = c.masked_noise-x.ensures in
    let v = c.public_vector-y.ensures in
    let f = c.compress_vector.ensures in
    let yes = unless-yes _ _ (sym c.in_ok-expand_matrix.was ∙ m.value.0) in
    let t = parts-made _ _ _ c.clear.ensures c.args.row.tabled _ _ _ c.requires.0 c.requires.1 c.at_s-at.ensures c.at_t-to.ensures _ _ _ m.value.1 m.value.2 u.0
    _ _ _ _ c.at_x.ensures v.0 _ _ _ _ _ _ _ c.start-g.ensures refl yes m.by_index u.1 v.1 (refl, f.value.1, f.value.2) f.by_index
    (yes-here 10 w (no-here 20 _ (not-true c.public_vector-y.result.ok c.if-not-y.true))) in
    record { value = t.0; by_index = t.1 }

pub returns : goal.returns
returns c =
    let w = unless-yes _ _ (sym c.in_ok-compress_vector.was ∙ c.compress_vector.ensures.value.0) in
    let m = c.expand_matrix.ensures in
    let u = c.masked_noise-x.ensures in
    let v = c.public_vector-y.ensures in
    let f = c.compress_vector.ensures in
    let yes = unless-yes _ _ (sym c.in_ok-expand_matrix.was ∙ m.value.0) in
    let t = parts-made _ _ _ c.clear.ensures c.args.row.tabled _ _ _ c.requires.0 c.requires.1 c.at_s-at.ensures c.at_t-to.ensures _ _ _ m.value.1 m.value.2 u.0
    _ _ _ _ c.at_x.ensures v.0 _ _ _ _ _ _ _ c.start-g.ensures refl yes m.by_index u.1 v.1 (refl, f.value.1, f.value.2) f.by_index
    (yes-here 10 w (yes-here 20 (not-false c.public_vector-y.result.ok c.if-not-y.false) refl)) in
    record { value = t.0; by_index = t.1 }

pub invariant_of-public_vector : goal.invariant_of-public_vector
invariant_of-public_vector c =
    let m = c.expand_matrix.ensures.value in
    record { held = matrix-held c.args.row.p c.args.row.tabled _ m.1 m.2 }
