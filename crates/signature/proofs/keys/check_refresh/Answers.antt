use Rattle.std.proofs.lemmas.Result.{err_from_is_err_and}
use Rattle.hash.proofs.Refusals.{refused}
use mathlib.Core.Path.{◌≡◌, refl, sym, ◌∙◌}
use Prim.Native.Nat.{ℕ}
use borrow.Author.Tests.{eq-eqb, ne_eqb}
use Rattle.ring.proofs.Checks.{no-here, yes-here, no-before, yes-before}
use Rattle.signature.specs.Checks.{first_no, key_checks}
use Rattle.signature.specs.Keys.{expanded}
use Rattle.signature.proofs.Asked.{refresh_last, refresh_behind}
use Rattle.signature.proofs.keys.check_refresh.Goals as goal

pub returns-in_err-check_expanded : goal.returns-in_err-check_expanded
returns-in_err-check_expanded c =
    let a = c.args in
    let r = err_from_is_err_and c.from_residual.result c.from_residual.ensures.1 in
    rw (r.1, r.2)
    (no-before (key_checks a.row.p (expanded (record { bytes = a.bytes.now; words = a.words.now }))) (refresh_last a.row.p a.mask_seed.now a.bytes_out.now a.words_out.now) _ c.in_err-check_expanded.ensures (refused _))

pub returns-then-mask_seed-ne32 : goal.returns-then-mask_seed-ne32
returns-then-mask_seed-ne32 c =
    -- where the key's checks are yes the others decide
    let on : (n : ℕ) → let a = c.args in
    n ≡ first_no (refresh_last a.row.p a.mask_seed.now a.bytes_out.now a.words_out.now)
    → n ≡ first_no (refresh_behind a.row.p (record { bytes = a.bytes.now; words = a.words.now }) a.mask_seed.now a.bytes_out.now a.words_out.now) = λ n h. let a = c.args in
    h ∙ sym (yes-before (key_checks a.row.p (expanded (record { bytes = a.bytes.now; words = a.words.now }))) (refresh_last a.row.p a.mask_seed.now a.bytes_out.now a.words_out.now) refl (sym c.in_ok-check_expanded.ensures)) in
    on 7 (no-here 7 _ (ne_eqb _ _ c.if-mask_seed-ne32.true))

pub returns-then-not-sized : goal.returns-then-not-sized
returns-then-not-sized c =
    -- where the key's checks are yes the others decide
    let on : (n : ℕ) → let a = c.args in
    n ≡ first_no (refresh_last a.row.p a.mask_seed.now a.bytes_out.now a.words_out.now)
    → n ≡ first_no (refresh_behind a.row.p (record { bytes = a.bytes.now; words = a.words.now }) a.mask_seed.now a.bytes_out.now a.words_out.now) = λ n h. let a = c.args in
    h ∙ sym (yes-before (key_checks a.row.p (expanded (record { bytes = a.bytes.now; words = a.words.now }))) (refresh_last a.row.p a.mask_seed.now a.bytes_out.now a.words_out.now) refl (sym c.in_ok-check_expanded.ensures)) in
    on 8 (yes-here 7 (eq-eqb _ _ c.if-mask_seed-ne32.false) (no-here 8 _ (sym c.sized.ensures ∙ c.if-not-sized.true)))

pub returns-then-not-masks_fill : goal.returns-then-not-masks_fill
returns-then-not-masks_fill c =
    -- where the key's checks are yes the others decide
    let on : (n : ℕ) → let a = c.args in
    n ≡ first_no (refresh_last a.row.p a.mask_seed.now a.bytes_out.now a.words_out.now)
    → n ≡ first_no (refresh_behind a.row.p (record { bytes = a.bytes.now; words = a.words.now }) a.mask_seed.now a.bytes_out.now a.words_out.now) = λ n h. let a = c.args in
    h ∙ sym (yes-before (key_checks a.row.p (expanded (record { bytes = a.bytes.now; words = a.words.now }))) (refresh_last a.row.p a.mask_seed.now a.bytes_out.now a.words_out.now) refl (sym c.in_ok-check_expanded.ensures)) in
    on 20
    (yes-here 7 (eq-eqb _ _ c.if-mask_seed-ne32.false) (yes-here 8 (sym c.sized.ensures ∙ c.if-not-sized.false)
    (no-here 20 _ (sym c.masks_fill.ensures ∙ c.if-not-masks_fill.true))))

pub returns : goal.returns
returns c =
    -- where the key's checks are yes the others decide
    let on : (n : ℕ) → let a = c.args in
    n ≡ first_no (refresh_last a.row.p a.mask_seed.now a.bytes_out.now a.words_out.now)
    → n ≡ first_no (refresh_behind a.row.p (record { bytes = a.bytes.now; words = a.words.now }) a.mask_seed.now a.bytes_out.now a.words_out.now) = λ n h. let a = c.args in
    h ∙ sym (yes-before (key_checks a.row.p (expanded (record { bytes = a.bytes.now; words = a.words.now }))) (refresh_last a.row.p a.mask_seed.now a.bytes_out.now a.words_out.now) refl (sym c.in_ok-check_expanded.ensures)) in
    on 0
    (yes-here 7 (eq-eqb _ _ c.if-mask_seed-ne32.false) (yes-here 8 (sym c.sized.ensures ∙ c.if-not-sized.false)
    (yes-here 20 (sym c.masks_fill.ensures ∙ c.if-not-masks_fill.false) refl)))
