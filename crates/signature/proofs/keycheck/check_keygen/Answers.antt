use mathlib.Core.Path.{refl, sym, ◌∙◌}
use lib.Dec.{eqb}
use lib.ListN.{length}
use borrow.Author.Tests.{eq-eqb, ne_eqb}
use Rattle.ring.proofs.Checks.{no-here, yes-here, left-no, right-no, both_yes}
use Rattle.signature.specs.Keys.{keygen_bytes}
use Rattle.signature.proofs.keycheck.check_keygen.Goals as goal

pub returns-then-seeds-keygen_bytes : goal.returns-then-seeds-keygen_bytes
returns-then-seeds-keygen_bytes c =
    no-here 7 _ (left-no _ (ne_eqb _ _ (λ e. c.if-seeds-keygen_bytes.true (e ∙ sym c.keygen_bytes.ensures))))

pub returns-then-mask_seed-ne32 : goal.returns-then-mask_seed-ne32
returns-then-mask_seed-ne32 c =
    no-here 7 _ (right-no (eqb (length c.args.seeds.now) (keygen_bytes c.args.row.p)) (ne_eqb _ _ c.if-mask_seed-ne32.true))

pub returns-then-out-p : goal.returns-then-out-p
returns-then-out-p c =
    yes-here 7 (both_yes (eq-eqb _ _ (c.if-seeds-keygen_bytes.false ∙ c.keygen_bytes.ensures)) (eq-eqb _ _ c.if-mask_seed-ne32.false)) (no-here 8 _ (left-no _ (ne_eqb _ _ c.if-out-p.true)))

pub returns-then-work-work_words : goal.returns-then-work-work_words
returns-then-work-work_words c =
    yes-here 7 (both_yes (eq-eqb _ _ (c.if-seeds-keygen_bytes.false ∙ c.keygen_bytes.ensures)) (eq-eqb _ _ c.if-mask_seed-ne32.false))
    (no-here 8 _ (right-no (eqb (length c.args.out.now) c.args.row.p.sk_bytes) (ne_eqb _ _ (λ e. c.if-work-work_words.true (e ∙ sym c.work_words.ensures)))))

pub returns : goal.returns
returns c =
    yes-here 7 (both_yes (eq-eqb _ _ (c.if-seeds-keygen_bytes.false ∙ c.keygen_bytes.ensures)) (eq-eqb _ _ c.if-mask_seed-ne32.false))
    (yes-here 8 (both_yes (eq-eqb _ _ c.if-out-p.false) (eq-eqb _ _ (c.if-work-work_words.false ∙ c.work_words.ensures))) refl)
