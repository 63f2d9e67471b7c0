use mathlib.Core.Path.{refl, sym, ◌∙◌}
use lib.Dec.{eqb, leb}
use lib.ListN.{length}
use borrow.Author.Tests.{le-leb, lt-leb, eq-eqb, ne_eqb}
use Rattle.ring.proofs.Checks.{no-here, yes-here, left-no, right-no, both_yes}
use Rattle.signature.proofs.signcheck.check_call.Goals as goal

pub returns-then-attempts-lt1 : goal.returns-then-attempts-lt1
returns-then-attempts-lt1 c = no-here 6 _ (left-no _ (lt-leb 1 _ c.if-attempts-lt1.true))

pub returns-then-attempts-gt16 : goal.returns-then-attempts-gt16
returns-then-attempts-gt16 c = no-here 6 _ (right-no (leb 1 c.args.attempts) (lt-leb _ 16 c.if-attempts-gt16.true))

pub returns-then-not-coins_good : goal.returns-then-not-coins_good
returns-then-not-coins_good c = yes-here 6 (both_yes (le-leb 1 _ c.if-attempts-lt1.false) (le-leb _ 16 c.if-attempts-gt16.false)) (no-here 7 _ (sym c.coins_good.ensures ∙ c.if-not-coins_good.true))

pub returns-then-out-p : goal.returns-then-out-p
returns-then-out-p c =
    yes-here 6 (both_yes (le-leb 1 _ c.if-attempts-lt1.false) (le-leb _ 16 c.if-attempts-gt16.false))
    (yes-here 7 (sym c.coins_good.ensures ∙ c.if-not-coins_good.false) (no-here 8 _ (left-no _ (ne_eqb _ _ c.if-out-p.true))))

pub returns-then-work-work_words : goal.returns-then-work-work_words
returns-then-work-work_words c =
    yes-here 6 (both_yes (le-leb 1 _ c.if-attempts-lt1.false) (le-leb _ 16 c.if-attempts-gt16.false))
    (yes-here 7 (sym c.coins_good.ensures ∙ c.if-not-coins_good.false)
    (no-here 8 _ (right-no (eqb (length c.args.out.now) c.args.row.p.sig_bytes) (ne_eqb _ _ (λ e. c.if-work-work_words.true (e ∙ sym c.work_words.ensures))))))

pub returns-then-msg-gt4096 : goal.returns-then-msg-gt4096
returns-then-msg-gt4096 c =
    yes-here 6 (both_yes (le-leb 1 _ c.if-attempts-lt1.false) (le-leb _ 16 c.if-attempts-gt16.false))
    (yes-here 7 (sym c.coins_good.ensures ∙ c.if-not-coins_good.false)
    (yes-here 8 (both_yes (eq-eqb _ _ c.if-out-p.false) (eq-eqb _ _ (c.if-work-work_words.false ∙ c.work_words.ensures)))
    (no-here 9 _ (lt-leb _ 4096 c.if-msg-gt4096.true))))

pub returns : goal.returns
returns c =
    yes-here 6 (both_yes (le-leb 1 _ c.if-attempts-lt1.false) (le-leb _ 16 c.if-attempts-gt16.false))
    (yes-here 7 (sym c.coins_good.ensures ∙ c.if-not-coins_good.false)
    (yes-here 8 (both_yes (eq-eqb _ _ c.if-out-p.false) (eq-eqb _ _ (c.if-work-work_words.false ∙ c.work_words.ensures)))
    (yes-here 9 (le-leb _ 4096 c.if-msg-gt4096.false) refl)))
