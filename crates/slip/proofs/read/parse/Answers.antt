use Prim.Native.Nat.{ℕ, ◌+◌, ◌-◌}
use mathlib.Core.Path.{◌≡◌, refl, sym, ap, ◌∙◌}
use mathlib.Core.Bool.{true, false}
use native.Mathlib.Omega.{arith}
use lib.ListN.{length, get_or, length-drop}
use Rattle.hash.proofs.Word.{le_low}
use Rattle.hash.specs.Lists.{table}
use Rattle.ring.proofs.Checks.{no-here, yes-here}
use Rattle.slip.specs.Calls.{mark_there, version_there}
use Rattle.slip.specs.Format.{signature_at, signature_in, set_by_size}
use Rattle.slip.proofs.Parsed.{missing, lacks-leading, long-text, no-set-fits, text-past-end, all-fits, split-no, split-yes}
use Rattle.std.proofs.lemmas.Result.{err_from_is_err_and}
use Rattle.std.specs.Prelude.{Err}
use Rattle.hash.specs.Refusal.{number_of}
use Rattle.hash.proofs.Others.{none-other, some-other}
use Rattle.slip.proofs.read.parse.Goals as goal

pub returns-then-not-stands_at : goal.returns-then-not-stands_at
returns-then-not-stands_at c =
    -- checks 17 and 18
    let mark-no : mark_there c.args.slip.now ≡ false = sym c.stands_at.ensures ∙ c.if-not-stands_at.true in
    split-no c.args.slip.now 16 (no-here 17 _ mark-no)

pub returns-then-not-stands_at-2 : goal.returns-then-not-stands_at-2
unfolding table
returns-then-not-stands_at-2 c =
    let mark-yes : mark_there c.args.slip.now ≡ true = sym c.stands_at.ensures ∙ c.if-not-stands_at.false in
    let version-no : version_there c.args.slip.now ≡ false = sym c.stands_at-2.ensures ∙ c.if-not-stands_at-2.true in
    split-no c.args.slip.now 17 (yes-here 17 mark-yes (no-here 18 _ version-no))

pub returns-then-n-lt10 : goal.returns-then-n-lt10
unfolding table
returns-then-n-lt10 c =
    let mark-yes : mark_there c.args.slip.now ≡ true = sym c.stands_at.ensures ∙ c.if-not-stands_at.false in
    let version-yes : version_there c.args.slip.now ≡ true = sym c.stands_at-2.ensures ∙ c.if-not-stands_at-2.false in
    let b = c.args.slip.now in
    split-no b 18 (yes-here 17 mark-yes (yes-here 18 version-yes (no-here 19 _ (lacks-leading b c.if-n-lt10.true))))

pub overflow_add-at : goal.overflow_add-at
overflow_add-at c =
    let b = c.args.slip.now in
    let l = le_low (λ (j : ℕ). get_or b (8 + j) 0) 2 (λ j _. (c.type_inv.slip (8 + j)).fits) in
    omega (arith, l, c.load-text.ensures)

pub returns-then-text-gt512 : goal.returns-then-text-gt512
unfolding table
returns-then-text-gt512 c =
    let mark-yes : mark_there c.args.slip.now ≡ true = sym c.stands_at.ensures ∙ c.if-not-stands_at.false in
    let version-yes : version_there c.args.slip.now ≡ true = sym c.stands_at-2.ensures ∙ c.if-not-stands_at-2.false in
    let b = c.args.slip.now in
    split-no b 18
    (yes-here 17 mark-yes (yes-here 18 version-yes (no-here 19 _ (long-text b (omega (arith, c.if-text-gt512.true, c.load-text.ensures))))))

pub returns-then-n-at : goal.returns-then-n-at
unfolding table
returns-then-n-at c =
    let mark-yes : mark_there c.args.slip.now ≡ true = sym c.stands_at.ensures ∙ c.if-not-stands_at.false in
    let version-yes : version_there c.args.slip.now ≡ true = sym c.stands_at-2.ensures ∙ c.if-not-stands_at-2.false in
    let b = c.args.slip.now in
    split-no b 18
    (yes-here 17 mark-yes (yes-here 18 version-yes (no-here 19 _ (text-past-end b (omega (arith, c.if-n-at.true, c.load-text.ensures))))))

pub returns-in_err-set : goal.returns-in_err-set
unfolding table
returns-in_err-set c =
    let mark-yes : mark_there c.args.slip.now ≡ true = sym c.stands_at.ensures ∙ c.if-not-stands_at.false in
    let version-yes : version_there c.args.slip.now ≡ true = sym c.stands_at-2.ensures ∙ c.if-not-stands_at-2.false in
    let b = c.args.slip.now in
    let size_is : set_by_size (length b - (10 + c.load-text.result)) ≡ set_by_size (length (signature_in b)) =
    ap set_by_size (ap (λ (n : ℕ). length b - (10 + n)) c.load-text.ensures ∙ sym (length-drop (signature_at b) b)) in
    let r = err_from_is_err_and c.from_residual.result c.from_residual.ensures.1 in
    let o = c.in_err-set.ensures in
    rw (r.1, r.2) (ap (λ e. Err (number_of e)) (missing _ o.value)
    ∙ split-no b 18 (yes-here 17 mark-yes (yes-here 18 version-yes (no-here 19 _ (no-set-fits b (sym size_is ∙ none-other 0 _ (sym o.ok_part ∙ c.set_by_size.ensures)))))))

pub returns : goal.returns
unfolding table
returns c =
    let mark-yes : mark_there c.args.slip.now ≡ true = sym c.stands_at.ensures ∙ c.if-not-stands_at.false in
    let version-yes : version_there c.args.slip.now ≡ true = sym c.stands_at-2.ensures ∙ c.if-not-stands_at-2.false in
    let b = c.args.slip.now in
    let t = c.load-text.ensures in
    let k = some-other 0 (set_by_size (length b - (10 + c.load-text.result))) (sym c.in_ok-set.ensures.ok_part ∙ c.set_by_size.ensures) in
    -- the set of the bytes behind the text
    let size_is : set_by_size (length b - (10 + c.load-text.result)) ≡ set_by_size (length (signature_in b)) =
    ap set_by_size (ap (λ (n : ℕ). length b - (10 + n)) t ∙ sym (length-drop (signature_at b) b)) in
    split-yes b _ _
    (yes-here 17 mark-yes (yes-here 18 version-yes (yes-here 19 (all-fits b c.if-n-lt10.false (omega (arith, t, c.if-text-gt512.false)) (λ z. k.1 (size_is ∙ z))) refl)))
    (ap (λ (n : ℕ). 10 + n) t) (sym k.0 ∙ size_is)
