use mathlib.Core.List.{List}
use mathlib.Core.Path.{refl, sym, ap, ◌∙◌}
use Prim.Native.Nat.{ℕ}
use borrow.Author.Tests.{eq-eqb, ne_eqb}
use Rattle.ring.specs.Words.{q, all_below}
use Rattle.signature.specs.Keys.{full_share}
use Rattle.ring.proofs.Checks.{no-here, yes-here}
use Rattle.signature.proofs.Digests.{good-front}
use Rattle.signature.proofs.Sizes.{part-all}
use Rattle.signature.proofs.keycheck.check_packed.Goals as goal

pub returns-then-key-p : goal.returns-then-key-p
returns-then-key-p c = no-here 3 _ (ne_eqb _ _ c.if-key-p.true)

pub returns-then-not-public_key_good : goal.returns-then-not-public_key_good
returns-then-not-public_key_good c =
    yes-here 3 (eq-eqb _ _ c.if-key-p.false)
    (no-here 4 _ (good-front c.args.row.p c.args.row.tabled c.args.key.now c.public_key_good.ensures ∙ c.if-not-public_key_good.true))

pub returns-then-not-full_share_good : goal.returns-then-not-full_share_good
returns-then-not-full_share_good c =
    let a = c.args in
    yes-here 3 (eq-eqb _ _ c.if-key-p.false)
    (yes-here 4 (good-front a.row.p c.args.row.tabled a.key.now c.public_key_good.ensures ∙ c.if-not-public_key_good.false)
    (no-here 5 _ (sym (c.full_share_good.ensures ∙ ap (λ (l : List ℕ). all_below q (full_share a.row.p l)) (part-all a.row.p.vk_bytes a.key.now)) ∙ c.if-not-full_share_good.true)))

pub returns : goal.returns
returns c =
    let a = c.args in
    yes-here 3 (eq-eqb _ _ c.if-key-p.false)
    (yes-here 4 (good-front a.row.p c.args.row.tabled a.key.now c.public_key_good.ensures ∙ c.if-not-public_key_good.false)
    (yes-here 5 (sym (c.full_share_good.ensures ∙ ap (λ (l : List ℕ). all_below q (full_share a.row.p l)) (part-all a.row.p.vk_bytes a.key.now)) ∙ c.if-not-full_share_good.false) refl))
