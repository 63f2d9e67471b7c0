use mathlib.Core.Path.{◌≡◌, sym, ◌∙◌}
use mathlib.Core.Bool.{true}
use native.Mathlib.Omega.{arith}
use lib.ListN.{length}
use borrow.Author.Tests.{eq-eqb, ne_eqb, le-leb, lt-leb}
use Rattle.ring.proofs.Sums.{all-below}
use Rattle.signature.specs.Checks.{public_key_sized, public_key_good}
use Rattle.signature.specs.Keys.{vk_vector}
use Rattle.ring.proofs.Checks.{no-here, yes-here}
use Rattle.signature.proofs.verify.verify_with.Goals as goal

pub returns-then-vk-p : goal.returns-then-vk-p
returns-then-vk-p c =
    no-here 3 _ (ne_eqb _ _ c.if-vk-p.true)

pub returns-then-not-public_key_good : goal.returns-then-not-public_key_good
unfolding vk_vector
returns-then-not-public_key_good c =
    let sized : public_key_sized c.args.row.p c.args.vk.now ≡ true = eq-eqb (length c.args.vk.now) c.args.row.p.vk_bytes c.if-vk-p.false in
    let good : public_key_good c.args.row.p c.args.vk.now ≡ c.public_key_good.result = sym c.public_key_good.ensures in
    yes-here 3 sized (no-here 4 _ (good ∙ c.if-not-public_key_good.true))

pub returns-then-msg-gt4096 : goal.returns-then-msg-gt4096
unfolding vk_vector
returns-then-msg-gt4096 c =
    let sized : public_key_sized c.args.row.p c.args.vk.now ≡ true = eq-eqb (length c.args.vk.now) c.args.row.p.vk_bytes c.if-vk-p.false in
    let good : public_key_good c.args.row.p c.args.vk.now ≡ c.public_key_good.result = sym c.public_key_good.ensures in
    yes-here 3 sized
    (yes-here 4 (good ∙ c.if-not-public_key_good.false) (no-here 9 _ (lt-leb _ 4096 c.if-msg-gt4096.true)))

pub returns-then-sig-p : goal.returns-then-sig-p
unfolding vk_vector
returns-then-sig-p c =
    let sized : public_key_sized c.args.row.p c.args.vk.now ≡ true = eq-eqb (length c.args.vk.now) c.args.row.p.vk_bytes c.if-vk-p.false in
    let good : public_key_good c.args.row.p c.args.vk.now ≡ c.public_key_good.result = sym c.public_key_good.ensures in
    yes-here 3 sized
    (yes-here 4 (good ∙ c.if-not-public_key_good.false)
    (yes-here 9 (le-leb (length c.args.msg.now) 4096 (omega (arith, c.if-msg-gt4096.false))) (no-here 13 _ (ne_eqb _ _ c.if-sig-p.true))))

pub verify_fields-requires : goal.verify_fields-requires
unfolding vk_vector
verify_fields-requires c =
    let good : public_key_good c.args.row.p c.args.vk.now ≡ c.public_key_good.result = sym c.public_key_good.ensures in
    (c.if-vk-p.false, all-below 125 (vk_vector c.args.row.p c.args.vk.now) (good ∙ c.if-not-public_key_good.false), c.if-sig-p.false)

pub returns : goal.returns
unfolding vk_vector
returns c =
    let sized : public_key_sized c.args.row.p c.args.vk.now ≡ true = eq-eqb (length c.args.vk.now) c.args.row.p.vk_bytes c.if-vk-p.false in
    let good : public_key_good c.args.row.p c.args.vk.now ≡ c.public_key_good.result = sym c.public_key_good.ensures in
    yes-here 3 sized
    (yes-here 4 (good ∙ c.if-not-public_key_good.false)
    (yes-here 9 (le-leb (length c.args.msg.now) 4096 (omega (arith, c.if-msg-gt4096.false))) (yes-here 13 (eq-eqb _ _ c.if-sig-p.false) c.verify_fields.ensures)))
