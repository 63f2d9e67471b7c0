use mathlib.Core.Path.{refl, sym, ◌∙◌}
use Prim.Native.Nat.{◌*◌}
use native.Mathlib.Omega.{arith}
use lib.ListN.{length}
use Rattle.ring.proofs.Checks.{no-here, yes-here}
use Rattle.signature.specs.ExpandedKey.{expanded_bytes}
use Rattle.signature.proofs.Asked.{sizes}
use Rattle.signature.proofs.Digests.{good-front}
use Rattle.signature.proofs.keycheck.check_expanded.Goals as goal

pub returns-then-not-sized : goal.returns-then-not-sized
returns-then-not-sized c = no-here 3 _ (sym c.sized.ensures ∙ c.if-not-sized.true)

pub public_key_good-requires : goal.public_key_good-requires
public_key_good-requires c =
    let p = c.args.row.p in
    let s = sizes (length c.args.key.now) (expanded_bytes p) (length c.args.words.now) (p.l * (p.shares * 512)) (sym c.sized.ensures ∙ c.if-not-sized.false) in
    (omega (arith, s.0, c.args.row.tabled.vk), c.args.row.tabled.rows-low)

pub returns-then-not-public_key_good : goal.returns-then-not-public_key_good
returns-then-not-public_key_good c =
    yes-here 3 (sym c.sized.ensures ∙ c.if-not-sized.false)
    (no-here 4 _ (good-front c.args.row.p c.args.row.tabled c.args.key.now c.public_key_good.ensures ∙ c.if-not-public_key_good.true))

pub returns-then-not-all_below : goal.returns-then-not-all_below
returns-then-not-all_below c =
    yes-here 3 (sym c.sized.ensures ∙ c.if-not-sized.false)
    (yes-here 4 (good-front c.args.row.p c.args.row.tabled c.args.key.now c.public_key_good.ensures ∙ c.if-not-public_key_good.false)
    (no-here 5 _ (sym c.all_below.ensures ∙ c.if-not-all_below.true)))

pub returns : goal.returns
returns c =
    yes-here 3 (sym c.sized.ensures ∙ c.if-not-sized.false)
    (yes-here 4 (good-front c.args.row.p c.args.row.tabled c.args.key.now c.public_key_good.ensures ∙ c.if-not-public_key_good.false)
    (yes-here 5 (sym c.all_below.ensures ∙ c.if-not-all_below.false) refl))
