use mathlib.Core.Path.{◌≡◌, refl, sym, ap, ◌∙◌}
use Prim.Native.Nat.{◌<◌}
use native.Mathlib.Omega.{arith}
use lib.ListN.{length}
use Rattle.sharing.specs.Encoding.{later}
use Rattle.sharing.specs.Masks.{masks, mask_poly, mask_next}
use Rattle.sharing.proofs.Totals.{later-none, later_more}
use Rattle.sharing.proofs.Carry.{mask_low}
use Rattle.sharing.proofs.Pairs.{masked-start, pairs-words, masked-mid, masked-turn}
use borrow.Author.Rules.{rules}
use Rattle.sharing.proofs.encoding.mask_pairs.Goals as goal

pub loop-j-init : goal.loop-j-init
loop-j-init c = (
  search rules,
  refl,
  masked-start masks mask_low c.args.s.now c.args.h c.args.g c.requires,
  sym (later-none masks c.args.g),
)

pub add_at-requires : goal.add_at-requires
add_at-requires c =
    let e = c.loop-j.invariant.2 in
    let w = pairs-words masks mask_low c.args.s.now c.args.h c.args.g c.requires c.loop-j.j in
    let n = ap length e ∙ w.long in
    let p = c.fill-x.ensures.0 in
    (omega arith, rw e w.low, rw p (mask_low c.loop-j.x).low)

pub sub_at-requires : goal.sub_at-requires
sub_at-requires c =
    let f = c.fill-x in
    let j = c.loop-j.j in
    let h = c.args.h in
    let lt : j < h = c.loop-j-test.true in
    let p = f.ensures.0 in
    let w = masked-mid masks mask_low c.args.s.now h c.args.g c.requires j lt c.loop-j.s f.new.p
    c.add_at.new.s c.loop-j.invariant.2 (p ∙ ap mask_poly c.loop-j.invariant.3)
    c.add_at.ensures in
    let n = w.long in
    (omega arith, w.low, rw p (mask_low c.loop-j.x).low)

pub loop-j-preserved : goal.loop-j-preserved
loop-j-preserved c =
    let f = c.fill-x in
    let j = c.loop-j.j in
    let lt : j < c.args.h =
    c.loop-j-test.true in
    let p : f.new.p ≡ mask_poly (later masks j c.args.g) = f.ensures.0 ∙ ap mask_poly c.loop-j.invariant.3 in (
      omega arith,
      ap length p ∙ (mask_low (later masks j c.args.g)).long,
      masked-turn masks mask_low c.args.s.now c.args.h c.args.g c.requires j lt c.loop-j.s f.new.p
          c.add_at.new.s c.loop-j.invariant.2 p
          c.add_at.ensures c.sub_at.new.s
          c.sub_at.ensures,
      f.ensures.1 ∙ ap mask_next c.loop-j.invariant.3 ∙ sym (later_more masks j c.args.g),
    )
