use mathlib.Core.Path.{◌≡◌, refl, ap, ◌∙◌}
use Prim.Native.Nat.{◌-◌, ◌*◌, ◌/◌}
use native.Mathlib.Numerals.{add-one}
use native.Mathlib.Omega.{arith}
use lib.ListN.{length}
use Rattle.hash.specs.Keccak.{keccak_f}
use Rattle.hash.specs.Shake.{after}
use Rattle.hash.proofs.Table.{filled_none}
use Rattle.hash.proofs.Laid.{one_block, last_block}
use Rattle.hash.proofs.shake.squeeze.Goals as goal

pub loop-i-init : goal.loop-i-init
unfolding after
loop-i-init c = (refl, filled_none _ _)

pub loop-i-preserved : goal.loop-i-preserved
unfolding after
loop-i-preserved c =
    let v = c.loop-i.invariant in (
      rw add-one (c.permute-t.ensures ∙ ap keccak_f v.0),
      rw (c.put_block.ensures, v.1) (one_block c.args.a c.loop-i.s c.args.out.now c.loop-i.i v.0 (omega arith)),
    )

pub returns : goal.returns
returns c =
    let i : c.loop-i.i ≡ (length c.args.out.now - 1) / 136 = omega arith in
    let e : c.saturating_sub-before.result / 136 ≡ c.loop-i.i = omega arith in
    let n = length c.args.out.now - 136 * c.loop-i.i in (
      rw (c.copy_from_slice.ensures.after, c.block.ensures, c.loop-i.auto.out, e, c.loop-i.invariant.1)
          (last_block c.args.a c.loop-i.s c.args.out.now c.loop-i.i c.loop-i.invariant.0 n (omega arith) (omega arith)),
      rw i at c.loop-i.invariant.0,
    )
