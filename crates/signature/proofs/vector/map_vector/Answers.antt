use mathlib.Core.Path.{ap, ◌∙◌}
use Prim.Native.Nat.{◌*◌}
use native.Mathlib.Omega.{arith}
use Rattle.sharing.specs.Blocks.{block}
use Rattle.sharing.specs.Region.{span}
use Rattle.sharing.proofs.Lists.{inside}
use Rattle.sharing.proofs.Regions.{wrote_value, wrote-start, wrote-end}
use Rattle.sharing.proofs.Turns.{map-turn}
use Rattle.signature.proofs.vector.map_vector.Goals as goal

pub loop-i-init : goal.loop-i-init
loop-i-init g c = record {
  low = c.requires.bounds.1;
  mapped = λ φ h. wrote-start 512 (λ j. φ (block 512 j (span c.args.s.now c.args.at (c.args.n * 512)))) 0 c.args.at c.args.s.now c.requires.bounds.1;
}

pub load-requires : goal.load-requires
load-requires g c =
    (omega (arith, inside c.loop-i.i c.args.n 512 c.loop-i-test.true, c.requires.bounds.0, c.loop-i.auto.s), c.loop-i.invariant.low)

pub store_at-requires : goal.store_at-requires
store_at-requires g c =
    let w = c.requires.words _ _ c.load.ensures.1 c.f-p.ensures in
    (omega (arith, inside c.loop-i.i c.args.n 512 c.loop-i-test.true, c.requires.bounds.0, c.loop-i.auto.s), c.loop-i.invariant.low, w.low)

pub loop-i-preserved : goal.loop-i-preserved
loop-i-preserved g c =
    let l = c.loop-i in
    let a = c.args in
    record {
      low = c.store_at.ensures.low;
      mapped = λ φ h.
          map-turn φ 0 512 a.n a.at l.i a.s.now l.s _ (omega arith) c.loop-i-test.true (l.invariant.mapped φ h)
          (wrote_value (h _ _ c.load.ensures.1 c.f-p.ensures ∙ ap φ c.load.ensures.0) c.store_at.ensures);
    }

pub returns : goal.returns
returns g c = λ φ h. wrote-end 512 (λ j. φ (block 512 j (span c.args.s.now c.args.at (c.args.n * 512)))) (omega arith) (c.loop-i.invariant.mapped φ h)
