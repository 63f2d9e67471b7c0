use mathlib.Core.Path.{◌≡◌}
use Prim.Native.Nat.{◌+◌, ◌-◌}
use native.Mathlib.Omega.{arith}
use Rattle.sharing.specs.Region.{span}
use Rattle.sharing.proofs.Regions.{span-words}
use Rattle.sharing.proofs.region.load.Goals as goal

pub returns : goal.returns
returns c =
    let s = c.args.s.now in
    let at = c.args.at in
    let k : at + 512 - at ≡ 512 = omega arith in
    let e : c.copy_from_slice.new.self ≡ span s at 512 = rw k at c.copy_from_slice.ensures.after in
    (e, rw e (span-words s at 512 c.requires.0 c.requires.1))
