use mathlib.Core.Path.{◌≡◌}
use Prim.Native.Nat.{◌+◌, ◌-◌}
use native.Mathlib.Omega.{arith}
use lib.ListN.{length}
use Rattle.sharing.proofs.Regions.{length-span, below_span}
use borrow.Author.Rules.{rules}
use Rattle.sharing.proofs.region.add_at.Goals as goal

pub add_into-requires : goal.add_into-requires
add_into-requires c =
    let at = c.args.at in
    let k : at + 512 - at ≡ 512 = omega arith in
    let n = length-span c.args.s.now at 512 c.requires.0 in
    let m : length c.args.p.now ≡ 512 = search rules in
    rw k (omega arith, below_span c.args.s.now at 512 c.requires.1, c.requires.2)
