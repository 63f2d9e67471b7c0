use mathlib.Core.Path.{◌≡◌}
use Prim.Native.Nat.{◌+◌, ◌-◌}
use native.Mathlib.Omega.{arith}
use Rattle.sharing.proofs.Regions.{put_back, wrote-put}
use borrow.Author.Rules.{rules}
use Rattle.sharing.proofs.region.store_at.Goals as goal

pub returns : goal.returns
returns c =
    let at = c.args.at in
    let k : at + 512 - at ≡ 512 = omega arith in
    wrote-put at 512 c.args.p.now c.args.s.now _ c.requires.0 (search rules) c.requires.1 c.requires.2
    (put_back c.args.s.now at k c.copy_into.ensures)
