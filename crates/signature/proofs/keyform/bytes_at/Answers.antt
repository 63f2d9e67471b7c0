use Prim.Native.Nat.{◌+◌, ◌-◌}
use mathlib.Core.Path.{◌≡◌}
use native.Mathlib.Omega.{arith}
use lib.ListN.{length}
use Rattle.sharing.proofs.Regions.{put_back}
use Rattle.signature.proofs.keyform.bytes_at.Goals as goal

pub returns : goal.returns
returns c =
    let at = c.args.at in
    let n = length c.args.p.now in
    let k : at + n - at ≡ n = omega arith in
    put_back c.args.out.now at k c.copy_into.ensures
