use mathlib.Core.Path.{◌≡◌, refl}
use Prim.Native.Nat.{◌+◌, ◌-◌}
use native.Mathlib.Omega.{arith}
use lib.ListN.{length}
use Rattle.sharing.proofs.Regions.{put_back, wrote-put}
use Rattle.signature.proofs.load.load_words.Goals as goal

pub returns : goal.returns
returns c =
    let s = c.args.s.now in
    let x = c.args.words.now in
    let at = c.args.at in
    let k : at + length x - at ≡ length x = omega arith in
    wrote-put at (length x) x s _ c.requires.0 refl c.requires.1 c.requires.2 (put_back s at k c.copy_into.ensures)
