use mathlib.Core.Path.{◌≡◌, sym, ◌∙◌}
use Prim.Native.Nat.{◌+◌, ◌-◌, ◌*◌}
use native.Mathlib.Omega.{arith}
use Rattle.sharing.proofs.Regions.{put_back, wrote-put}
use Rattle.sharing.specs.Encoding.{zero_at}
use Rattle.sharing.specs.Masks.{masks}
use Rattle.sharing.proofs.Totals.{zero-first, skip_first, zero_at-words}
use Rattle.sharing.proofs.Carry.{mask_low}
use Rattle.hash.proofs.Rows.{count-power}
use Rattle.sharing.proofs.encoding.zero_encoding_at.Goals as goal

pub returns : goal.returns
returns c =
    let at = c.args.at in
    let d = c.args.d in
    let s = c.args.s.now in
    let k : at + d * 512 - at ≡ d * 512 = omega arith in
    let z = c.zero_encoding.ensures in
    let w = zero_at-words masks mask_low d (count-power d c.requires.0) 0 c.args.g in (
      wrote-put at (d * 512) (zero_at masks d 0 c.args.g) s _ c.requires.1 w.long c.requires.2 w.low
          (put_back s at k (z.0 ∙ sym (zero-first masks d c.args.g))),
      z.1 ∙ sym (skip_first masks d c.args.g),
    )
