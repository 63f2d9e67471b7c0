use mathlib.Core.Path.{◌≡◌, sym, ◌∙◌}
use Prim.Native.Nat.{◌+◌, ◌-◌, ◌*◌}
use native.Mathlib.Omega.{arith}
use Rattle.ring.specs.Words.{add_w}
use Rattle.sharing.specs.Region.{span}
use Rattle.sharing.proofs.Regions.{span-words, put_back, wrote-put}
use Rattle.ring.proofs.Sums.{words-add}
use Rattle.sharing.proofs.shares.add_shares_at.Goals as goal

pub add_into-requires : goal.add_into-requires
add_into-requires c =
    let k : c.args.at + c.args.p.shares * 512 - c.args.at ≡ c.args.p.shares * 512 = omega arith in
    let k2 : c.args.from + c.args.p.shares * 512 - c.args.from ≡ c.args.p.shares * 512 = omega arith in
    let ws = span-words c.args.s.now c.args.at (c.args.p.shares * 512) c.requires.0 c.requires.2 in
    let wn = span-words c.args.words.now c.args.from (c.args.p.shares * 512) c.requires.1 c.requires.3 in
    rw (k, k2) (ws.long ∙ sym wn.long, ws.low, wn.low)

pub returns : goal.returns
returns c =
    let s = c.args.s.now in
    let at = c.args.at in
    let m = c.args.p.shares * 512 in
    let y = span c.args.words.now c.args.from m in
    let k : at + m - at ≡ m = omega arith in
    let k2 : c.args.from + m - c.args.from ≡ m = omega arith in
    let w = words-add (span s at m) y (span-words s at m c.requires.0 c.requires.2) in
    let e : c.add_into.new.s ≡ add_w (span s at m) y = rw (k, k2) at c.add_into.ensures.0 in
    wrote-put at m (add_w (span s at m) y) s _ c.requires.0 w.long c.requires.2 w.low (put_back s at k e)
