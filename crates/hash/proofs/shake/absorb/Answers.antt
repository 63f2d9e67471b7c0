use mathlib.Core.Path.{◌≡◌, ap, ◌∙◌}
use Prim.Native.Nat.{◌+◌, ◌-◌, ◌*◌, ◌/◌, ◌%◌, ◌≤◌}
use native.Mathlib.Omega.{arith}
use lib.ListN.{length, drop, length-drop}
use lib.Seq.{take_all}
use Rattle.hash.specs.Shake.{absorb_from}
use Rattle.hash.proofs.Lanes.{absorb-mod}
use Rattle.hash.proofs.shake.absorb.Goals as goal

pub returns : goal.returns
returns c =
    let l = c.absorb_lanes-s in
    let b = c.args in
    let m = b.m.now in
    let w = 8 * (length b.m.now / 8) in
    let k = b.n % 136 + 8 * (length b.m.now / 8) % 136 in
    let f : length (drop (8 * (length b.m.now / 8)) b.m.now) ≤ length b.m.now - 8 * (length b.m.now / 8) = rw length-drop (omega arith) in
    let e : (b.n % 136 + 8 * (length b.m.now / 8) % 136) % 136 ≡ (b.n + 8 * (length b.m.now / 8)) % 136 = omega arith in
    c.absorb_bytes-2.ensures
    ∙ ap (absorb_from l.result k) (take_all (length m - w) (drop w m) f)
    ∙ absorb-mod (drop w m) l.result k (b.n + w) e
    ∙ l.ensures
