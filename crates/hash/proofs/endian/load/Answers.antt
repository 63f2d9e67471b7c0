use mathlib.Core.Path.{◌≡◌, refl}
use Prim.Native.Nat.{◌+◌, ◌*◌, ◌^◌, ◌<◌}
use native.Mathlib.Numerals.{add-one}
use native.Mathlib.Omega.{arith}
use lib.ListN.{get_or}
use lib.Pow.{shl_exact}
use Rattle.hash.specs.Endian.{le}
use Rattle.hash.proofs.Word.{on-top}
use borrow.Author.Rules.{rules}
use Rattle.hash.proofs.endian.load.Goals as goal

pub loop-j-init : goal.loop-j-init
unfolding le
loop-j-init c = (search rules, refl, search rules)

pub loop-j-preserved : goal.loop-j-preserved
unfolding le
loop-j-preserved c =
    let v = c.loop-j.invariant in
    let j = c.loop-j.j in
    let b = get_or c.args.m.now (c.args.at + c.loop-j.j) 0 in
    let h : get_or c.args.m.now (c.args.at + c.loop-j.j) 0 < 2 ^ 8 = omega (arith, c.type_inv.m (c.args.at + c.loop-j.j)) in
    let t = on-top c.loop-j.x b (8 * j) v.2 h in
    let s = shl_exact 8 (8 * j) 64 h (omega arith) in
    let e : 8 * (j + 1) ≡ 8 * j + 8 = omega arith in (
      search rules,
      rw (add-one, c.from.ensures, s, t.0, v.1),
      rw (c.from.ensures, s, t.0, e) t.1,
    )
