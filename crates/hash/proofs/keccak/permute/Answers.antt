use mathlib.Core.Path.{◌≡◌, refl}
use Prim.Native.Nat.{suc, ◌+◌, ◌*◌}
use native.Mathlib.Numerals.{add-one}
use native.Mathlib.Omega.{arith}
use Rattle.hash.specs.Keccak.{rounds, keccak_f}
use borrow.Author.Rules.{rules}
use Rattle.hash.proofs.keccak.permute.Goals as goal

pub loop-i-init : goal.loop-i-init
unfolding rounds
loop-i-init c = (search rules, refl)

pub loop-i-preserved : goal.loop-i-preserved
unfolding rounds
loop-i-preserved c =
    let i = c.loop-i.i in
    let e : 2 * (i + 1) ≡ suc (suc (2 * i)) = omega arith in
    (search rules, rw (e, c.rounds_two-t.ensures, c.loop-i.invariant.1, add-one))

pub returns : goal.returns
unfolding keccak_f
returns c = let e : 2 * c.loop-i.i ≡ 24 = omega arith in rw (c.loop-i.invariant.1, e)
