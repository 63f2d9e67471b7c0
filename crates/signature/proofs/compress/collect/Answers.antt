use mathlib.Core.Path.{sym, ◌∙◌}
use Rattle.ring.proofs.Filled.{held-none, held-some}
use Prim.Native.Nat.{◌-◌, ◌*◌, ◌≤◌, ◌<◌}
use native.Mathlib.Nat.{mul-le-mul_right}
use native.Mathlib.Omega.{arith}
use Rattle.signature.proofs.Collected.{collect-start, collect-turn, collect-stop, collect-end}
use Rattle.signature.proofs.compress.collect.Goals as goal

pub load-x-requires : goal.load-x-requires
load-x-requires c =
    let p = c.requires in
    (omega (arith, p.0, p.3), p.4)

pub loop-i-init : goal.loop-i-init
loop-i-init c =
    let a = c in
    let b = a.args in
    (omega arith, a.requires.0, collect-start b.edition b.n b.seeds.now b.j b.s.now b.at b.d _ a.requires.0 c.load-x.ensures.0, c.load-x.ensures.1)

pub seeded_share-requires : goal.seeded_share-requires
seeded_share-requires c =
    let a = c in
    let b = a.args in
    let l = c.loop-i in
    let t : l.i < b.d = c.loop-i-test.true in
    let m : l.i * b.n ≤ (b.d - 1) * b.n = mul-le-mul_right b.n (omega (arith, t)) in
    (l.invariant.0, omega (arith, t, a.requires.1), a.requires.2, omega (arith, m, a.requires.5))

pub returns-in_err-r : goal.returns-in_err-r
returns-in_err-r c =
    let b = c.args in
    let l = c.loop-i in
    rw c.from_residual.ensures
    (collect-stop b.edition b.n b.seeds.now b.j b.s.now b.at b.d l.i l.invariant.0 c.loop-i-test.true (held-none _ (sym c.in_err-r.was ∙ c.seeded_share.ensures.0)), tt)

pub exchange-z-requires : goal.exchange-z-requires
exchange-z-requires c =
    let a = c in
    let l = c.loop-i in
    let t : l.i < a.args.d = c.loop-i-test.true in
    (omega (arith, t, a.requires.3), a.requires.4, l.invariant.3, c.in_ok-r.ensures.1)

pub loop-i-preserved : goal.loop-i-preserved
loop-i-preserved c =
    let a = c in
    let b = a.args in
    let l = c.loop-i in
    let t : l.i < b.d = c.loop-i-test.true in
    let g = held-some _ _ c.in_ok-r.ensures.0 in
    (omega arith, omega (arith, t), collect-turn b.edition b.n b.seeds.now b.j b.s.now b.at b.d l.i l.invariant.0 t l.x _ _ g l.invariant.2 c.exchange-z.ensures.0, c.exchange-z.ensures.1)

pub returns : goal.returns
returns c =
    let b = c.args in
    let l = c.loop-i in
    (collect-end b.edition b.n b.seeds.now b.j b.s.now b.at b.d l.i l.x (omega arith) l.invariant.2, l.invariant.3)
