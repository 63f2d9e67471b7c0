use Prim.Native.Nat.{◌*◌}
use native.Mathlib.Omega.{arith}
use Rattle.sharing.specs.Region.{span}
use Rattle.sharing.proofs.Regions.{wrote-start, wrote-end}
use Rattle.signature.specs.AttemptSteps.{response_share}
use Rattle.signature.proofs.Responses.{answer-turn}
use borrow.Author.Rules.{rules}
use Rattle.signature.proofs.respond.respond_at.Goals as goal

pub loop-j-init : goal.loop-j-init
loop-j-init c =
    let a = c in
    let b = a.args in
    let s = b.s.now in
    (search rules, wrote-start 512 (response_share b.c (span s b.a (b.d * 512)) (span s b.b (b.d * 512))) 0 b.b s a.requires.2)

pub respond_share-p-requires : goal.respond_share-p-requires
respond_share-p-requires c =
    let u = c.loop-j.invariant.1 in
    let n = u.long in
    (omega arith, omega arith, u.low, c.requires.3)

pub store_at-requires : goal.store_at-requires
store_at-requires c =
    let u = c.loop-j.invariant.1 in
    let n = u.long in
    (omega arith, u.low, c.respond_share-p.ensures.1.low)

pub loop-j-preserved : goal.loop-j-preserved
loop-j-preserved c =
    let l = c.loop-j in
    let a = c in
    let b = a.args in
    (omega arith, answer-turn b.c b.d b.a b.b b.s.now a.requires.0 l.j l.s _ _ c.loop-j-test.true l.invariant.1 c.respond_share-p.ensures.0 c.store_at.ensures)

pub returns : goal.returns
returns c =
    let b = c.args in
    let s = b.s.now in
    wrote-end 512 (response_share b.c (span s b.a (b.d * 512)) (span s b.b (b.d * 512))) (omega arith) c.loop-j.invariant.1
