use mathlib.Core.Path.{ap, ◌∙◌}
use Prim.Native.Nat.{◌*◌}
use native.Mathlib.Omega.{arith}
use Rattle.sharing.specs.Blocks.{build}
use Rattle.sharing.specs.Region.{span}
use Rattle.sharing.proofs.Lists.{inside}
use Rattle.sharing.proofs.Regions.{span-words, wrote_value, wrote-start, wrote-end}
use Rattle.signature.specs.AttemptSteps.{response_at}
use Rattle.signature.proofs.Responses.{answers-turn, response-is}
use borrow.Author.Rules.{rules}
use Rattle.signature.proofs.respond.respond_vector.Goals as goal

pub loop-i-init : goal.loop-i-init
loop-i-init c =
    let a = c in
    let b = a.args in
    let s = b.s.now in
    (search rules, wrote-start (b.d * 512) (response_at b.d c.ntt-t.result (span s b.a (b.l * (b.d * 512))) (span s b.b (b.l * (b.d * 512)))) 0 b.b s a.requires.2)

pub overflow_mul-u : goal.overflow_mul-u
overflow_mul-u c =
    omega (arith, inside c.loop-i.i c.args.l (c.args.d * 512) (omega arith))

pub overflow_mul-u-in-loop-i : goal.overflow_mul-u-in-loop-i
overflow_mul-u-in-loop-i c =
    omega (arith, inside c.loop-i.i c.args.l (c.args.d * 512) (omega arith))

pub overflow_add-u : goal.overflow_add-u
overflow_add-u c =
    omega (arith, inside c.loop-i.i c.args.l (c.args.d * 512) (omega arith))

pub overflow_mul-v : goal.overflow_mul-v
overflow_mul-v c =
    omega (arith, inside c.loop-i.i c.args.l (c.args.d * 512) (omega arith))

pub overflow_mul-v-in-loop-i : goal.overflow_mul-v-in-loop-i
overflow_mul-v-in-loop-i c =
    omega (arith, inside c.loop-i.i c.args.l (c.args.d * 512) (omega arith))

pub overflow_add-v : goal.overflow_add-v
overflow_add-v c =
    omega (arith, inside c.loop-i.i c.args.l (c.args.d * 512) (omega arith))

pub respond_at-requires : goal.respond_at-requires
respond_at-requires c =
    let u = c.loop-i.invariant.1 in
    let n = u.long in
    let h = inside c.loop-i.i c.args.l (c.args.d * 512) (omega arith) in
    (omega arith, omega arith, u.low, c.ntt-t.ensures.1)

pub loop-i-preserved : goal.loop-i-preserved
loop-i-preserved c =
    let l = c.loop-i in
    let a = c in
    let b = a.args in
    (omega arith, answers-turn c.ntt-t.result b.l b.d b.a b.b b.s.now a.requires.0 l.i l.s _ c.loop-i-test.true l.invariant.1 c.respond_at.ensures)

pub returns : goal.returns
returns c =
    let a = c in
    let b = a.args in
    let s = b.s.now in
    let p = a.requires in
    let L = b.l * (b.d * 512) in
    let X = span s b.a L in
    let Y = span s b.b L in
    let w_x = span-words s b.a L (omega (arith, p.0, p.1)) p.2 in
    let w_y = span-words s b.b L p.1 p.2 in
    let e = ap (λ t. build b.l (response_at b.d t X Y)) c.ntt-t.ensures.0 ∙ response-is b.c p.3 b.d b.l X Y w_x w_y in
    wrote_value e (wrote-end (b.d * 512) (response_at b.d c.ntt-t.result X Y) (omega arith) c.loop-i.invariant.1)
