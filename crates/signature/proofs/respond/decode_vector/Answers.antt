use Prim.Native.Nat.{◌*◌}
use native.Mathlib.Omega.{arith}
use Rattle.sharing.specs.Blocks.{block, total}
use Rattle.sharing.specs.Region.{span}
use Rattle.sharing.proofs.Lists.{inside}
use Rattle.sharing.proofs.Regions.{wrote-start}
use Rattle.sharing.proofs.Turns.{decode-turn, decode-end}
use borrow.Author.Rules.{rules}
use Rattle.signature.proofs.respond.decode_vector.Goals as goal

pub loop-i-init : goal.loop-i-init
loop-i-init c =
    let a = c in
    let b = a.args in
    let s = b.s.now in
    (search rules, wrote-start 512 (λ j. total b.p.shares (block (b.p.shares * 512) j (span s b.at (b.p.l * (b.p.shares * 512))))) 0 b.to s a.requires.2)

pub overflow_mul-a : goal.overflow_mul-a
overflow_mul-a c =
    omega (arith, inside c.loop-i.i c.args.p.l (c.args.p.shares * 512) (omega arith))

pub overflow_mul-a-in-loop-i : goal.overflow_mul-a-in-loop-i
overflow_mul-a-in-loop-i c =
    omega (arith, inside c.loop-i.i c.args.p.l (c.args.p.shares * 512) (omega arith))

pub overflow_add-a : goal.overflow_add-a
overflow_add-a c =
    omega (arith, inside c.loop-i.i c.args.p.l (c.args.p.shares * 512) (omega arith))

pub overflow_mul-b : goal.overflow_mul-b
overflow_mul-b c = omega arith

pub overflow_add-b : goal.overflow_add-b
overflow_add-b c = omega arith

pub decode_at-requires : goal.decode_at-requires
decode_at-requires c =
    let u = c.loop-i.invariant.1 in
    let n = u.long in
    let h = inside c.loop-i.i c.args.p.l (c.args.p.shares * 512) (omega arith) in
    (omega arith, omega arith, u.low)

pub loop-i-preserved : goal.loop-i-preserved
loop-i-preserved c =
    let l = c.loop-i in
    let a = c in
    let b = a.args in
    (omega arith, decode-turn 0 b.p.shares b.p.l b.at b.to l.i b.s.now l.s _ (omega arith) a.requires.0 c.loop-i-test.true l.invariant.1 c.decode_at.ensures)

pub returns : goal.returns
returns c =
    let b = c.args in
    let l = c.loop-i in
    decode-end 0 b.p.shares b.p.l b.at b.to l.i b.s.now l.s (omega arith) l.invariant.1
