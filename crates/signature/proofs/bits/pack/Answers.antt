use Prim.Native.Nat.{◌+◌, ◌-◌, ◌≤◌}
use mathlib.Core.Path.{refl, ◌∙◌}
use native.Mathlib.Omega.{arith}
use lib.ListN.{length, get_or}
use Rattle.signature.proofs.Packer.{pack-start, word_room, last-place, keep, store, finish, top-fits}
use Rattle.signature.proofs.bits.pack.Goals as goal

pub loop-word-init : goal.loop-word-init
loop-word-init c = (omega arith, pack-start c.args.w c.args.words.now c.args.out.now)

pub overflow_add-acc : goal.overflow_add-acc
overflow_add-acc c =
    let l = c.loop-word in
    let a = c.args in
    omega (arith, top-fits l.acc c.low-x.result l.have a.w (get_or a.words.now l.word-index 0) l.invariant.1.low (omega arith) c.low-x.ensures)

pub loop-word-preserved-then-have-w-lt64 : goal.loop-word-preserved-then-have-w-lt64
loop-word-preserved-then-have-w-lt64 c =
    let l = c.loop-word in
    let a = c.args in (
      c.if-have-w-lt64.true,
      keep a.w a.words.now a.out.now l.out l.word-index l.j l.acc l.have l.invariant.1 _ c.loop-word-test.true c.low-x.ensures c.if-have-w-lt64.true,
    )

pub overflow_add-acc-in-loop-word : goal.overflow_add-acc-in-loop-word
overflow_add-acc-in-loop-word c =
    let l = c.loop-word in
    omega (arith, top-fits l.acc c.low.result l.have (64 - l.have) c.low-x.result l.invariant.1.low (omega (arith, l.invariant.0)) c.low.ensures)

pub put_word-requires : goal.put_word-requires
put_word-requires c =
    let l = c.loop-word in
    let a = c.args in
    let e =
    word_room a.w a.words.now a.out.now l.out l.word-index l.j l.acc l.have l.invariant.1 (length a.out.now) c.loop-word-test.true c.requires.w_len (omega arith) in
    omega arith

pub overflow_add-j : goal.overflow_add-j
overflow_add-j c =
    let l = c.loop-word in
    let a = c.args in
    let e =
    word_room a.w a.words.now a.out.now l.out l.word-index l.j l.acc l.have l.invariant.1 (length a.out.now) c.loop-word-test.true c.requires.w_len (omega arith) in
    omega arith

pub loop-word-preserved : goal.loop-word-preserved
loop-word-preserved c =
    let l = c.loop-word in
    let a = c.args in
    let k : 64 ≤ l.have + a.w = omega (arith, c.if-have-w-lt64.false) in
    let h = c.loop-word-test.true in
    let e = word_room a.w a.words.now a.out.now l.out l.word-index l.j l.acc l.have l.invariant.1 (length a.out.now) h c.requires.w_len k in (
      omega arith,
      store a.w a.words.now a.out.now l.out l.word-index l.j l.acc l.have l.invariant.1 _ h c.low-x.ensures (64 - l.have) _ refl k l.invariant.0 c.low.ensures _
          (omega (arith, e)) c.put_word.ensures,
    )

pub overflow_mul-j : goal.overflow_mul-j
overflow_mul-j c =
    let l = c.loop-word in
    let a = c.args in
    let e =
    last-place a.w a.words.now a.out.now l.out l.word-index l.j l.acc l.have l.invariant.1 (length a.out.now) l.auto.word-index-end (omega arith) c.requires.w_len in
    omega arith

pub put_slow-requires-clause-w_in_bounds : goal.put_slow-requires-clause-w_in_bounds
put_slow-requires-clause-w_in_bounds c =
    let l = c.loop-word in
    let a = c.args in
    let e =
    last-place a.w a.words.now a.out.now l.out l.word-index l.j l.acc l.have l.invariant.1 (length a.out.now) l.auto.word-index-end (omega arith) c.requires.w_len in
    omega arith

pub returns : goal.returns
returns c =
    let l = c.loop-word in
    let a = c.args in
    finish a.w a.words.now a.out.now l.out l.word-index l.j l.acc l.have l.invariant.1 _ (omega arith) (c.put_slow.auto.buf ∙ l.auto.out) c.requires.w_len
    (λ j. (c.type_inv.out j).fits) c.put_slow.ensures
