use mathlib.Core.Path.{◌≡◌, ap, ◌∙◌}
use mathlib.Core.Bool.{false}
use mathlib.Core.List.{[]}
use Prim.Native.Nat.{◌+◌, ◌<◌}
use native.Mathlib.Omega.{arith}
use Rattle.ring.proofs.Draws.{front-none, front_kept, front-over}
use Rattle.hash.specs.Lists.{zeros}
use Rattle.ring.specs.Words.{q}
use Rattle.sharing.specs.Masks.{flagged}
use Rattle.sharing.proofs.Carry.{moved_none, used-none, draw-more, dry-poly, filled-poly, unfilled-poly}
use borrow.Author.Tests.{not-true, not-false}
use Rattle.sharing.proofs.masks.fill.Goals.{then-w-lt-Q, else-w-lt-Q}
use Rattle.sharing.proofs.masks.fill.Goals as goal

pub returns-then-not-g : goal.returns-then-not-g
returns-then-not-g c =
    let d = dry-poly c.args.g (not-true _ c.if-not-g.true) in
    (c.fill.ensures.after (λ y h. h) ∙ ap zeros c.requires ∙ d.0, d.1)

pub loop-init : goal.loop-init
loop-init c = (omega arith, moved_none c.args.g _ c.settled-h.ensures, used-none _, front-none _ c.args.p.now 0 c.requires (omega arith))

pub loop-preserved : goal.loop-preserved
loop-preserved c =
    let l = c.loop in
    let v = l.invariant in
    let d = c.draw-w in
    let t = draw-more c.settled-h.result l.h d.new.g d.result l.p l.counter l.k v.1 d.ensures.0 d.ensures.1 (omega arith) v.3 v.0 in
    elim c.if-w-lt-Q.branch [ then-w-lt-Q w ↦ (omega (arith, w.k-is), t.1, t.2, rw w.k-is (front_kept _ [] l.p l.counter l.k _ v.3 t.0 (omega (arith, v.0)) w.if-w-lt-Q.true)) | else-w-lt-Q w ↦ (omega (arith, w.k-is, v.0), t.1, t.2, rw w.k-is (front-over _ [] l.p l.counter l.k _ v.3 t.0 w.if-w-lt-Q.false)) ]

pub returns-then-k-eq512 : goal.returns-then-k-eq512
returns-then-k-eq512 c =
    let l = c.loop in
    let v = l.invariant in
    let d = c.draw-w in
    let h = c.settled-h.result in
    let t = draw-more h l.h d.new.g d.result l.p l.counter l.k v.1 d.ensures.0 d.ensures.1 (omega arith) v.3 v.0 in
    let filled = λ (k : c.loop.k + 1 ≡ 512) (w : c.draw-w.result < q).
    filled-poly c.args.g h (not-false _ c.if-not-g.false) c.settled-h.ensures _ (l.counter + 1) (l.k + 1) t.2
    (front_kept _ [] l.p l.counter l.k _ v.3 t.0 (omega (arith, v.0)) w) (omega arith) k in
    elim c.if-w-lt-Q.branch [ then-w-lt-Q w ↦ let f = filled (omega (arith, w.k-is)) w.if-w-lt-Q.true in (f.0, t.1 ∙ f.1) | else-w-lt-Q w ↦ absurd (omega (arith, w.k-is, v.0)) ]

pub returns : goal.returns
returns c =
    let v = c.loop.invariant in
    let f = unfilled-poly c.args.g c.settled-h.result (not-false _ c.if-not-g.false) c.settled-h.ensures c.loop.p c.loop.counter c.loop.k v.2 v.3 (omega arith) v.0 in
    (c.fill-2.ensures.after (λ y h. h) ∙ ap zeros (c.loop.auto.p ∙ c.requires) ∙ f.0, c.dried.ensures ∙ ap (flagged false) v.1 ∙ f.1)
