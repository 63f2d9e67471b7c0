use Prim.Native.Nat.{◌-◌}
use mathlib.Core.Path.{◌≡◌, sym, ap, ◌∙◌}
use native.Mathlib.Omega.{arith}
use borrow.Author.Tests.{lt-leb}
use lib.ListN.{length, take, drop, length-drop}
use lib.Seq.{take-length}
use Rattle.signature.specs.Checks.{same_bytes}
use Rattle.slip.proofs.Parsed.{too_short, stands-as}
use Rattle.slip.proofs.read.stands_at.Goals as goal

pub returns-then-at-slip : goal.returns-then-at-slip
returns-then-at-slip c =
    let s = c.args.slip.now in
    let at = c.args.at in
    let x = c.args.x.now in
    let behind : take (length s - at) (drop at s) ≡ drop at s = ap (λ n. take n (drop at s)) (sym (length-drop at s)) ∙ take-length (drop at s) in
    c.starts_with.ensures.value ∙ stands-as (take (length x) (take (length s - at) (drop at s))) x ∙ ap (λ y. same_bytes (take (length x) y) x) behind

pub returns-else-at-slip : goal.returns-else-at-slip
returns-else-at-slip c =
    let s = c.args.slip.now in
    let l = c.if-at-slip.false in
    lt-leb c.args.at (length s) l ∙ too_short s c.args.x.now c.args.at c.requires.1 (omega (arith, l))
