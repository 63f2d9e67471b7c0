use mathlib.Core.Path.{◌≡◌, sym, ◌∙◌}
use mathlib.Core.Bool.{true, false}
use borrow.Author.Rules.{rules}
use Rattle.ring.specs.Words.{q, all_below, Words}
use Rattle.ring.proofs.Sums.{all-below}
use Rattle.ring.proofs.Theorems.{product}
use Rattle.bench.proofs.bench_product.Goals as goal

pub returns-then-not-all_below : goal.returns-then-not-all_below
returns-then-not-all_below c =
    let b = c in
    let e : all_below q b.args.f.now ≡ false = sym b.all_below.ensures ∙ c.if-not-all_below.true in
    (rw e, search rules)

pub returns-then-not-all_below-2 : goal.returns-then-not-all_below-2
returns-then-not-all_below-2 c =
    let b = c in
    let a = b.args in
    let e : all_below q a.f.now ≡ true = sym b.all_below.ensures ∙ b.if-not-all_below.false in
    let h : all_below q a.g.now ≡ false = sym c.all_below-2.ensures ∙ c.if-not-all_below-2.true in
    (rw (e, h), search rules)

pub returns : goal.returns
returns c =
    let n = c in
    let t = n in
    let b = t in
    let o = b in
    let a = o.args in
    let e : all_below q a.f.now ≡ true = sym o.all_below.ensures ∙ o.if-not-all_below.false in
    let h : all_below q a.g.now ≡ true = sym b.all_below-2.ensures ∙ b.if-not-all_below-2.false in
    let wf : Words 512 a.f.now = record { long = search rules; low = all-below q a.f.now e } in
    let wg : Words 512 a.g.now = record { long = search rules; low = all-below q a.g.now h } in (
      rw (e, h),
      rw (c.intt.ensures.0, c.pointwise.ensures.0, n.ntt-b.ensures.0, t.ntt-a.ensures.0) (product a.f.now a.g.now wf wg),
    )
