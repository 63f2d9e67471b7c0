use mathlib.Core.Path.{◌≡◌, sym, ◌∙◌}
use mathlib.Core.Bool.{true, false}
use Rattle.ring.specs.Words.{q, all_below}
use Rattle.bench.proofs.bench_ntt.Goals as goal

pub returns-then-not-all_below : goal.returns-then-not-all_below
returns-then-not-all_below c =
    let b = c in
    let e : all_below q b.args.f.now ≡ false = sym b.all_below.ensures ∙ c.if-not-all_below.true in
    (sym e, rw e)

pub returns : goal.returns
returns c =
    let b = c in
    let e : all_below q b.args.f.now ≡ true = sym b.all_below.ensures ∙ c.if-not-all_below.false in
    (sym e, rw e c.ntt.ensures.0)
