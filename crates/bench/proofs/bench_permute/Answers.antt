use mathlib.Core.Path.{◌≡◌, sym, ap}
use native.Mathlib.Numerals.{add-one}
use native.Mathlib.Omega.{arith}
use borrow.Author.Rules.{rules}
use Rattle.hash.specs.Keccak.{keccak_f}
use Rattle.hash.proofs.Output.{after_none, after_next}
use Rattle.bench.proofs.bench_permute.Goals as goal

pub loop-init : goal.loop-init
loop-init c = (search rules, sym (after_none _))

pub loop-preserved : goal.loop-preserved
loop-preserved c = (search rules, rw (add-one, after_next, c.permute-t.ensures) (ap keccak_f c.loop.invariant.1))

pub returns : goal.returns
returns c =
    let l = c in
    let e : l.loop.counter ≡ l.args.n = omega arith in
    rw (l.loop.invariant.1, e, l.start-s.ensures)
