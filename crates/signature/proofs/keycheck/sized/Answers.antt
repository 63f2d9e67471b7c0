use mathlib.Core.Bool.{Bool}
use mathlib.Core.Path.{sym, ap}
use Prim.Native.Nat.{◌*◌}
use native.Mathlib.Omega.{arith}
use lib.Dec.{eqb}
use lib.ListN.{length}
use borrow.Author.Tests.{eq-eqb, ne_eqb}
use Rattle.signature.specs.Checks.{both}
use Rattle.signature.proofs.Expanded.{words-few}
use Rattle.signature.proofs.keycheck.sized.Goals as goal

pub overflow_add-p : goal.overflow_add-p
overflow_add-p c =
    omega (arith, c.args.row.tabled.vk, c.args.row.tabled.seed-low, c.args.row.tabled.rows-low, c.args.row.tabled.hash-low)

pub returns-then-bytes-p : goal.returns-then-bytes-p
returns-then-bytes-p c =
    let a = c.args in
    ap (λ (x : Bool). both x (eqb (length a.words.now) (a.row.p.l * (a.row.p.shares * 512)))) (sym (ne_eqb _ _ c.if-bytes-p.true))

pub overflow_mul-result-2 : goal.overflow_mul-result-2
overflow_mul-result-2 c = omega (arith, words-few c.args.row.p c.args.row.tabled)

pub returns : goal.returns
returns c =
    let a = c.args in
    ap (λ (x : Bool). both x (eqb (length a.words.now) (a.row.p.l * (a.row.p.shares * 512)))) (sym (eq-eqb _ _ c.if-bytes-p.false))
