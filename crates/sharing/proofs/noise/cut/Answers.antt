use mathlib.Core.Path.{◌≡◌, refl, sym, ◌∙◌}
use native.Mathlib.Omega.{arith}
use lib.ListN.{length-set}
use Rattle.hash.proofs.Table.{table_none}
use Rattle.sharing.specs.Noise.{sample_at}
use Rattle.sharing.proofs.Small.{sample-more}
use borrow.Author.Rules.{rules}
use Rattle.sharing.proofs.noise.cut.Goals as goal

pub loop-i-init : goal.loop-i-init
loop-i-init c = (search rules, refl, sym (table_none _))

pub loop-i-preserved : goal.loop-i-preserved
unfolding sample_at
loop-i-preserved c =
    let v = c.loop-i.invariant in
    let w : c.signed_low.result ≡ sample_at c.args.u c.args.b.now c.loop-i.i =
    c.signed_low.ensures ∙ rw (c.load.ensures, c.requires.2) in
    (search rules, simp length-set v.1, sample-more (sample_at c.args.u c.args.b.now) c.loop-i.p c.loop-i.i c.signed_low.result (omega arith) v.2 w)
