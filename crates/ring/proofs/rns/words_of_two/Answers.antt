use mathlib.Core.Path.{◌≡◌, sym, ap, ◌∙◌, subst}
use Prim.Native.Nat.{ℕ, ◌+◌, ◌*◌, ◌^◌}
use native.Mathlib.Omega.{arith}
use lib.Dec.{lit<}
use Rattle.ring.specs.Words.{Below}
use Rattle.ring.specs.Poly.{map2}
use Rattle.ring.specs.Rns.{words_of}
use Rattle.ring.proofs.Pairs.{each-low, each_more, each-end}
use Rattle.ring.proofs.Recombined.{two-words, below_two}
use Rattle.ring.proofs.Sums.{below_at}
use Rattle.ring.proofs.rns.words_of_two.Goals as goal

pub word_of_two-requires : goal.word_of_two-requires
word_of_two-requires c =
    let l = c.loop-i in
    (each-low _ _ _ l.i l.a l.invariant _ (lit< tt) c.requires.0.low, below_at _ (lit< tt) c.args.b.now c.requires.1.low l.i)

pub loop-i-preserved : goal.loop-i-preserved
loop-i-preserved c =
    let l = c.loop-i in
    each_more _ _ _ l.i l.a l.invariant c.word_of_two.result (omega arith) (c.requires.0.long ∙ sym c.requires.1.long) c.word_of_two.ensures

pub returns : goal.returns
returns c =
    let l = c.loop-i in
    let e : l.a ≡ map2 (λ (x y : ℕ). x * 2 ^ 30 + y) c.args.a.now c.args.b.now =
    each-end _ _ _ l.i l.a l.invariant (omega arith) (c.requires.0.long ∙ sym c.requires.1.long) in (
      ap words_of e ∙ two-words c.args.a.now c.args.b.now c.requires.1.low,
      record {
        long = l.invariant.long ∙ c.requires.0.long;
        low = subst (Below (2 ^ 60)) (sym e) (below_two c.args.a.now c.args.b.now c.requires.0.low c.requires.1.low);
      },
    )
