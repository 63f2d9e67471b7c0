use mathlib.Core.Path.{◌∙◌}
use native.Mathlib.Nat.{one-mul}
use native.Mathlib.Omega.{arith}
use Rattle.ring.proofs.Barrett.{word_low}
use Rattle.ring.proofs.LoosePairs.{loose-each-low, loose-each-more, loose-each-end}
use Rattle.ring.proofs.Places.{scale-rests}
use Rattle.ring.proofs.Tables.{prime-pos}
use Rattle.ring.proofs.residue.reduce_words.Goals as goal

pub barrett-requires : goal.barrett-requires
barrett-requires c =
    let l = c.loop-x in
    word_low c.args.which _ (loose-each-low _ _ _ _ (prime-pos c.args.which) l.x-index l.a l.invariant _ (omega arith) c.requires)

pub loop-x-preserved : goal.loop-x-preserved
loop-x-preserved c =
    let l = c.loop-x in
    let pos = prime-pos c.args.which in
    loose-each-more _ 1 _ _ pos l.x-index l.a l.invariant c.barrett.result (omega arith) (simp one-mul c.barrett.ensures)

pub returns : goal.returns
returns c =
    let l = c.loop-x in
    let s = c.args in
    let e = loose-each-end _ _ _ _ (prime-pos s.which) l.x-index l.a l.invariant (omega arith) in
    record { low = e.low; same = e.same ∙ scale-rests (prime-pos s.which) s.a.now }
