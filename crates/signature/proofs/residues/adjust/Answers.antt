use mathlib.Core.Path.{ap, sym, ◌∙◌}
use Prim.Native.Nat.{ℕ, ◌+◌, ◌%◌}
use native.Mathlib.Omega.{arith}
use lib.Dec.{lit<}
use lib.IntN.{pos}
use lib.ListN.{get_or}
use mir.Syntax.{w64}
use mir.Val.{SFits}
use mir.ValLaws.{to_z-of_z}
use borrow.Author.Rules.{rules}
use Rattle.ring.specs.Round.{residues}
use Rattle.ring.proofs.Pairs.{take-turn, take-end}
use Rattle.ring.proofs.Reduced.{length-residues, residues-at}
use Rattle.ring.proofs.Sums.{length-zip, zip-at, below_at}
use Rattle.signature.specs.Recover.{add31}
use Rattle.signature.proofs.residues.adjust.Goals as goal

pub overflow_add-x : goal.overflow_add-x
overflow_add-x c = record { fits = omega (arith, below_at 31 (lit< tt) c.args.y c.requires.residues.0.low c.loop-i.i, c.residue-h.ensures.1) }

pub loop-i-preserved : goal.loop-i-preserved
loop-i-preserved c =
    let i = c.loop-i.i in
    let y = c.args.y in
    let hs = c.args.hint.now in
    let n = length-residues 31 hs in
    let long = c.requires.residues.0.long in
    let s : SFits w64 (get_or hs i (pos 0)) = search rules in
    take-turn _ _ _ _ (omega arith) (omega (arith, long, n, length-zip add31 y (residues 31 hs))) c.loop-i.invariant
    (ap (λ (x : ℕ). (get_or y i 0 + x) % 31) (simp to_z-of_z at c.residue-h.ensures.0 ∙ sym (residues-at 31 hs (pos 0) i (omega arith)))
    ∙ sym (zip-at add31 y (residues 31 hs) i (omega (arith, long)) (omega (arith, n))))

pub returns : goal.returns
returns c =
    let hs = c.args.hint.now in
    take-end _ _ c.loop-i.i (omega arith)
    (omega (arith, c.requires.residues.0.long, length-residues 31 hs, length-zip add31 c.args.y (residues 31 hs))) c.loop-i.invariant
