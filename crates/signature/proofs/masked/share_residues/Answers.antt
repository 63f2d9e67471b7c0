use mathlib.Core.Path.{sym, ap, subst, ◌∙◌}
use Prim.Native.Nat.{◌*◌, ◌^◌}
use native.Mathlib.Omega.{arith}
use Rattle.ring.specs.Words.{Residues}
use Rattle.ring.specs.Rns.{words_of}
use Rattle.sharing.specs.Region.{span}
use Rattle.sharing.proofs.Lists.{inside}
use Rattle.signature.specs.MaskedSteps.{shared_poly}
use Rattle.signature.proofs.InResidues.{residues-start, residues-turn}
use Rattle.signature.proofs.Rows.{shared-span}
use Rattle.signature.proofs.masked.share_residues.Goals as goal

pub loop-m-init : goal.loop-m-init
loop-m-init c = residues-start 0 _ _ c.requires.4

pub loop-m-preserved : goal.loop-m-preserved
loop-m-preserved c =
    let a = c.args in
    let l = c.loop-m in
    let x = c.copy_from_slice.ensures.after in
    residues-turn 0 l.m (shared_poly a.d (span a.s.now a.at (a.l * (a.d * 512))) a.j) (l.m * 512) _ l.out _
    (omega arith) (omega (arith, inside l.m a.l 512 c.loop-m-test.true, c.requires.3, l.invariant.long)) l.invariant
    (subst (Residues (2 ^ 60) 512) (sym x) c.residues_of-x.ensures.1)
    (ap words_of x ∙ c.residues_of-x.ensures.0 ∙ c.load.ensures.0 ∙ shared-span a.at a.l a.d a.j l.m a.s.now c.loop-m-test.true c.requires.2)
