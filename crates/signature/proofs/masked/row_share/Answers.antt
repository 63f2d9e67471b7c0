use mathlib.Core.Path.{refl, ap, ◌∙◌}
use Prim.Native.Nat.{ℕ, ◌*◌, ◌^◌, ◌<◌}
use native.Mathlib.Omega.{arith}
use lib.Dec.{lit<}
use Rattle.ring.specs.Rns.{words_of}
use Rattle.ring.specs.Transform.{intt}
use Rattle.ring.proofs.Sums.{words-zeros, below-zeros}
use Rattle.sharing.specs.Region.{span}
use Rattle.signature.specs.MaskedSteps.{shared_poly}
use Rattle.signature.proofs.Rows.{row-share-is, shared-block, shared_long}
use Rattle.signature.proofs.masked.row_share.Goals as goal

pub share_residues-requires : goal.share_residues-requires
share_residues-requires c =
    (c.requires.0, c.requires.1, c.requires.5, omega (arith, (words-zeros 3584).long, c.requires.4), below-zeros (2 ^ 60) (lit< tt) 3584)

pub apply_row-requires : goal.apply_row-requires
apply_row-requires c =
    let r = c.share_residues.ensures in record { hi_value = (refl, refl, c.requires.4); l_in_bounds = (c.requires.2, c.requires.3, omega (arith, r.1, (words-zeros 3584).long, c.requires.4), r.2) }

pub returns : goal.returns
returns c =
    let b = c.args in
    let r = c.share_residues in
    let X = span b.s.now b.at (b.l * (b.d * 512)) in
    let T = span (words_of b.a.now) b.from (b.l * 512) in
    let Z = words_of r.new.out in
    let e : (m : ℕ) → m < b.l → _ =
    λ (m : ℕ) (h : m < b.l). shared-block b.l m (shared_poly b.d X b.j) _ Z h (shared_long b.at b.l b.d b.j b.s.now c.requires.5 c.requires.0) r.ensures.0 in
    (c.intt_sums.ensures.0 ∙ ap intt c.apply_row.ensures.0 ∙ row-share-is b.d b.l T X Z b.j e, c.intt_sums.ensures.1)
