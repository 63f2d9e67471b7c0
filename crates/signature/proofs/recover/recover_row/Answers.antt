use mathlib.Core.Path.{◌≡◌, refl, ap, ◌∙◌}
use mathlib.Core.List.{List}
use Prim.Native.Nat.{ℕ, ◌*◌, ◌^◌, ◌≤◌}
use native.Mathlib.Omega.{arith}
use Rattle.ring.specs.Rns.{words_of}
use Rattle.ring.specs.Transform.{ntt, intt, pointwise}
use Rattle.ring.specs.Words.{sub_w}
use Rattle.ring.proofs.Recombined.{length-words}
use Rattle.ring.proofs.Sums.{residues-wider}
use Rattle.sharing.specs.Region.{span}
use Rattle.signature.proofs.Recovered.{recovered-by}
use Rattle.signature.proofs.recover.recover_row.Goals as goal

pub apply_row-requires : goal.apply_row-requires
apply_row-requires c = let p = c.requires.l_in_bounds in record { hi_value = (refl, refl, p.4); l_in_bounds = (p.0, p.1, p.2, p.3) }

pub sub_product-requires : goal.sub_product-requires
sub_product-requires c =
    let r = c.apply_row.ensures in
    let k : 8 * 2 ^ 60 ≤ 14 * 2 ^ 60 = omega arith in record { residues = (residues-wider (14 * 2 ^ 60) k _ r.1, residues-wider (14 * 2 ^ 60) k _ r.2); residues_2 = (c.requires.residues.0, c.ntt_residues.ensures.1) }

pub returns : goal.returns
returns c =
    let a = c in
    let b = a.args in
    let s = c.intt_sums.ensures in
    let U = words_of c.ntt_residues.new.a in
    let u : U ≡ _ = c.ntt_residues.ensures.0 ∙ ap ntt c.scale_t-u.ensures.0 in
    let T = span (words_of b.a.now) b.from (b.l * 512) in
    let e = c.sub_product.ensures.same ∙ ap (λ (x : List ℕ). sub_w x (pointwise (words_of b.c.now) U)) c.apply_row.ensures.0 in
    (s.0 ∙ ap intt e ∙ recovered-by b.l T (words_of b.z.now) (words_of b.c.now) b.t U u (length-words b.c.now ∙ a.requires.residues.0.long), s.1)
