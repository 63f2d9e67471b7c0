use mathlib.Core.List.{List}
use Prim.Native.Nat.{ℕ}
use mathlib.Core.Path.{ap, ◌∙◌}
use lib.ListN.{length}
use Rattle.ring.specs.declared.prime.Prime.{Prime}
use Rattle.ring.specs.Residue.{prime, zeta, mods, fwd}
use Rattle.ring.proofs.Recombined.{recombined-is, forth-residues}
use Rattle.ring.proofs.Theorems.{ntt-by-rests}
use Rattle.ring.proofs.rns.ntt_residues.Goals as goal

pub words_of_two-requires : goal.words_of_two-requires
words_of_two-requires c =
    let f = c.args.a.now in
    let l = c.copy_from_slice.ensures.after in (
      forth-residues Prime.Second f _ c.requires.long c.forward_words.ensures,
      forth-residues Prime.First c.copy_from_slice.new.self _ (ap length l ∙ c.requires.long) c.forward_words-2.ensures,
    )

pub returns : goal.returns
returns c =
    let f = c.args.a.now in
    let e = ap (λ (x : List ℕ). fwd (prime Prime.First) (zeta Prime.First) 9 1 (mods (prime Prime.First) x)) c.copy_from_slice.ensures.after in (
      c.words_of_two.ensures.0 ∙ recombined-is _ _ c.forward_words.ensures.same (c.forward_words-2.ensures.same ∙ e) ∙ ntt-by-rests f c.requires.long,
      c.words_of_two.ensures.1,
    )
