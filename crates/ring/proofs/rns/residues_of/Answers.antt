use mathlib.Core.Path.{◌∙◌}
use lib.Dec.{lit≤}
use Rattle.ring.specs.declared.prime.Prime.{Prime}
use Rattle.ring.proofs.Crt.{crt-mods}
use Rattle.ring.proofs.Places.{length-mods}
use Rattle.ring.proofs.Recombined.{recombined-is, loose-residues}
use Rattle.ring.proofs.rns.residues_of.Goals as goal

pub words_of_two-requires : goal.words_of_two-requires
words_of_two-requires c =
    let f = c.args.f in
    (loose-residues Prime.Second 2 (lit≤ tt) _ _ (length-mods _ f ∙ c.requires.long) c.reduce_words.ensures, loose-residues Prime.First 2 (lit≤ tt) _ _ (length-mods _ f ∙ c.requires.long) c.reduce_words-2.ensures)

pub returns : goal.returns
returns c =
    let f = c.args.f in
    (c.words_of_two.ensures.0 ∙ recombined-is _ _ c.reduce_words.ensures.same c.reduce_words-2.ensures.same ∙ crt-mods f c.requires.low, c.words_of_two.ensures.1)
