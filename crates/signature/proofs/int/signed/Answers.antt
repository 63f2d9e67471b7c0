use mathlib.Core.Path.{◌∙◌}
use lib.IntN.{pos}
use mir.Syntax.{w64}
use mir.ValLaws.{to_z_pos}
use borrow.Author.Rules.{sfits_of}
use Rattle.signature.proofs.Signs.{neg-fits, neg-held, signed-pos, signed-neg}
use Rattle.signature.proofs.int.signed.Goals as goal

pub overflow_sub-result : goal.overflow_sub-result
overflow_sub-result c = neg-fits (pos c.args.m) (sfits_of c.requires) c.requires

pub returns-then-s-eq0 : goal.returns-then-s-eq0
returns-then-s-eq0 c = to_z_pos w64 _ c.requires ∙ signed-pos _ _ c.if-s-eq0.true

pub returns-else-s-eq0 : goal.returns-else-s-eq0
returns-else-s-eq0 c = neg-held (pos c.args.m) (sfits_of c.requires) c.requires ∙ signed-neg _ _ c.if-s-eq0.false
