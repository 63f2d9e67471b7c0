use mathlib.Core.Path.{refl}
use native.Mathlib.Omega.{arith}
use borrow.Author.Rules.{rules}
use Rattle.hash.proofs.Table.{filled_none}
use Rattle.signature.proofs.ChalBytes.{byte_more, byte-all}
use Rattle.signature.proofs.challenge.lent_block.Goals as goal

pub loop-j-init : goal.loop-j-init
loop-j-init c = filled_none _ _

pub loop-j-preserved : goal.loop-j-preserved
loop-j-preserved c = byte_more _ _ _ _ _ c.loop-j.invariant c.loop-j-test.true (search rules)

pub returns : goal.returns
returns c = byte-all _ _ _ _ 136 c.loop-j.invariant (omega arith) refl
