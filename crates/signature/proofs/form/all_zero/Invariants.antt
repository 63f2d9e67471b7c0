use Prim.Native.Nat.{◌+◌, ◌*◌}
use mathlib.Core.Path.{◌≡◌}
use lib.ListN.{drop}
use Rattle.signature.specs.Bits.{bit_string}
use Rattle.signature.specs.AnswerSteps.{all_zero}
use Rattle.signature.proofs.form.all_zero.Given as goal

abbrev pub invariant-loop-i : goal.invariant-loop-i
invariant-loop-i l = all_zero (drop l.at (bit_string 8 l.buf)) ≡ all_zero (drop (l.at + 56 * l.i) (bit_string 8 l.buf))
