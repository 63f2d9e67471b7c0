use mathlib.Core.Path.{◌≡◌}
use lib.ListN.{replicate}
use lib.Seq.{sets}
use Rattle.signature.specs.Bits.{bit_string}
use Rattle.signature.proofs.bits.put_run.Given as goal

abbrev pub invariant-loop-k : goal.invariant-loop-k
invariant-loop-k l = bit_string 8 l.buf ≡ sets (bit_string 8 l.initial.buf) l.at (replicate l.k l.b)
