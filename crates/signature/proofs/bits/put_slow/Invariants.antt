use mathlib.Core.Path.{◌≡◌}
use lib.Seq.{sets}
use Rattle.signature.specs.Bits.{bits_of, bit_string}
use Rattle.signature.proofs.bits.put_slow.Given as goal

abbrev pub invariant-loop-k : goal.invariant-loop-k
invariant-loop-k l = bit_string 8 l.buf ≡ sets (bit_string 8 l.initial.buf) l.at (bits_of l.k l.v)
