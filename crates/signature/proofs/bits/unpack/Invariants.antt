use mathlib.Core.Path.{◌≡◌}
use lib.ListN.{take}
use Rattle.signature.specs.Bits.{bit_string, chop}
use Rattle.signature.proofs.bits.unpack.Given as goal

abbrev pub invariant-loop-i : goal.invariant-loop-i
invariant-loop-i l = take l.i l.out ≡ chop l.w l.i (bit_string 8 l.bytes)
