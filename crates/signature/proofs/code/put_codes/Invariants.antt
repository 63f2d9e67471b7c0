use Prim.Native.Nat.{◌+◌, ◌^◌, ◌<◌, ◌≤◌}
use mathlib.Core.Path.{◌≡◌}
use lib.ListN.{length, take}
use lib.Seq.{sets}
use Rattle.signature.specs.Bits.{bits_of, bit_string}
use Rattle.signature.specs.Code.{codes}
use Rattle.signature.proofs.code.put_codes.Given as goal

abbrev pub invariant-loop-z : goal.invariant-loop-z
invariant-loop-z l =
    (l.have ≤ 56) × (l.held < 2 ^ l.have) × (l.p + l.have ≡ l.at + length (codes l.w (take l.z-index l.zs)))
    × (sets (bit_string 8 l.buf) l.p (bits_of l.have l.held) ≡ sets (bit_string 8 l.initial.buf) l.at (codes l.w (take l.z-index l.zs)))
