use Prim.Native.Nat.{◌*◌, ◌-◌, ◌≤◌}
use mathlib.Core.Path.{◌≡◌}
use mathlib.Core.Option.{some}
use lib.ListN.{length, take, drop}
use Rattle.signature.specs.Bits.{bit_string}
use Rattle.signature.specs.Code.{read_codes}
use Rattle.signature.proofs.code.get_wide.Given as goal

abbrev pub invariant-loop-i : goal.invariant-loop-i
invariant-loop-i l =
    (l.i ≤ length l.out) × (l.at ≤ l.k) × (l.k ≤ length l.buf * 8) × (read_codes l.w l.i (drop l.at (bit_string 8 l.buf)) ≡ some (take l.i l.out, l.k - l.at))

abbrev pub decreases-loop-i : goal.decreases-loop-i
decreases-loop-i l = length l.out - l.i
