use Prim.Native.Nat.{ℕ, ◌*◌, ◌-◌, ◌≤◌}
use mathlib.Core.Path.{◌≡◌}
use mathlib.Core.Option.{some}
use lib.IntN.{pos}
use lib.ListN.{length, get_or, take, drop}
use Rattle.signature.specs.Bits.{bit_string}
use Rattle.signature.specs.Code.{read_codes}
use Rattle.signature.proofs.code.get_small.Given as goal

abbrev pub invariant-loop-i : goal.invariant-loop-i
invariant-loop-i l =
    (l.i ≤ length l.out) × (l.at ≤ l.k) × (l.k ≤ length l.buf * 8)
    × (read_codes 0 l.i (drop l.at (bit_string 8 l.buf)) ≡ some (take l.i l.out, l.k - l.at)) × ((p : ℕ) → l.i ≤ p → get_or l.out p (pos 0) ≡ pos 0)

abbrev pub decreases-loop-i : goal.decreases-loop-i
decreases-loop-i l = length l.out - l.i
