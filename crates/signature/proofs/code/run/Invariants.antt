use Prim.Native.Nat.{◌+◌}
use mathlib.Core.Path.{◌≡◌}
use lib.ListN.{drop}
use Rattle.signature.specs.Bits.{bit_string}
use Rattle.signature.specs.Code.{run_of}
use Rattle.signature.proofs.code.run.Given as goal

abbrev pub invariant-loop-n : goal.invariant-loop-n
invariant-loop-n l = run_of (drop l.at (bit_string 8 l.buf)) ≡ l.n + run_of (drop (l.at + l.n) (bit_string 8 l.buf))
