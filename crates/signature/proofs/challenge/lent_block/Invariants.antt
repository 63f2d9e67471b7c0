use Prim.Native.Nat.{ℕ, ◌+◌, ◌*◌}
use mathlib.Core.Path.{◌≡◌}
use mathlib.Core.List.{◌++◌}
use lib.ListN.{get_or, drop}
use Rattle.hash.specs.Lists.{table}
use Rattle.signature.proofs.challenge.lent_block.Given as goal

abbrev pub invariant-loop-j : goal.invariant-loop-j
invariant-loop-j l = l.b ≡ table (λ (k : ℕ). get_or l.bytes (l.i * 136 + k) 0) l.j ++ drop l.j l.initial.b
