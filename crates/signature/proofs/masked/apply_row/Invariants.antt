use Prim.Native.Nat.{◌*◌, ◌≤◌}
use Rattle.ring.specs.Rns.{words_of}
use Rattle.sharing.specs.Region.{span}
use Rattle.signature.proofs.Rows.{Applying}
use Rattle.signature.proofs.masked.apply_row.Given as goal

abbrev pub invariant-loop-m : goal.invariant-loop-m
invariant-loop-m l = (l.m ≤ l.l) × Applying (span (words_of l.a) l.from (l.l * 512)) (words_of l.z) l.m l.hi l.lo
