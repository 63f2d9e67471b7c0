use Prim.Native.Nat.{◌-◌, ◌*◌, ◌≤◌}
use Rattle.sharing.specs.Blocks.{build}
use Rattle.sharing.specs.Region.{span, Wrote}
use Rattle.signature.specs.AttemptSteps.{response_share}
use Rattle.signature.proofs.respond.respond_at.Given as goal

abbrev pub invariant-loop-j : goal.invariant-loop-j
invariant-loop-j l = (l.j ≤ l.d) × Wrote 0 l.b (l.j * 512) (build l.j (response_share l.c (span l.initial.s l.a (l.d * 512)) (span l.initial.s l.b (l.d * 512)))) l.initial.s l.s

abbrev pub decreases-loop-j : goal.decreases-loop-j
decreases-loop-j l = l.d - l.j
