use Prim.Native.Nat.{◌-◌, ◌*◌, ◌≤◌}
use Rattle.sharing.specs.Blocks.{build}
use Rattle.sharing.specs.Region.{span, Wrote}
use Rattle.signature.specs.AttemptSteps.{response_at}
use Rattle.signature.proofs.respond.respond_vector.Given as goal

abbrev pub invariant-loop-i : goal.invariant-loop-i
invariant-loop-i l = (l.i ≤ l.l) × Wrote 0 l.b (l.i * (l.d * 512)) (build l.i (response_at l.d l.t (span l.initial.s l.a (l.l * (l.d * 512))) (span l.initial.s l.b (l.l * (l.d * 512))))) l.initial.s l.s

abbrev pub decreases-loop-i : goal.decreases-loop-i
decreases-loop-i l = l.l - l.i
