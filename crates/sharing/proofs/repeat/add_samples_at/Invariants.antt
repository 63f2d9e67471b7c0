use Prim.Native.Nat.{◌*◌, ◌/◌, ◌≤◌}
use Rattle.sharing.specs.Blocks.{build}
use Rattle.sharing.specs.Region.{span, Wrote}
use Rattle.sharing.proofs.Added.{added, seeded}
use Rattle.sharing.proofs.repeat.add_samples_at.Given as goal

abbrev pub invariant-loop-j : goal.invariant-loop-j
invariant-loop-j l =
    (l.j ≤ l.d) × Wrote 0 l.at (l.j * 512) (build l.j (added (seeded l.d l.p.rep l.u (l.p.kappa / 8) l.seeds l.i l.t) (span l.initial.s l.at (l.d * 512)))) l.initial.s l.s
