use mathlib.Core.Path.{◌≡◌}
use Prim.Native.Nat.{◌*◌, ◌≤◌}
use Rattle.sharing.specs.Region.{span, Wrote}
use Rattle.sharing.specs.Encoding.{skip, add_rep}
use Rattle.sharing.specs.EncodingSteps.{last_zero}
use Rattle.sharing.specs.Masks.{masks}
use Rattle.sharing.specs.NoiseSteps.{noise_reps, lent_noise}
use Rattle.sharing.proofs.repeat.add_noise_at.Given as goal

abbrev pub invariant-loop-t : goal.invariant-loop-t
invariant-loop-t l =
    (l.t ≤ noise_reps l.p l.noise)
    × Wrote (l.p.shares * 512) l.at (l.p.shares * 512)
    (add_rep masks l.p.shares l.initial.x l.t (lent_noise l.p l.noise l.i) (span l.initial.s l.at (l.p.shares * 512))) l.initial.s l.s
    × (l.x ≡ skip masks l.p.shares l.t l.initial.x)
    × (span l.s 0 (l.p.shares * 512) ≡ last_zero masks l.p.shares l.initial.x l.t (span l.initial.s 0 (l.p.shares * 512)))
