use mathlib.Core.Path.{◌≡◌}
use Prim.Native.Nat.{◌+◌, ◌*◌, ◌≤◌}
use Rattle.ring.specs.Rns.{words_of}
use Rattle.sharing.specs.Blocks.{build}
use Rattle.sharing.specs.Encoding.{skip}
use Rattle.sharing.specs.Masks.{masks}
use Rattle.sharing.specs.NoiseSteps.{noise_reps, lent_noise}
use Rattle.sharing.specs.Region.{span, Wrote}
use Rattle.signature.proofs.Images.{imaged, RowsDone}
use Rattle.signature.proofs.masked.image.Given as goal

abbrev pub invariant-loop-i : goal.invariant-loop-i
invariant-loop-i l =
    (l.i ≤ l.k)
    × Wrote (l.shares_at + l.a.row.p.shares * 512) l.to (l.i * 512) (build l.i (imaged l.a.row.p.shares l.a.row.p.l (noise_reps l.a.row.p l.noise) (lent_noise l.a.row.p l.noise) l.initial.x (words_of l.a.words.now) (span l.initial.s l.at (l.a.row.p.l * (l.a.row.p.shares * 512))))) l.initial.s l.s
    × (l.x ≡ skip masks l.a.row.p.shares (l.i * noise_reps l.a.row.p l.noise) l.initial.x)
    × RowsDone l.a.row.p.shares l.a.row.p.l (noise_reps l.a.row.p l.noise) (lent_noise l.a.row.p l.noise) l.initial.x (words_of l.a.words.now) (span l.initial.s l.at (l.a.row.p.l * (l.a.row.p.shares * 512))) l.shares_at l.s l.i
