use Prim.Native.Nat.{min, ◌*◌, ◌≤◌}
use mathlib.Core.Path.{◌≡◌}
use lib.ListN.{length}
use Rattle.signature.specs.ChallengeSteps.{bytes_of}
use Rattle.signature.proofs.ChalRun.{Held, Carried}
use Rattle.signature.proofs.ChalBytes.{source_at}
use Rattle.signature.proofs.challenge.fill.Given as goal

abbrev pub invariant-loop-j : goal.invariant-loop-j
invariant-loop-j l = (length l.c ≡ 512) × Carried l.edition l.omega l.m l.b l.initial.map l.initial.c l.map l.c l.j

abbrev pub invariant-blocks-2 : goal.invariant-blocks-2
invariant-blocks-2 l =
    (l.n ≤ 1088) × (l.s ≡ source_at l.block l.initial.s)
    × Held l.edition (bytes_of l.initial.s) l.omega l.map l.c (min l.n (l.block * 68))
