use Prim.Native.Nat.{◌<◌}
use Rattle.signature.proofs.Packer.{Packed}
use Rattle.signature.proofs.bits.pack.Given as goal

abbrev pub invariant-loop-word : goal.invariant-loop-word
invariant-loop-word l = (l.have < 64) × Packed l.w l.words l.initial.out l.out l.word-index l.j l.acc l.have
