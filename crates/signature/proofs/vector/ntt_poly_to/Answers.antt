use mathlib.Core.Path.{◌≡◌, sym, ap, subst, ◌∙◌}
use Prim.Native.Nat.{ℕ, ◌+◌, ◌-◌}
use native.Mathlib.Omega.{arith}
use lib.ListN.{take, drop}
use Rattle.ring.specs.Words.{Words}
use Rattle.ring.specs.Transform.{ntt}
use Rattle.sharing.proofs.Regions.{span-words}
use Rattle.signature.proofs.vector.ntt_poly_to.Goals as goal

pub ntt_residues-requires : goal.ntt_residues-requires
ntt_residues-requires c =
    let n : c.args.at + 512 - c.args.at ≡ 512 = omega arith in
    subst (Words 512) (sym (c.copy_from_slice.ensures.after ∙ ap (λ (k : ℕ). take k (drop c.args.at c.args.s.now)) n))
    (span-words c.args.s.now c.args.at 512 c.requires.0 c.requires.1)

pub returns : goal.returns
returns c =
    let n : c.args.at + 512 - c.args.at ≡ 512 = omega arith in
    let r = c.ntt_residues.ensures in
    (r.0 ∙ ap ntt (c.copy_from_slice.ensures.after ∙ ap (λ (k : ℕ). take k (drop c.args.at c.args.s.now)) n), r.1)
