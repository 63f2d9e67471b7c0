use mathlib.Core.Path.{sym, subst}
use Prim.Native.Nat.{ℕ, ◌+◌, ◌*◌, ◌-◌}
use Rattle.ring.specs.Residue.{prime}
use Rattle.ring.specs.Loose.{CooleyTukey}
use Rattle.ring.proofs.Tables.{prime-pos}
use Rattle.ring.proofs.LooseButterfly.{cooley-tukey}
use Rattle.ring.proofs.residue.cross.Goals as goal

pub returns : goal.returns
returns c =
    let s = c.args in
    let t = c.mul_wide-t in
    subst (λ (m : ℕ). CooleyTukey (prime s.which) s.w s.x s.y (s.x + t.result) (s.x + (2 * m - t.result))) (sym c.modulus.ensures)
    (cooley-tukey (prime-pos s.which) s.w s.x s.y t.result t.ensures)
