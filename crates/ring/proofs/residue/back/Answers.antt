use mathlib.Core.Path.{subst}
use Prim.Native.Nat.{ℕ, ◌+◌, ◌*◌, ◌-◌, ◌%◌}
use native.Mathlib.Omega.{arith}
use Rattle.ring.specs.Residue.{prime}
use Rattle.ring.specs.Loose.{Loose}
use Rattle.ring.proofs.Tables.{prime-pos}
use Rattle.ring.proofs.LooseButterfly.{gentleman-sande}
use Rattle.ring.proofs.residue.back.Goals as goal

pub returns : goal.returns
returns c =
    let s = c.args in
    let t = c.mul_wide in
    gentleman-sande (prime-pos s.which) 16 s.w s.x s.y t.result (omega (arith, c.requires.1))
    (subst (λ (m : ℕ). Loose (prime s.which) 2 ((s.w * (s.y + (16 * m - s.x))) % prime s.which) t.result) c.modulus.ensures t.ensures)
