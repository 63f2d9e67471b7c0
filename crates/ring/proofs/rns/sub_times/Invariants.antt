use Prim.Native.Nat.{ℕ, ◌+◌, ◌-◌}
use Rattle.ring.specs.Poly.{map2}
use Rattle.ring.specs.Rns.{times_in, multiple}
use Rattle.ring.proofs.Pairs.{Each}
use Rattle.ring.proofs.rns.sub_times.Given as goal

abbrev pub invariant-loop-i : goal.invariant-loop-i
invariant-loop-i l = Each (λ (y z : ℕ). y + (multiple l.which - z)) l.initial.s (map2 (times_in l.which) l.a l.x) l.i l.s
