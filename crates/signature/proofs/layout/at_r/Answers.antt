use native.Mathlib.Omega.{arith}
use Rattle.signature.proofs.Sizes.{region-low}
use Rattle.signature.proofs.layout.at_r.Goals as goal

pub overflow_mul-result-2 : goal.overflow_mul-result-2
overflow_mul-result-2 c =
    let h = c.args.row.tabled in
    let m = region-low (h.columns-low, h.shares-low) in
    record { fits = omega (arith, m) }

pub overflow_add-result : goal.overflow_add-result
overflow_add-result c =
    let h = c.args.row.tabled in
    let m = region-low (h.columns-low, h.shares-low) in
    record { fits = omega (arith, m, c.at_s.ensures, h.shares-low) }
