use native.Mathlib.Omega.{arith}
use Rattle.signature.proofs.Sizes.{region-low}
use Rattle.signature.proofs.layout.at_t.Goals as goal

pub overflow_add-result : goal.overflow_add-result
overflow_add-result c =
    let h = c.args.row.tabled in
    let m = region-low (h.columns-low, h.shares-low) in
    record { fits = omega (arith, m, c.at_r.ensures, h.shares-low) }
