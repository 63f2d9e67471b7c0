use native.Mathlib.Omega.{arith}
use Rattle.signature.proofs.Sizes.{region-low}
use Rattle.signature.proofs.layout.at_x.Goals as goal

pub overflow_add-result : goal.overflow_add-result
overflow_add-result c =
    let h = c.args.row.tabled in
    let m = region-low (h.columns-low, h.shares-low) in
    record { fits = omega (arith, m, c.at_t.ensures, h.rows-low, h.shares-low) }
